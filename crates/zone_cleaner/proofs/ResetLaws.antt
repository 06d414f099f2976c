-- The victim is emptied, and the clean ends.
use Rattle.std.proofs.Common.{◌≡◌, ◌≢◌, ℕ, ◌<◌, ◌≤◌, Bool, true, false, ◌||◌, eqb, List, [], ◌∷◌, ◌++◌, length, set, get_or, Option, Some, None, refl, sym, ap, ◌∙◌, inl, inr, arith}
use Rattle.std.specs.List.{AllByRecursion, list_any}
use Rattle.std.specs.Option.{option_map}
use Rattle.std.proofs.lemmas.Bool.{cases_eq, eq-eqb}
use Rattle.std.proofs.lemmas.List.{get_or-set_other, get_or-set_same, length-map, length-set}
use Rattle.drive_port.specs.Drive.{DriveState, IsLawful}
use Rattle.drive_port.specs.Contents.{Content, Resets, content_at, contents, emptied, nothing}
use Rattle.batch_log.specs.Log.{Batch, log_size}
use Rattle.logical_map.specs.Live.{live}
use Rattle.zone_choice.specs.declared.roles.Filling.{Filling}
use Rattle.zone_choice.specs.declared.roles.Second.{Second}
use Rattle.zone_choice.specs.declared.roles.Second.TheVariants.{Next, Destination}
use Rattle.zone_choice.specs.Agreement.{Agrees, HoldsFilling, MountedView, RolesAgree, mounted}
use Rattle.drive_array.specs.ZoneLogs.{HasLog, drive_logs, log_at, encoded, encoded_array, zone_log}
use Rattle.drive_array.specs.Laws.{OnlyTorn}
use Rattle.drive_array.specs.Mountable.{IsMountable}
use Rattle.drive_array.specs.Records.{place, shown, without}
use Rattle.drive_array.specs.Repair.{HasAtMost}
use Rattle.drive_array.specs.Reserve.{batch_most}
use Rattle.zone_choice.specs.Roles.{IsOccupied, RolesView, fillings, is_at, is_filling_at, filling_list}
use Rattle.drive_array.specs.Sizes.{larger, log_greatest, map_of}
use Rattle.drive_array.specs.Spare.{IsSpare}
use Rattle.zone_choice.specs.Tables.{TablesView}
use Rattle.zone_choice.proofs.AgreementLaws.{StaysFailed, agrees_mountable, no_tails}
use Rattle.drive_array.proofs.AllLaws.{all-set}
use Rattle.zone_choice.proofs.CommandLaws.{filling-in_range}
use Rattle.zone_choice.proofs.ContentLaws.{same-filled}
use Rattle.drive_array.proofs.MountLaws.{emptied-log, spare_resets}
use Rattle.zone_choice.proofs.OpenLaws.{OpensNone, tells-kept}
use Rattle.zone_choice.proofs.RolesLaws.{second_list}
use Rattle.drive_array.proofs.SizeLaws.{empty_spare}
use Rattle.zone_cleaner.specs.Clean.{CleanView, Follows, IsClean, destination_written}
use Rattle.zone_choice.specs.Roles.{clean_ended, ended, is_sealed_at}
use Rattle.zone_choice.proofs.MarkLaws.{differ-ended}
use Rattle.drive_array.proofs.DeadLaws.{greatest-without, told-without}
use Rattle.zone_cleaner.proofs.CleanLaws.{clean_spare, live-parts}
use Rattle.zone_cleaner.proofs.PlaceLaws.{dead-zone}
use Rattle.zone_cleaner.proofs.SealedLaws.{of-second, sealed-apart, sealed-in_range, sealed-zone, second-filling, zone-logs}
use Rattle.zone_cleaner.proofs.StepLaws.{ResetDue}

-- ---- roles

fillings_ended : (host : Option Filling) (second : Option Second) → filling_list host ++ second_list (option_map ended second) ≡ filling_list host ++ second_list second
fillings_ended host None = refl
fillings_ended host (Some (Next f)) = refl
fillings_ended host (Some (Destination f)) = refl

fillings-ended : (roles : RolesView) (victim : ℕ) → fillings (clean_ended roles victim) ≡ fillings roles
fillings-ended roles victim = fillings_ended roles.host roles.second

away-all : (zone : ℕ) (fs : List Filling) → list_any (is_at zone) fs ≡ false → AllByRecursion (λ (f : Filling). f.zone ≢ zone) fs
away-all zone [] none = tt
away-all zone (f ∷ fs) none = by (eqb f.zone zone) refl none (away-all zone fs)
  where
    by : (b : Bool) → eqb f.zone zone ≡ b → (b || list_any (is_at zone) fs) ≡ false → (list_any (is_at zone) fs ≡ false → AllByRecursion (λ (f : Filling). f.zone ≢ zone) fs) → AllByRecursion (λ (f : Filling). f.zone ≢ zone) (f ∷ fs)
    by true e none rest = absurd (cc)
    by false e none rest = ((λ same. let bad = eq-eqb f.zone zone same in absurd (cc)), rest none)

all-both : {X : Type 0} (P Q R : X → Type 0) (xs : List X) → ((x : X) → P x → Q x → R x) → AllByRecursion P xs → AllByRecursion Q xs → AllByRecursion R xs
all-both P Q R [] f p q = tt
all-both P Q R (x ∷ xs) f p q = (f x p.0 q.0, all-both P Q R xs f p.1 q.1)

roles-reset : (capacity : ℕ) (old new : List Content) (logs : List (List Batch)) (roles : RolesView) (victim : ℕ) → RolesAgree capacity old logs roles → is_sealed_at roles victim ≡ true → Resets old new victim → length logs ≡ length old
    → RolesAgree capacity new (without logs victim) (clean_ended roles victim)
roles-reset capacity old new logs roles victim agree is resets long =
    let was = sealed-zone roles victim is in
    let apart = away-all victim (fillings roles) was.not_filling in
    let there : content_at new victim ≡ emptied = rw resets.zones (get_or-set_same old victim emptied nothing resets.in_range) in
    let other = λ (k : ℕ) (ne : k ≢ victim). (let e : content_at new k ≡ content_at old k = rw resets.zones (get_or-set_other old victim k emptied nothing ne) in e) in
    let log = λ (k : ℕ) (ne : k ≢ victim). (let e : log_at (without logs victim) k ≡ log_at logs k = get_or-set_other logs victim k [] [] ne in e) in
    record {
      count = rw resets.zones (length-set roles.empty victim true ∙ agree.count ∙ sym (length-set old victim emptied));
      apart = record {
        occupied = rw (fillings-ended roles victim) (all-both (IsOccupied roles.empty) (λ f. f.zone ≢ victim) (IsOccupied (set roles.empty victim true)) (fillings roles)
            (λ f o ne. record { in_range = omega (arith, o.in_range, length-set roles.empty victim true); not_empty = get_or-set_other roles.empty victim f.zone true false ne ∙ o.not_empty }) agree.apart.occupied apart);
        differ = differ-ended roles.host roles.second agree.apart.differ;
      };
      fillings_are = rw (fillings-ended roles victim) (all-both (HoldsFilling capacity old logs) (λ f. f.zone ≢ victim) (HoldsFilling capacity new (without logs victim)) (fillings roles)
          (λ f h ne. same-filled capacity old new logs (without logs victim) f (other f.zone ne) (log f.zone ne) h) agree.fillings_are apart);
      empty = λ k is_empty. elim (cases_eq k victim) as (λ _. content_at new k ≡ emptied) [
        | inl same ↦ rw same there
        | inr ne ↦ other k ne ∙ agree.empty k (sym (get_or-set_other roles.empty victim k true false ne) ∙ is_empty)
      ];
      sealed_are = λ k below not_empty not_filling.
          let ne : k ≢ victim = λ same. (let yes : get_or (set roles.empty victim true) k false ≡ true = rw same (get_or-set_same roles.empty victim true false was.in_range) in absurd (cc)) in
          let out : is_filling_at roles k ≡ false = ap (list_any (is_at k)) (sym (fillings-ended roles victim)) ∙ not_filling in
          let h = agree.sealed_are k (rw (resets.zones, length-set) at below) (sym (get_or-set_other roles.empty victim k true false ne) ∙ not_empty) out in
          record { usage = rw (other k ne) h.usage; has_batch = rw (log k ne) h.has_batch };
    }

-- ---- nothing is lost with the victim

-- all its records are moved: without it the array and the map are the same
record NothingLost (disk : MountedView) (victim : ℕ) : Type 0 where
  array : IsSpare disk.drive.geometry.block disk.tables.given (drive_logs disk.drive) victim
  map_is : map_of disk.drive.geometry.size disk.tables.given (without (drive_logs disk.drive) victim) ≡ map_of disk.drive.geometry.size disk.tables.given (drive_logs disk.drive)

log-some : (log : List Batch) → 1 ≤ log_size log → (b : Batch) × (rest : List Batch) × (log ≡ b ∷ rest)
log-some [] some = absurd (omega arith)
log-some (b ∷ rest) some = (b, rest, refl)

nothing_lost : (disk : MountedView) (c : CleanView) → Agrees disk → (is : IsClean disk c) → ResetDue disk c → NothingLost disk c.victim
nothing_lost disk c agrees is due =
    let f = is.destination in
    let g = disk.drive.geometry in
    let logs = drive_logs disk.drive in
    let given = disk.tables.given in
    let filling = second-filling disk.tables.roles (Destination f) is.second in
    let apart = sealed-apart disk.tables.roles c.victim f.zone is.victim filling in
    let below : f.zone < length logs = omega (arith, filling-in_range disk.drive disk.tables f.zone agrees filling, zone-logs disk.drive) in
    let below' : c.victim < length logs = omega (arith, sealed-in_range disk c.victim agrees is.victim, zone-logs disk.drive) in
    let none : live disk.tables.map c.victim ≡ 0 = omega (arith, live-parts disk c is, due.taken, due.none) in
    let filled = of-second (HoldsFilling g.capacity (contents disk.drive.zones) logs) disk.tables.roles (Destination f) is.second agrees.roles.fillings_are in
    let some = log-some (log_at logs f.zone) (omega (arith, filled.batches, due.moved, ap destination_written is.second)) in
    let follows : Follows (log_at logs c.victim) (some.0 ∷ some.1) = rw some.2 at is.moves.follows in
    let covers : larger (log_greatest (log_at logs c.victim)) (log_greatest (log_at logs f.zone)) ≡ log_greatest (log_at logs f.zone) = rw some.2 follows.1 in
    let size = greatest-without logs c.victim f.zone below' below apart covers in
    let dead = dead-zone disk.drive disk.tables c.victim agrees none in
    record { array = told-without (shown g.block) given c.victim logs below' size dead; map_is = told-without (place g.size) given c.victim logs below' size dead }

-- ---- the drive after it

-- a Reset of the victim, and the tables with its roles
pub record ResetGives (old new : DriveState) (tables : TablesView) (victim : ℕ) : Type 0 where
  pub agrees : Agrees (mounted new (record tables { roles = clean_ended tables.roles victim }))
  pub logs : drive_logs new ≡ without (drive_logs old) victim
  pub array : encoded new tables.given ≡ encoded old tables.given
  pub mountable : IsMountable new tables.given

few-reset : (most victim : ℕ) (logs : List (List Batch)) (fs : List Filling) → list_any (is_at victim) fs ≡ false → AllByRecursion (λ (f : Filling). AllByRecursion (HasAtMost most) (log_at logs f.zone)) fs
    → AllByRecursion (λ (f : Filling). AllByRecursion (HasAtMost most) (log_at (without logs victim) f.zone)) fs
few-reset most victim logs fs out all =
    all-both (λ f. AllByRecursion (HasAtMost most) (log_at logs f.zone)) (λ f. f.zone ≢ victim) (λ f. AllByRecursion (HasAtMost most) (log_at (without logs victim) f.zone)) fs
    (λ f few ne. rw (get_or-set_other logs victim f.zone [] [] ne) few) all (away-all victim fs out)

-- a Reset of the victim keeps the array
pub reset_gives : (old new : DriveState) (tables : TablesView) (c : CleanView) → Agrees (mounted old tables) → IsClean (mounted old tables) c → ResetDue (mounted old tables) c → new.geometry ≡ old.geometry → IsLawful new → StaysFailed old new
    → Resets (contents old.zones) (contents new.zones) c.victim → OpensNone old.zones new.zones → ResetGives old new tables c.victim
unfolding encoded_array
reset_gives old new tables c agrees is due geometry lawful failed resets opens =
    let g = old.geometry in
    let zones = contents old.zones in
    let was = drive_logs old in
    let given = tables.given in
    let lost = nothing_lost (mounted old tables) c agrees is due in
    let mountable = agrees_mountable old tables agrees (clean_spare (mounted old tables) c agrees is) in
    let only : OnlyTorn g zones c.victim = λ other torn. absurd (let no_tail = no_tails g zones tables.roles agrees.roles other in let tail = torn.tail in cc) in
    let after = spare_resets g zones (contents new.zones) given c.victim mountable.holds lost.array only resets in
    let logs : drive_logs new ≡ without was c.victim = rw geometry after.logs in
    let spare = empty_spare g.block tables.next given c.victim was agrees.sound lost.array in
    let sealed = sealed-zone tables.roles c.victim is.victim in
    let out : list_any (is_at c.victim) (fillings tables.roles) ≡ false = sealed.not_filling in
    record {
      agrees = record {
        geometry = rw geometry agrees.geometry;
        reserve = rw geometry agrees.reserve;
        lawful = lawful;
        logs = rw (geometry, resets.zones) (all-set (HasLog g) zones c.victim emptied agrees.logs (emptied-log g));
        sound = rw logs spare.sound;
        next = agrees.next;
        zones = rw geometry agrees.zones;
        zone_size = rw geometry agrees.zone_size;
        places = rw (logs, geometry) (agrees.places ∙ sym lost.map_is);
        roles = rw (logs, geometry) (roles-reset g.capacity zones (contents new.zones) was tables.roles c.victim agrees.roles is.victim resets (length-map zones (zone_log g)));
        few = rw (logs, geometry, fillings-ended tables.roles c.victim) (few-reset (batch_most g) c.victim was (fillings tables.roles) out agrees.few);
        open_zones = rw (fillings-ended tables.roles c.victim) (tells-kept old.zones new.zones (fillings tables.roles) opens agrees.open_zones);
        readable = λ none. agrees.readable (failed none);
      };
      logs = logs;
      array = rw (logs, geometry) lost.array;
      mountable = record { lawful = lawful; holds = rw geometry after.mountable };
    }
