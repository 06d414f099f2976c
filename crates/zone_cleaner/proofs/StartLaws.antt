-- A clean begins.
use Rattle.std.proofs.Common.{◌≡◌, ◌≢◌, ℕ, ◌+◌, ◌<◌, ◌≤◌, Bool, true, false, not, ◌||◌, eqb, List, [], ◌++◌, set, Option, Some, None, is_some, get_or, refl, sym, ap, subst, ◌∙◌, inl, inr, arith}
use Rattle.std.specs.List.{AllByRecursion, list_any}
use Rattle.std.proofs.lemmas.Bool.{and_parts, cases_eq, eq-eqb, ne_eqb}
use Rattle.std.proofs.lemmas.List.{get_or-set_other, length-set, set-get_or}
use Rattle.zone_states.specs.declared.geometry.Geometry.{Geometry}
use Rattle.drive_port.specs.Drive.{DriveState}
use Rattle.drive_port.specs.Contents.{Content, content_at, contents, emptied}
use Rattle.batch_log.specs.Log.{Batch}
use Rattle.logical_map.specs.Live.{lies_in, live}
use Rattle.zone_choice.specs.declared.roles.Filling.{Filling}
use Rattle.zone_choice.specs.declared.roles.Second.{Second}
use Rattle.zone_choice.specs.declared.roles.Second.TheVariants.{Destination}
use Rattle.logical_map.specs.declared.place.Place.TheVariants as places
use Rattle.zone_choice.specs.Agreement.{Agrees, HoldsFilling, MountedView, RolesAgree, TellsOpen, mounted}
use Rattle.drive_array.specs.ZoneLogs.{drive_logs, log_at}
use Rattle.drive_array.specs.Repair.{HasAtMost}
use Rattle.drive_array.specs.Reserve.{batch_most, move_blocks}
use Rattle.zone_choice.specs.Roles.{IsLowestEmpty, IsLowestIn, is_at, is_sealed_at, filling_list, with_destination}
use Rattle.drive_array.specs.Sizes.{array_of}
use Rattle.zone_choice.specs.Tables.{IsLeastSealed, TablesView, is_left_out}
use Rattle.zone_choice.proofs.AgreementLaws.{agrees-roles, vacant-emptied}
use Rattle.zone_choice.proofs.MarkLaws.{apart-destination, sealed-made, sealed-parts}
use Rattle.zone_choice.proofs.OpenLaws.{emptied-shut}
use Rattle.drive_array.proofs.ReserveLaws.{positive-most}
use Rattle.zone_choice.proofs.RolesLaws.{roles_with, second_list}
use Rattle.zone_cleaner.specs.Clean.{started, turns_left}
use Rattle.zone_cleaner.specs.Start.{AgreesWithClean, IsDue, NoneIsDue}
use Rattle.zone_cleaner.proofs.OldLaws.{none-in_vacant}
use Rattle.zone_cleaner.proofs.BudgetLaws.{start-room, start-turns}

-- ---- an empty zone becomes the destination

abbrev fresh : ℕ → Filling
fresh zone = record { zone = zone; written = 0; may_open = false }

-- its fillings are the host zone and the destination
all-fillings : (P : Filling → Type 0) (host : Option Filling) (zone : ℕ) → AllByRecursion P (filling_list host ++ second_list None) → P (fresh zone) → AllByRecursion P (filling_list host ++ second_list (Some (Destination (fresh zone))))
all-fillings P None zone all one = (one, tt)
all-fillings P (Some h) zone all one = (all.0, (one, tt))

any-fillings : (k zone : ℕ) (host : Option Filling) → list_any (is_at k) (filling_list host ++ second_list (Some (Destination (fresh zone)))) ≡ false → (eqb zone k ≡ false) × (list_any (is_at k) (filling_list host ++ second_list None) ≡ false)
any-fillings k zone None e = (one (eqb zone k) e, refl)
  where
    one : (b : Bool) → (b || false) ≡ false → b ≡ false
    one true e = e
    one false e = refl
any-fillings k zone (Some h) e = two (eqb h.zone k) (eqb zone k) e
  where
    two : (a b : Bool) → (a || (b || false)) ≡ false → (b ≡ false) × ((a || false) ≡ false)
    two true b e = absurd (cc)
    two false true e = absurd (cc)
    two false false e = (refl, refl)

roles-destination : (capacity : ℕ) (zones : List Content) (logs : List (List Batch)) (empties : List Bool) (host : Option Filling) (zone : ℕ) → RolesAgree capacity zones logs (roles_with empties host None) → IsLowestIn empties zone → log_at logs zone ≡ []
    → RolesAgree capacity zones logs (with_destination (roles_with empties host None) zone)
roles-destination capacity zones logs empties host zone agree lowest no_log =
    let there = agree.empty zone lowest.is_empty in
    record {
      count = length-set empties zone false ∙ agree.count;
      apart = apart-destination empties host zone agree.apart lowest;
      fillings_are = all-fillings (HoldsFilling capacity zones logs) host zone agree.fillings_are (record { written = rw there refl; usage = rw there (inl refl); batches = rw no_log refl; opened = λ e. absurd (let bad : false ≡ true = e in cc) });
      empty = λ k is_empty. elim (cases_eq k zone) as (λ _. content_at zones k ≡ emptied) [
        | inl same ↦ rw same there
        | inr other ↦ agree.empty k (rw (get_or-set_other empties zone k false false other) at is_empty)
      ];
      sealed_are = λ k below not_empty not_filling.
          let out = any-fillings k zone host not_filling in
          let other : k ≢ zone = λ same. (let bad : eqb zone k ≡ true = eq-eqb zone k (sym same) in let no = out.0 in absurd (cc)) in
          agree.sealed_are k below (rw (get_or-set_other empties zone k false false other) at not_empty) out.1;
    }

-- ---- the clean after it

-- what the start of a clean leaves
pub record StartGives (disk : MountedView) (tables : TablesView) (victim : ℕ) : Type 0 where
  pub cleaned : AgreesWithClean (mounted disk.drive tables) (Some (started victim))
  pub turns : turns_left (batch_most disk.drive.geometry) tables (Some (started victim)) + 1 ≤ disk.drive.geometry.capacity

with-alone : (drive : DriveState) (tables : TablesView) → tables.roles.second ≡ None → Agrees (mounted drive tables) → Agrees (mounted drive (record tables { roles = roles_with tables.roles.empty tables.roles.host None }))
with-alone drive tables none agrees = let P : Option Second → Type 0 = λ s. Agrees (mounted drive (record tables { roles = roles_with tables.roles.empty tables.roles.host s })) in subst P none agrees

-- it leaves this
pub start_gives : (drive : DriveState) (tables new : TablesView) (victim zone : ℕ) → Agrees (mounted drive tables) → IsDue drive.geometry tables victim → IsLowestEmpty tables.roles zone → new ≡ record tables { roles = with_destination tables.roles zone } → StartGives (mounted drive tables) new victim
start_gives drive tables new victim zone agrees due lowest new-is =
    let g = drive.geometry in
    let zones = contents drive.zones in
    let logs = drive_logs drive in
    let k = batch_most g in
    let plain = with-alone drive tables due.alone agrees in
    let no_log : log_at logs zone ≡ [] = vacant-emptied g zones zone (agrees.roles.empty zone lowest.is_empty) in
    let was = sealed-parts tables.roles victim (and_parts (is_sealed_at tables.roles victim) (not (is_left_out tables victim)) due.least.can).0 in
    let ne : victim ≢ zone = λ same. (let yes = rw (← same) at lowest.is_empty in let no = was.not_empty in absurd (cc)) in
    rw new-is (record {
      cleaned = (
        agrees-roles drive tables (with_destination tables.roles zone) agrees
            (roles-destination g.capacity zones logs tables.roles.empty tables.roles.host zone plain.roles lowest no_log)
            (all-fillings (λ f. AllByRecursion (HasAtMost k) (log_at logs f.zone)) tables.roles.host zone plain.few (rw no_log tt))
            (all-fillings (TellsOpen drive.zones) tables.roles.host zone plain.open_zones (λ no. emptied-shut drive.zones zone (agrees.roles.empty zone lowest.is_empty))),
        record {
          destination = fresh zone;
          second = refl;
          victim = sealed-made (with_destination tables.roles zone) victim (omega (arith, was.in_range, length-set tables.roles.empty zone false)) (get_or-set_other tables.roles.empty zone victim false false ne ∙ was.not_empty) (not-filling tables.roles.host was.not_filling ne);
          gathers = record { within = omega arith; few = omega arith; gathered = refl };
          room = start-room g.capacity k (live tables.map victim) due.fits;
          moves = record { moves = rw no_log tt; follows = rw no_log tt; spare = nothing_lost no_log };
          undo = record { all = λ block there. absurd (none-there block there); each = tt; away = tt };
        },
      );
      turns = start-turns g.capacity k (live tables.map victim) (positive-most g agrees.geometry) due.fits;
    })
  where
    not-filling : (host : Option Filling) → list_any (is_at victim) (filling_list host ++ second_list tables.roles.second) ≡ false → victim ≢ zone → list_any (is_at victim) (filling_list host ++ second_list (Some (Destination (fresh zone)))) ≡ false
    not-filling host out ne = by host (rw due.alone at out)
      where
        other : eqb zone victim ≡ false
        other = ne_eqb zone victim (λ same. ne (sym same))

        by : (host : Option Filling) → list_any (is_at victim) (filling_list host ++ second_list None) ≡ false → list_any (is_at victim) (filling_list host ++ second_list (Some (Destination (fresh zone)))) ≡ false
        by None out = ap (λ (b : Bool). b || false) other
        by (Some h) out = rw other out

    -- no block is in an empty zone
    none-there : (block : ℕ) → lies_in tables.map.zone_size zone (get_or tables.map.places block places.None) ≡ true → ⊥
    none-there block there = none-in_vacant drive tables zone block agrees (vacant-emptied drive.geometry (contents drive.zones) zone (agrees.roles.empty zone lowest.is_empty)) there

    nothing_lost : log_at (drive_logs drive) zone ≡ [] → array_of drive.geometry.block tables.given (set (drive_logs drive) zone []) ≡ array_of drive.geometry.block tables.given (drive_logs drive)
    nothing_lost e = ap (array_of drive.geometry.block tables.given) (ap (set (drive_logs drive) zone) (sym e) ∙ set-get_or (drive_logs drive) zone [])

-- ---- whether a clean is due

-- a zone that can be cleaned is sealed
pub least-is_sealed : (tables : TablesView) (zone : ℕ) → IsLeastSealed tables zone → is_sealed_at tables.roles zone ≡ true
least-is_sealed tables zone least = (and_parts (is_sealed_at tables.roles zone) (not (is_left_out tables zone)) least.can).0

-- what is not some is none
pub none-of : {X : Type 0} (o : Option X) → is_some o ≡ false → o ≡ None
none-of None e = refl
none-of (Some x) e = absurd (cc)

-- too many live records
pub full-not_due : (geometry : Geometry) (tables : TablesView) (zone : ℕ) → IsLeastSealed tables zone → geometry.capacity < move_blocks (batch_most geometry) (live tables.map zone) + 2 → NoneIsDue geometry tables
full-not_due geometry tables zone least more victim due =
    let low = least.least victim due.least.can in
    let high = due.least.least zone least.can in
    let same : live tables.map zone ≡ live tables.map victim = omega (arith, low, high) in
    absurd (omega (arith, due.fits, ap (move_blocks (batch_most geometry)) same, more))
