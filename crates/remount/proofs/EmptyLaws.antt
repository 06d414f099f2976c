-- Zones are reset, one after the other.
use Rattle.std.specs.Prelude.{IsTrue}
use Rattle.std.proofs.Common.{◌≡◌, ◌≢◌, ◌⊎◌, inl, inr, ℕ, ◌<◌, Bool, false, List, [], ◌∷◌, ◌++◌, length, set, get_or, Some, Result, Ok, Err, refl, sym, ap, subst, ◌∙◌}
use Rattle.std.specs.Prelude.{OnOk, slice_get}
use Rattle.std.specs.List.{AllByRecursion, Contains}
use Rattle.std.proofs.lemmas.List.{length-map, length-set}
use Rattle.std.proofs.lemmas.List.Elements.{Contains-append_left, Contains-append_right}
use Rattle.nvme_wire.specs.declared.zone_state.ZoneState.TheVariants.{Empty}
use Rattle.zone_states.specs.declared.geometry.Geometry.{Geometry}
use Rattle.drive_port.specs.Contents.{Content, Resets, content_at, contents, emptied, nothing}
use Rattle.drive_port.specs.Drive.{DriveState, IsLawful}
use Rattle.batch_log.specs.Log.{Batch}
use Rattle.drive_array.specs.ZoneLogs.{drive_logs, has_torn_tail, log_at, zone_log, zone_logs, zone_tails}
use Rattle.drive_array.specs.Mountable.{IsMountable}
use Rattle.drive_array.specs.Records.{without}
use Rattle.drive_array.specs.Spare.{IsClearing, IsLowest, IsVacant, cleared}
use Rattle.drive_survey.specs.declared.fault.MountFault.{MountFault}
use Rattle.drive_survey.specs.declared.reported.ReportedZone.{ReportedZone}
use Rattle.drive_survey.specs.declared.scan.ScannedZone.{ScannedZone}
use Rattle.drive_survey.specs.declared.survey.Survey.{Survey}
use Rattle.remount.specs.Kept.{AreVacantEmpty, Fits, KeepsMountable, Stays}
use Rattle.drive_survey.specs.Known.{Knows}
use Rattle.remount.specs.Mount.{AreToEmpty}
use Rattle.remount.specs.Resets.{KeepsWritten, MayChange, MayReset, OpensNoZone, ResetsAll, reported_empty, set_all}
use Rattle.drive_survey.specs.Reported.{KeepsZones}
use Rattle.drive_survey.specs.Scan.{AreKnown, heads_in, tails_in}
use Rattle.remount.proofs.KeepLaws.{keeps-mountable-both, keeps-mountable-none, reset-keeps, without-vacant}
use Rattle.remount.proofs.SetAllLaws.{cleared-set_all, get-set_all, get_or-set_all_other, map-set_all, set_all-both, set_all-parts}

-- ---- logs and tails

-- emptied zones have no batch, and the logs of all others stay
logs-set_all : (geometry : Geometry) (zones : List Content) (is : List ℕ) → zone_logs geometry (set_all zones is emptied) ≡ set_all (zone_logs geometry zones) is []
unfolding zone_log
logs-set_all geometry zones is = map-set_all (zone_log geometry) zones is emptied

tails-set_all : (zones : List Content) (is : List ℕ) → zone_tails (set_all zones is emptied) ≡ set_all (zone_tails zones) is false
unfolding has_torn_tail
tails-set_all zones is = map-set_all has_torn_tail zones is emptied

drive-logs-reset : (old new : DriveState) (before after : Survey) (zones : List ℕ) → ResetsAll old new before after zones → drive_logs new ≡ set_all (drive_logs old) zones []
drive-logs-reset old new before after zones resets = rw (resets.geometry, resets.contents_are) (logs-set_all old.geometry (contents old.zones) zones)

-- ---- which zones may be reset

-- zones that are vacant may be reset, one after the other
pub vacant-may : (block_bytes n : ℕ) (logs : List (List Batch)) (zones : List ℕ) → AllByRecursion (λ zone. (zone < length logs) × IsVacant logs zone) zones → MayReset block_bytes n logs zones
vacant-may block_bytes n logs [] all = tt
vacant-may block_bytes n logs (z ∷ zs) all =
    (all.0.0, inl all.0.1, subst (λ (ls : List (List Batch)). MayReset block_bytes n ls zs) (sym (without-vacant logs z all.0.1)) (vacant-may block_bytes n logs zs all.1))

-- the zones of a clearing may be reset, one after the other
clearing-may : (block_bytes n : ℕ) (logs : List (List Batch)) (zones : List ℕ) → IsClearing block_bytes n logs zones → MayReset block_bytes n logs zones
clearing-may block_bytes n logs [] is = tt
clearing-may block_bytes n logs (z ∷ zs) is = (is.0.in_range, inr is.0, clearing-may block_bytes n (without logs z) zs is.1)

-- emptying vacant zones leaves all logs unchanged
vacant-stay : (logs : List (List Batch)) (zones : List ℕ) → AllByRecursion (λ zone. (zone < length logs) × IsVacant logs zone) zones → set_all logs zones [] ≡ logs
vacant-stay logs [] all = refl
vacant-stay logs (z ∷ zs) all = ap (λ (ls : List (List Batch)). set_all ls zs []) (without-vacant logs z all.0.1) ∙ vacant-stay logs zs all.1

-- ---- one Reset after the other

-- some zones were reset, and the rest are left
pub record ResetsSome (first now : DriveState) (before survey : Survey) (n : ℕ) (zones rest : List ℕ) : Type 0 where
  pub keeps : IsTrue now.clean → KeepsMountable n first now
  pub stays : Stays first now
  pub geometry : now.geometry ≡ first.geometry
  pub contents_are : set_all (contents now.zones) rest emptied ≡ set_all (contents first.zones) zones emptied
  pub opens : OpensNoZone first now
  pub known : AreKnown now survey.zones.items
  pub reported : set_all survey.zones.items rest reported_empty ≡ set_all before.zones.items zones reported_empty
  pub heads : heads_in survey.scanned.items ≡ heads_in before.scanned.items
  pub tails : set_all (tails_in survey.scanned.items) rest false ≡ set_all (tails_in before.scanned.items) zones false
  pub size : survey.size ≡ before.size
  pub given : survey.given ≡ before.given
  pub may : IsTrue now.clean → MayReset first.geometry.block n (drive_logs now) rest
  pub inside : AllByRecursion (λ zone. zone < length before.zones.items) rest
  pub count : length survey.zones.items ≡ length before.zones.items
  pub scanned : length survey.scanned.items ≡ length before.scanned.items

-- a Reset of the next zone, also one that halts, keeps the drive mountable
pub some-keeps : (first now new : DriveState) (before survey : Survey) (n zone : ℕ) (zones rest : List ℕ) → ResetsSome first now before survey n zones (zone ∷ rest) → MayChange (λ a b. Resets a b zone) now new → IsTrue new.clean → KeepsMountable n first new
some-keeps first now new before survey n zone zones rest some change clean =
    let may : IsVacant (drive_logs now) zone ⊎ IsLowest now.geometry.block n (drive_logs now) zone = subst (λ (g : Geometry). IsVacant (drive_logs now) zone ⊎ IsLowest g.block n (drive_logs now) zone) (sym some.geometry) (some.may (change.trusted clean)).1 in
    keeps-mountable-both n first now new (some.keeps (change.trusted clean)) (reset-keeps n now new zone may change)

-- none was reset yet
pub resets-none : (drive : DriveState) (survey : Survey) (n : ℕ) (zones : List ℕ) → AreKnown drive survey.zones.items → AllByRecursion (λ zone. zone < length survey.zones.items) zones → (IsTrue drive.clean → MayReset drive.geometry.block n (drive_logs drive) zones)
    → ResetsSome drive drive survey survey n zones zones
resets-none drive survey n zones known inside may = record {
  keeps = λ clean. keeps-mountable-none n drive known.lawful;
  stays = record { geometry = refl; lawful = known.lawful; trusted = λ clean. clean; unfailing = λ up. up };
  geometry = refl;
  contents_are = refl;
  opens = λ z h. h;
  known = known;
  reported = refl;
  heads = refl;
  tails = refl;
  size = refl;
  given = refl;
  may = may;
  inside = inside;
  count = refl;
  scanned = refl;
}

-- once the next zone is reset, one zone fewer is left
pub resets-more : (first now new : DriveState) (before survey after : Survey) (n zone : ℕ) (zones rest : List ℕ) → ResetsSome first now before survey n zones (zone ∷ rest) → MayChange (λ a b. Resets a b zone) now new → ResetsAll now new survey after (zone ∷ [])
    → ResetsSome first new before after n zones rest
resets-more first now new before survey after n zone zones rest some change one = record {
  keeps = some-keeps first now new before survey n zone zones rest some change;
  stays = record { geometry = one.geometry ∙ some.geometry; lawful = change.lawful; trusted = λ clean. some.stays.trusted (change.trusted clean); unfailing = λ up. some.stays.unfailing (change.unfailing up) };
  geometry = one.geometry ∙ some.geometry;
  contents_are = ap (λ (cs : List Content). set_all cs rest emptied) one.contents_are ∙ some.contents_are;
  opens = λ z h. one.opens z (some.opens z h);
  known = one.known;
  reported = ap (λ (rs : List ReportedZone). set_all rs rest reported_empty) one.reported ∙ some.reported;
  heads = one.heads ∙ some.heads;
  tails = ap (λ (ts : List Bool). set_all ts rest false) one.tails ∙ some.tails;
  size = one.size ∙ some.size;
  given = one.given ∙ some.given;
  may = λ clean. subst (λ (ls : List (List Batch)). MayReset first.geometry.block n ls rest) (sym (drive-logs-reset now new survey after (zone ∷ []) one)) (some.may (change.trusted clean)).2;
  inside = some.inside.1;
  count = ap length one.reported ∙ length-set survey.zones.items zone reported_empty ∙ some.count;
  scanned = sym (length-map after.scanned.items (λ (z : ScannedZone). z.heads)) ∙ ap length one.heads ∙ length-map survey.scanned.items (λ (z : ScannedZone). z.heads) ∙ some.scanned;
}

-- ---- vacant zones, and then half clean ones

-- what is known before
pub record CanEmpty (drive : DriveState) (n : ℕ) (survey : Survey) (vacant half_clean : List ℕ) : Type 0 where
  pub known : Knows drive n (cleared (drive_logs drive) half_clean) survey
  pub to_empty : AreToEmpty (drive_logs drive) survey vacant
  pub clearing : IsClearing drive.geometry.block n (drive_logs drive) half_clean

-- resetting the vacant zones leaves all logs unchanged
logs-middle : (old middle : DriveState) (before survey : Survey) (n : ℕ) (vacant half_clean : List ℕ) → CanEmpty old n before vacant half_clean → ResetsAll old middle before survey vacant → drive_logs middle ≡ drive_logs old
logs-middle old middle before survey n vacant half_clean can one = drive-logs-reset old middle before survey vacant one ∙ vacant-stay (drive_logs old) vacant can.to_empty.vacant

-- once the vacant zones are reset, the half clean ones may be reset
pub may-clear : (old middle : DriveState) (before survey : Survey) (n : ℕ) (vacant half_clean : List ℕ) → CanEmpty old n before vacant half_clean → ResetsAll old middle before survey vacant → MayReset middle.geometry.block n (drive_logs middle) half_clean
may-clear old middle before survey n vacant half_clean can one =
    rw (logs-middle old middle before survey n vacant half_clean can one, one.geometry) (clearing-may old.geometry.block n (drive_logs old) half_clean can.clearing)

-- after the Resets of vacant and half clean zones the logs are the cleared ones
pub logs-cleared : (old middle new : DriveState) (before survey after : Survey) (n : ℕ) (vacant half_clean : List ℕ) → CanEmpty old n before vacant half_clean → ResetsAll old middle before survey vacant → ResetsAll middle new survey after half_clean
    → drive_logs new ≡ cleared (drive_logs old) half_clean
logs-cleared old middle new before survey after n vacant half_clean can one two =
    drive-logs-reset middle new survey after half_clean two ∙ ap (λ (ls : List (List Batch)). set_all ls half_clean []) (logs-middle old middle before survey n vacant half_clean can one) ∙ sym (cleared-set_all (drive_logs old) half_clean)

-- all zones that were reset
resets-both : (old middle new : DriveState) (before survey after : Survey) (vacant half_clean : List ℕ) → ResetsAll old middle before survey vacant → ResetsAll middle new survey after half_clean → ResetsAll old new before after (vacant ++ half_clean)
resets-both old middle new before survey after vacant half_clean one two = record {
  geometry = two.geometry ∙ one.geometry;
  contents_are = two.contents_are ∙ ap (λ (cs : List Content). set_all cs half_clean emptied) one.contents_are ∙ set_all-both (contents old.zones) vacant half_clean emptied;
  opens = λ z h. two.opens z (one.opens z h);
  known = two.known;
  reported = two.reported ∙ ap (λ (rs : List ReportedZone). set_all rs half_clean reported_empty) one.reported ∙ set_all-both before.zones.items vacant half_clean reported_empty;
  heads = two.heads ∙ one.heads;
  tails = two.tails ∙ ap (λ (ts : List Bool). set_all ts half_clean false) one.tails ∙ set_all-both (tails_in before.scanned.items) vacant half_clean false;
  size = two.size ∙ one.size;
  given = two.given ∙ one.given;
}

-- after the Resets the survey knows a mountable drive by all of its logs
pub knows-cleared : (old middle new : DriveState) (before survey after : Survey) (n : ℕ) (vacant half_clean : List ℕ) → CanEmpty old n before vacant half_clean → ResetsAll old middle before survey vacant → ResetsAll middle new survey after half_clean
    → IsMountable new n → Knows new n (drive_logs new) after
knows-cleared old middle new before survey after n vacant half_clean can one two mountable =
    let all = resets-both old middle new before survey after vacant half_clean one two in
    let logs = logs-cleared old middle new before survey after n vacant half_clean can one two in
    let was = can.known in
    record {
      all_logs = mountable.holds.disk.logs;
      count = length-map (contents new.zones) (zone_log new.geometry) ∙ length-contents new;
      part = λ zone. inl refl;
      sound = rw logs was.sound;
      reserve = rw (logs, all.geometry) was.reserve;
      size_is = all.size ∙ rw logs was.size_is;
      given_is = all.given ∙ was.given_is;
      zones = all.known;
      heads = rw logs (all.heads ∙ was.heads);
      tails = all.tails ∙ ap (λ (ts : List Bool). set_all ts (vacant ++ half_clean) false) was.tails ∙ sym (ap zone_tails all.contents_are ∙ tails-set_all (contents old.zones) (vacant ++ half_clean));
    }
  where
    length-contents : (drive : DriveState) → length (contents drive.zones) ≡ length drive.zones
    length-contents drive = length-map drive.zones _

among : (xs ys : List ℕ) (k : ℕ) → Contains xs k → Contains (xs ++ ys) k
among xs ys k c = Contains-append_left xs ys k c

-- after the Resets each vacant zone is noted as Empty
pub vacant-emptied : (old middle new : DriveState) (before survey after : Survey) (n : ℕ) (vacant half_clean : List ℕ) → CanEmpty old n before vacant half_clean → ResetsAll old middle before survey vacant → ResetsAll middle new survey after half_clean
    → AreVacantEmpty after.zones.items (drive_logs new)
vacant-emptied old middle new before survey after n vacant half_clean can one two zone r there none =
    let all = resets-both old middle new before survey after vacant half_clean one two in
    by (get-set_all before.zones.items (vacant ++ half_clean) reported_empty r zone (ap (λ (rs : List ReportedZone). slice_get rs zone) (sym all.reported) ∙ there))
  where
    by : (r ≡ reported_empty) ⊎ ((Contains (vacant ++ half_clean) zone → ⊥) × (slice_get before.zones.items zone ≡ Some r)) → r.state ≡ Empty
    by (inl same) = ap (λ (x : ReportedZone). x.state) same
    by (inr out) =
        let stays : log_at (set_all (drive_logs old) half_clean []) zone ≡ log_at (drive_logs old) zone = get_or-set_all_other (drive_logs old) half_clean [] [] zone (λ c. out.0 (Contains-append_right vacant half_clean zone c)) in
        let logs = logs-cleared old middle new before survey after n vacant half_clean can one two ∙ cleared-set_all (drive_logs old) half_clean in
        let empty : IsVacant (drive_logs old) zone = sym stays ∙ ap (λ (ls : List (List Batch)). log_at ls zone) (sym logs) ∙ none in
        elim (can.to_empty.others zone r out.1 empty) as (λ _. r.state ≡ Empty) [
          | inl is ↦ is
          | inr c ↦ absurd (out.0 (among vacant half_clean zone c))
        ]

-- the Resets change no torn tail of a zone that still has a batch
pub tails-emptied : (old middle new : DriveState) (before survey after : Survey) (vacant half_clean : List ℕ) → ResetsAll old middle before survey vacant → ResetsAll middle new survey after half_clean
    → (zone : ℕ) → log_at (drive_logs new) zone ≢ [] → get_or (zone_tails (contents new.zones)) zone false ≡ get_or (zone_tails (contents old.zones)) zone false
tails-emptied old middle new before survey after vacant half_clean one two zone some =
    let all = resets-both old middle new before survey after vacant half_clean one two in
    let logs = drive-logs-reset old new before after (vacant ++ half_clean) all in
    let tails = ap zone_tails all.contents_are ∙ tails-set_all (contents old.zones) (vacant ++ half_clean) in
    elim (set_all-parts (drive_logs old) (zone_tails (contents old.zones)) (vacant ++ half_clean) false false zone) as (λ _. get_or (zone_tails (contents new.zones)) zone false ≡ get_or (zone_tails (contents old.zones)) zone false) [
      | inl gone ↦ absurd (some (ap (λ (ls : List (List Batch)). log_at ls zone) logs ∙ gone))
      | inr same ↦ ap (λ (ts : List Bool). get_or ts zone false) tails ∙ same
    ]

-- each zone that still has a batch after the Resets holds what it held
pub written-stay : (old middle new : DriveState) (before survey after : Survey) (vacant half_clean : List ℕ) → ResetsAll old middle before survey vacant → ResetsAll middle new survey after half_clean → KeepsWritten old new
written-stay old middle new before survey after vacant half_clean one two zone some =
    let all = resets-both old middle new before survey after vacant half_clean one two in
    let logs = drive-logs-reset old new before after (vacant ++ half_clean) all in
    elim (set_all-parts (drive_logs old) (contents old.zones) (vacant ++ half_clean) emptied nothing zone) as (λ _. content_at (contents new.zones) zone ≡ content_at (contents old.zones) zone) [
      | inl gone ↦ absurd (some (ap (λ (ls : List (List Batch)). log_at ls zone) logs ∙ gone))
      | inr stays ↦ ap (λ (cs : List Content). content_at cs zone) all.contents_are ∙ stays
    ]

-- if success gives a fact, it gives what follows from the fact
pub if-ok : {P Q : Type 0} (result : Result (Unit {0}) MountFault) → (P → Q) → OnOk result P → OnOk result Q
if-ok (Ok done) f is = f is
if-ok (Err fault) f is = tt

-- ---- what stays whatever the Reads returned

pub stays-none : (drive : DriveState) → IsLawful drive → Stays drive drive
stays-none drive lawful = record { geometry = refl; lawful = lawful; trusted = λ clean. clean; unfailing = λ up. up }

pub stays-both : (a b c : DriveState) → Stays a b → Stays b c → Stays a c
stays-both a b c p q = record { geometry = q.geometry ∙ p.geometry; lawful = q.lawful; trusted = λ clean. p.trusted (q.trusted clean); unfailing = λ up. p.unfailing (q.unfailing up) }

length-set_all : {X : Type 0} (xs : List X) (is : List ℕ) (x : X) → length (set_all xs is x) ≡ length xs
length-set_all xs [] x = refl
length-set_all xs (i ∷ is) x = length-set_all (set xs i x) is x ∙ length-set xs i x

pub resets-count : (old new : DriveState) (before after : Survey) (zones : List ℕ) → ResetsAll old new before after zones → length after.zones.items ≡ length before.zones.items
resets-count old new before after zones all = ap length all.reported ∙ length-set_all before.zones.items zones reported_empty

pub resets-fits : (old new : DriveState) (before after : Survey) (zones : List ℕ) → ResetsAll old new before after zones → length before.scanned.items ≡ length before.zones.items → Fits new after
resets-fits old new before after zones all same = record {
  zones = all.known;
  scanned = sym (length-map after.scanned.items (λ (z : ScannedZone). z.heads)) ∙ ap length all.heads ∙ length-map before.scanned.items (λ (z : ScannedZone). z.heads) ∙ same ∙ sym (resets-count old new before after zones all);
}

pub looks-stay : (old new : DriveState) → KeepsZones old new → Stays old new
looks-stay old new k = record { geometry = k.geometry; lawful = k.lawful; trusted = k.trusted; unfailing = k.unfailing }
