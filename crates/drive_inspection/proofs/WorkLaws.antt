-- What a plan says of a drive.
use Rattle.std.proofs.Common.{◌≡◌, ◌≢◌, ◌⊎◌, inl, inr, ℕ, ◌<◌, List, [], ◌∷◌, length, get_or, Option, Some, None, refl, sym, ap, subst, ◌∙◌, arith}
use Rattle.std.specs.Prelude.{slice_get}
use Rattle.std.specs.List.{AllByRecursion, Contains}
use Rattle.std.proofs.lemmas.List.{length-map}
use Rattle.std.proofs.lemmas.Option.{slice_get-get_or}
use Rattle.nvme_wire.specs.declared.zone_state.ZoneState.{ZoneState}
use Rattle.nvme_wire.specs.declared.zone_state.ZoneState.TheVariants as states
use Rattle.drive_port.specs.Contents.{content_at, content_of, contents, empty, usage_of}
use Rattle.drive_port.specs.Drive.{DriveState}
use Rattle.drive_port.proofs.ClosingLaws.{length-closing}
use Rattle.batch_log.specs.Log.{Batch}
use Rattle.drive_array.specs.Sizes.{encoded_size}
use Rattle.drive_array.specs.Spare.{IsVacant, cleared}
use Rattle.drive_array.specs.ZoneLogs.{drive_logs, zone_log, zone_tails}
use Rattle.drive_array.proofs.AllLaws.{all-weaker}
use Rattle.drive_survey.specs.declared.survey.Survey.{Survey}
use Rattle.drive_survey.specs.Known.{Knows}
use Rattle.drive_survey.specs.Reported.{KeepsZones}
use Rattle.drive_survey.specs.Scan.{AreKnown}
use Rattle.drive_survey.proofs.ReadLaws.{kept-contents}
use Rattle.remount.specs.declared.plan.Plan.{Plan}
use Rattle.remount.specs.declared.repair.Repair.{Repair}
use Rattle.remount.specs.Mount.{AreToEmpty, IsPlanned, PlansRepair}
use Rattle.remount.specs.Resets.{reported_empty}
use Rattle.remount.proofs.TornPlanLaws.{counts-live}
use Rattle.drive_inspection.specs.declared.info.MountWork.{MountWork}
use Rattle.drive_inspection.specs.declared.info.TornRepair.{TornRepair}
use Rattle.drive_inspection.specs.Found.{IsWorkOf, TellsRepair}
use Rattle.drive_inspection.specs.Info.{EmptiesVacant, Foretells, RepairsAny}

all-both : {X : Type 0} (P Q : X → Type 0) (xs : List X) → AllByRecursion P xs → AllByRecursion Q xs → AllByRecursion (λ x. P x × Q x) xs
all-both P Q [] all both = tt
all-both P Q (x ∷ xs) all both = ((all.0, both.0), all-both P Q xs all.1 both.1)

-- ---- zones without a batch

usage-empty : (state : ZoneState) → usage_of state ≡ empty → state ≡ states.Empty
usage-empty states.Empty e = refl
usage-empty states.Full e = absurd (cc)
usage-empty states.ReadOnly e = absurd (cc)
usage-empty states.Offline e = absurd (cc)
usage-empty states.ImplicitlyOpened e = absurd (cc)
usage-empty states.ExplicitlyOpened e = absurd (cc)
usage-empty states.Closed e = absurd (cc)

long-logs : (drive : DriveState) → length (drive_logs drive) ≡ length drive.zones
long-logs drive = length-map (contents drive.zones) (zone_log drive.geometry) ∙ length-map drive.zones content_of

abbrev IsLogless : DriveState → ℕ → Type 0
IsLogless drive zone = (zone < length (drive_logs drive)) × IsVacant (drive_logs drive) zone

abbrev IsLoglessZone : DriveState → ℕ → Type 0
IsLoglessZone drive zone = (zone < length drive.zones) × IsVacant (drive_logs drive) zone

abbrev IsNotEmpty : DriveState → ℕ → Type 0
IsNotEmpty drive zone = (content_at (contents drive.zones) zone).usage ≢ empty

abbrev IsReset : Survey → ℕ → Type 0
IsReset survey zone = (get_or survey.zones.items zone reported_empty).state ≢ states.Empty

there-is : (drive : DriveState) (survey : Survey) (zone : ℕ) → AreKnown drive survey.zones.items → zone < length drive.zones
    → slice_get survey.zones.items zone ≡ Some (get_or survey.zones.items zone reported_empty)
there-is drive survey zone known lt = slice_get-get_or survey.zones.items zone reported_empty (omega (arith, lt, known.count))

usage-is : (drive : DriveState) (survey : Survey) (zone : ℕ) → AreKnown drive survey.zones.items → zone < length drive.zones
    → (content_at (contents drive.zones) zone).usage ≡ usage_of (get_or survey.zones.items zone reported_empty).state
usage-is drive survey zone known lt = (known.each zone (get_or survey.zones.items zone reported_empty) (there-is drive survey zone known lt)).usage

not-empty : (drive : DriveState) (survey : Survey) → AreKnown drive survey.zones.items → (zone : ℕ) → IsLogless drive zone × IsReset survey zone → IsNotEmpty drive zone
not-empty drive survey known zone is is_empty =
    is.1 (usage-empty (get_or survey.zones.items zone reported_empty).state (sym (usage-is drive survey zone known (omega (arith, is.0.0, long-logs drive))) ∙ is_empty))

empties : (drive : DriveState) (survey : Survey) (zones : List ℕ) → AreKnown drive survey.zones.items → AreToEmpty (drive_logs drive) survey zones → EmptiesVacant drive zones
empties drive survey zones known are = record {
  vacant = all-weaker (IsLogless drive) (IsLoglessZone drive) zones (λ zone is. (omega (arith, is.0, long-logs drive), is.1)) are.vacant;
  needed = all-weaker (λ zone. IsLogless drive zone × IsReset survey zone) (IsNotEmpty drive) zones (not-empty drive survey known) (all-both (IsLogless drive) (IsReset survey) zones are.vacant are.needed);
  others = λ zone lt vacant. elim (are.others zone (get_or survey.zones.items zone reported_empty) (there-is drive survey zone known lt) vacant) as (λ _. ((content_at (contents drive.zones) zone).usage ≡ empty) ⊎ Contains zones zone) [
    | inl state ↦ inl (usage-is drive survey zone known lt ∙ ap usage_of state)
    | inr c ↦ inr c
  ];
}

-- ---- the torn zone

repairs : (drive : DriveState) (n : ℕ) (logs : List (List Batch)) (survey : Survey) (plan : Option Repair) (told : Option TornRepair) → Knows drive n logs survey
    → PlansRepair drive.geometry n logs (zone_tails (contents drive.zones)) plan → TellsRepair drive.geometry plan told → RepairsAny drive.geometry (encoded_size n logs) logs (zone_tails (contents drive.zones)) told
repairs drive n logs survey None told known none tells = subst (RepairsAny drive.geometry (encoded_size n logs) logs (zone_tails (contents drive.zones))) (sym tells) none
repairs drive n logs survey (Some repair) told known is tells =
    let counts = counts-live drive n logs survey repair.zone known in
    subst (RepairsAny drive.geometry (encoded_size n logs) logs (zone_tails (contents drive.zones))) (sym tells) (record {
      torn = is.torn;
      records_are = ap length is.blocks ∙ counts.count;
      moves_are = refl;
    })

-- ---- all of it

-- the work of a planned mount tells what a mount does to the drive
pub foretells : (drive : DriveState) (n : ℕ) (survey : Survey) (plan : Plan) (work : MountWork) → IsPlanned drive n survey plan → IsWorkOf drive.geometry plan work → Foretells drive n work
foretells drive n survey plan work planned is =
    let vacant : work.vacant.items ≡ plan.vacant.items = ap (λ v. v.items) is.vacant in
    let half : work.half_clean.items ≡ plan.half_clean.items = ap (λ v. v.items) is.half_clean in
    record {
      vacant = rw vacant (empties drive survey plan.vacant.items planned.known.zones planned.vacant);
      clearing = rw half planned.clearing;
      torn = rw half (repairs drive n (cleared (drive_logs drive) plan.half_clean.items) survey plan.repair work.torn planned.known planned.repair is.torn);
    }

-- what is foretold of a mount was the same before controllers closed zones
pub foretells-before : (old new : DriveState) (n : ℕ) (work : MountWork) → KeepsZones old new → Foretells new n work → Foretells old n work
foretells-before old new n work k is = record {
  vacant = record {
    vacant = rw (length-closing old.zones new.zones k.closing, k.geometry, kept-contents old new k) at is.vacant.vacant;
    needed = rw (kept-contents old new k) at is.vacant.needed;
    others = λ zone lt. (rw (k.geometry, kept-contents old new k) at is.vacant.others zone (omega (arith, lt, length-closing old.zones new.zones k.closing)));
  };
  clearing = rw (k.geometry, kept-contents old new k) at is.clearing;
  torn = rw (k.geometry, kept-contents old new k) at is.torn;
}
