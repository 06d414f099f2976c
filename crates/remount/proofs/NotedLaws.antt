-- Which zones are noted as open.
use Rattle.std.proofs.Common.{◌≡◌, ◌≢◌, ◌⊎◌, inl, inr, ℕ, true, false, List, [], ◌∷◌, set, Some, refl, sym, ap, subst, ◌∙◌, arith}
use Rattle.std.specs.Prelude.{slice_get}
use Rattle.std.specs.List.{AllByRecursion}
use Rattle.zone_states.specs.declared.geometry.Geometry.{Geometry}
use Rattle.zone_states.specs.Transition.{is_open}
use Rattle.drive_port.specs.Drive.{DriveState}
use Rattle.drive_port.specs.Contents.{content_at, contents}
use Rattle.zone_choice.proofs.CommandLaws.{zone-few}
use Rattle.zone_choice.proofs.ReadLaws.{length-readable}
use Rattle.drive_survey.specs.Scan.{AreKnown}
use Rattle.batch_log.specs.Log.{Batch}
use Rattle.drive_array.specs.Spare.{IsVacant, cleared}
use Rattle.drive_array.specs.ZoneLogs.{drive_logs, log_at}
use Rattle.zone_choice.specs.declared.roles.Filling.{Filling}
use Rattle.zone_choice.specs.Agreement.{IsShut}
use Rattle.zone_choice.specs.Roles.{RolesView, fillings}
use Rattle.drive_survey.specs.declared.reported.ReportedZone.{ReportedZone}
use Rattle.drive_survey.specs.declared.survey.Survey.{Survey}
use Rattle.drive_survey.specs.Reported.{KeepsZones}
use Rattle.drive_survey.specs.Survey.{TellsShut}
use Rattle.drive_survey.proofs.ReadLaws.{kept-contents}
use Rattle.remount.specs.Kept.{AreShort, IsNotedOpen, IsWithin, NotesFilledOpen, NotesNoneOpen}
use Rattle.remount.specs.Mount.{NotesOpenByNeed, TookMoves, WasOpenOrTook}
use Rattle.remount.specs.Mounting.{IsLowestPartly, MountsRoles}
use Rattle.remount.specs.Resets.{FinishesIf, FinishesOne, reported_empty, reported_full, set_all}
use Rattle.remount.proofs.CallLaws.{get-set}
use Rattle.remount.proofs.MountingLaws.{all-partly}
use Rattle.remount.proofs.SetAllLaws.{get-set_all}

-- ---- lists of reports

-- a zone is noted as it is now
noted-set : (xs : List ReportedZone) (i : ℕ) (v : ReportedZone) (zone : ℕ) → IsNotedOpen (set xs i v) zone → IsNotedOpen xs zone ⊎ ((zone ≡ i) × (is_open v.state ≡ true))
noted-set xs i v zone noted = elim (get-set xs i zone v noted.0 noted.1) as (λ _. IsNotedOpen xs zone ⊎ ((zone ≡ i) × (is_open v.state ≡ true))) [
  | inl here ↦ inr (here.0, ap (λ (r : ReportedZone). is_open r.state) (sym here.1) ∙ noted.2)
  | inr there ↦ inl (noted.0, there.1, noted.2)
]

-- noting a zone that is not open adds no zone noted as open
set-notes : (xs ys : List ReportedZone) (i : ℕ) (v : ReportedZone) → is_open v.state ≡ false → ys ≡ set xs i v → NotesNoneOpen xs ys
set-notes xs ys i v shut is zone noted = elim (noted-set xs i v zone (rw is at noted)) as (λ _. IsNotedOpen xs zone) [
  | inl was ↦ was
  | inr here ↦ absurd (let h = here.1 in cc)
]

-- noting zones as Empty adds no zone noted as open
pub all-notes : (xs ys : List ReportedZone) (zones : List ℕ) → ys ≡ set_all xs zones reported_empty → NotesNoneOpen xs ys
all-notes xs ys zones is zone noted = elim (get-set_all xs zones reported_empty noted.0 zone (rw is at noted.1)) as (λ _. IsNotedOpen xs zone) [
  | inl here ↦ absurd (let e : is_open noted.0.state ≡ false = ap (λ (r : ReportedZone). is_open r.state) here in let f = noted.2 in cc)
  | inr there ↦ (noted.0, there.1, noted.2)
]

-- ---- the steps of a mount

-- a Finish adds no zone noted as open
pub finish-notes : (old new : DriveState) (before after : Survey) (zone : ℕ) → FinishesOne old new before after zone → NotesNoneOpen before.zones.items after.zones.items
finish-notes old new before after zone one = set-notes before.zones.items after.zones.items zone (reported_full old.geometry.capacity) refl one.reported

-- a Finish where it is due adds no zone noted as open
pub finish_if-notes : (old new : DriveState) (before after : Survey) (zone : ℕ) → FinishesIf old new before after zone → NotesNoneOpen before.zones.items after.zones.items
finish_if-notes old new before after zone (inl is) = λ q noted. rw is.2 at noted
finish_if-notes old new before after zone (inr is) = finish-notes old new before after zone is.1

-- noting a repair adds at most the zone of the Moves to the zones noted as open
pub repair-notes : (xs ys : List ReportedZone) (into torn : ℕ) (written none : ReportedZone) → is_open none.state ≡ false → ys ≡ set (set xs into written) torn none → (zone : ℕ) → IsNotedOpen ys zone → IsNotedOpen xs zone ⊎ (zone ≡ into)
repair-notes xs ys into torn written none shut is zone noted =
    elim (noted-set xs into written zone (set-notes (set xs into written) ys torn none shut is zone noted)) as (λ _. IsNotedOpen xs zone ⊎ (zone ≡ into)) [
      | inl was ↦ inl was
      | inr here ↦ inr here.0
    ]

-- a zone that a repair newly notes as open was vacant, and has a batch now
pub filled-notes : (old new : DriveState) (before middle after : List ReportedZone) (into other : ℕ) → NotesNoneOpen before middle → ((zone : ℕ) → IsNotedOpen after zone → IsNotedOpen middle zone ⊎ (zone ≡ other)) → into ≡ other
    → IsVacant (drive_logs old) into → log_at (drive_logs new) into ≢ [] → NotesFilledOpen old new before after
filled-notes old new before middle after into other first then same vacant some zone noted =
    elim (then zone noted) as (λ _. IsNotedOpen before zone ⊎ (IsVacant (drive_logs old) zone × (log_at (drive_logs new) zone ≢ []))) [
      | inl was ↦ inl (first zone was)
      | inr here ↦ inr (rw (here, ← same) (vacant, some))
    ]

-- a zone that carrying out a plan newly notes as open took the Moves
pub carried-notes : (old middle third new : DriveState) (resets : List ℕ) (a b c d : List ReportedZone) → drive_logs middle ≡ cleared (drive_logs old) resets → drive_logs new ≡ drive_logs third
    → NotesNoneOpen a b → NotesFilledOpen middle third b c → NotesNoneOpen c d → NotesOpenByNeed old resets new a d
carried-notes old middle third new resets a b c d cleared_is logs one two three zone noted =
    elim (two zone (three zone noted)) as (λ _. IsNotedOpen a zone ⊎ TookMoves old resets new zone) [
      | inl was ↦ inl (one zone was)
      | inr took ↦ inr (
        subst (λ (ls : List (List Batch)). IsVacant ls zone) cleared_is took.0,
        subst (λ (ls : List (List Batch)). log_at ls zone ≢ []) (sym logs) took.1,
      )
    ]

-- ---- the tables

-- a zone that is being filled, and may be open, was noted as open
pub fillings-noted : (reported : List ReportedZone) (zones : ℕ) (roles : RolesView) → MountsRoles reported zones roles → AllByRecursion (λ (f : Filling). f.may_open ≡ true → IsNotedOpen reported f.zone) (fillings roles)
fillings-noted reported zones roles m =
    subst (λ (rs : RolesView). AllByRecursion (λ (f : Filling). f.may_open ≡ true → IsNotedOpen reported f.zone) (fillings rs)) (sym m.is)
    (all-partly (λ (f : Filling). f.may_open ≡ true → IsNotedOpen reported f.zone) reported zones m.host m.next one m.host_is m.next_is)
  where
    one : (from : ℕ) (f : Filling) → IsLowestPartly reported from zones f → f.may_open ≡ true → IsNotedOpen reported f.zone
    one from f found may =
        let same : f.may_open ≡ is_open found.found.state = ap (λ (g : Filling). g.may_open) found.is in
        (found.found, found.there, sym same ∙ may)

-- no zone is reported with more blocks than it can have
pub known-short : (drive : DriveState) (reported : List ReportedZone) → AreKnown drive reported → AreShort drive.geometry.capacity reported
known-short drive reported known zone r there =
    let k = known.each zone r there in
    omega (arith, k.blocks, length-readable drive.geometry (content_at (contents drive.zones) zone) (zone-few drive zone k.lawful k.in_range))

-- a zone that is being filled is as full as it was reported
pub fillings-short : (reported : List ReportedZone) (geometry : Geometry) (roles : RolesView) → MountsRoles reported geometry.zones roles → AreShort geometry.capacity reported → AllByRecursion (IsWithin geometry) (fillings roles)
fillings-short reported geometry roles m short =
    subst (λ (rs : RolesView). AllByRecursion (IsWithin geometry) (fillings rs)) (sym m.is)
    (all-partly (IsWithin geometry) reported geometry.zones m.host m.next one m.host_is m.next_is)
  where
    one : (from : ℕ) (f : Filling) → IsLowestPartly reported from geometry.zones f → IsWithin geometry f
    one from f found =
        let same : f.written ≡ found.found.blocks = ap (λ (g : Filling). g.written) found.is in
        (found.before, omega (arith, same, short f.zone found.found found.there))

-- ---- the mount

took-since : (old first new : DriveState) (resets : List ℕ) (zone : ℕ) → KeepsZones old first → TookMoves first resets new zone → TookMoves old resets new zone
took-since old first new resets zone k took =
    let logs : drive_logs first ≡ drive_logs old = rw (k.geometry, kept-contents old first k) refl in
    (subst (λ (ls : List (List Batch)). IsVacant (cleared ls resets) zone) logs took.0, took.1)

-- a zone that may be open after a mount was open before, or took the Moves
pub open-mounted : (old first new : DriveState) (resets : List ℕ) (before begin after : List ReportedZone) (fs : List Filling) → KeepsZones old first → TellsShut old before → begin ≡ before → NotesOpenByNeed first resets new begin after
    → AllByRecursion (λ (f : Filling). f.may_open ≡ true → IsNotedOpen after f.zone) fs → AllByRecursion (WasOpenOrTook old resets new) fs
open-mounted old first new resets before begin after [] k tells same notes all = tt
open-mounted old first new resets before begin after (f ∷ fs) k tells same notes all = (one, open-mounted old first new resets before begin after fs k tells same notes all.1)
  where
    one : f.may_open ≡ true → (IsShut old.zones f.zone → ⊥) ⊎ TookMoves old resets new f.zone
    one may = elim (notes f.zone (all.0 may)) as (λ _. (IsShut old.zones f.zone → ⊥) ⊎ TookMoves old resets new f.zone) [
      | inl was ↦ inl (λ shut. let there : slice_get before f.zone ≡ Some was.0 = subst (λ (rs : List ReportedZone). slice_get rs f.zone ≡ Some was.0) same was.1 in let no = tells f.zone was.0 there shut in let yes = was.2 in absurd (cc))
      | inr took ↦ inr (took-since old first new resets f.zone k took)
    ]
