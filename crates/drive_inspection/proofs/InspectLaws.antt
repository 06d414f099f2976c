-- What is found of a drive that is looked at.
use Rattle.std.proofs.Common.{◌≡◌, ◌^◌, ℕ, List, sym, subst, ◌∙◌, arith}
use Rattle.std.specs.Prelude.{IfErr, IfOk, Result, Ok, Err}
use Rattle.zone_states.specs.declared.geometry.Geometry.{Geometry}
use Rattle.zone_states.specs.Geometry.{IsInRange}
use Rattle.drive_port.specs.Drive.{DriveState, IsLawful}
use Rattle.drive_port.proofs.ClosingLaws.{IsClosing-trans}
use Rattle.drive_array.specs.ZoneLogs.{drive_logs}
use Rattle.drive_survey.specs.declared.fault.MountFault.{MountFault}
use Rattle.drive_survey.specs.declared.reported.ReportedZone.{ReportedZone}
use Rattle.drive_survey.specs.declared.survey.Survey.{Survey}
use Rattle.drive_survey.specs.Known.{Knows}
use Rattle.drive_survey.specs.Reported.{KeepsZones}
use Rattle.drive_survey.specs.Scan.{FailsBy}
use Rattle.drive_survey.specs.Survey.{Surveys}
use Rattle.drive_survey.proofs.ReadLaws.{keeps-both}
use Rattle.remount.specs.declared.plan.Plan.{Plan}
use Rattle.remount.specs.Mount.{IsPlanned, MountFails}
use Rattle.remount.proofs.StepLaws.{known-own, survey-knows, to-mount}
use Rattle.drive_inspection.specs.declared.info.Holdings.{Holdings}
use Rattle.drive_inspection.specs.declared.info.Info.{Info}
use Rattle.drive_inspection.specs.declared.info.MountWork.{MountWork}
use Rattle.drive_inspection.specs.Found.{IsTellable, IsWorkOf}
use Rattle.drive_inspection.specs.declared.info.Rehearsal.{Rehearsal}
use Rattle.drive_inspection.specs.Info.{AreHoldings, IsInfo, InfoOrRefusal, IsRehearsed, Rehearses, WereReported}
use Rattle.drive_inspection.proofs.CheckLaws.{still-failing}
use Rattle.drive_inspection.proofs.FaultLaws.{refuses}
use Rattle.drive_inspection.proofs.HoldLaws.{holds-before}
use Rattle.drive_inspection.proofs.WorkLaws.{foretells, foretells-before}

-- ---- a drive that can be mounted

-- holdings by a survey, and the work of a planned mount, are the info of a drive
pub info-found : (old middle last : DriveState) (n : ℕ) (first second : Survey) (geometry : Geometry) (plan : Plan) (holdings : Holdings) (work : MountWork) → geometry ≡ old.geometry → IsLawful old
    → KeepsZones old middle → Surveys old middle n first → KeepsZones middle last → IsPlanned last n second plan
    → ((drive : DriveState) → drive.geometry ≡ geometry → Knows drive first.given (drive_logs drive) first → AreHoldings drive first.given holdings) → IsWorkOf geometry plan work
    → IsInfo old n (record { holdings = holdings; work = work })
info-found old middle last n first second geometry plan holdings work same lawful k is k' planned tells is_work =
    let both = keeps-both old middle last k k' in
    let known = known-own middle n (drive_logs middle) first (survey-knows old middle n first k is) in
    let here = subst (λ (m : ℕ). AreHoldings middle m holdings) is.given_is (tells middle (k.geometry ∙ sym same) known) in
    record {
      can = to-mount old middle last n first second plan lawful k is k' planned;
      holds = holds-before old middle n holdings k here;
      foretells = foretells-before old last n work both (foretells last n second plan work planned (subst (λ (g : Geometry). IsWorkOf g plan work) (same ∙ sym both.geometry) is_work));
    }

-- ---- a drive that is refused

-- if its error is told as a refusal, what was found is the drive's info or why it is refused
pub found-so : (drive middle last : DriveState) (n : ℕ) (found same : Result Info MountFault) → IfOk found (IsInfo drive n) → IfErr found (FailsBy (MountFails drive n) middle) → same ≡ found → IfErr same IsTellable
    → KeepsZones drive middle → KeepsZones middle last → InfoOrRefusal drive last n same
found-so drive middle last n (Ok info) same is fails e tells k l = subst (InfoOrRefusal drive last n) (sym e) is
found-so drive middle last n (Err fault) same is fails e tells k l =
    subst (InfoOrRefusal drive last n) (sym e) (refuses drive middle last n fault fails (λ failed. still-failing middle last l failed) (subst (λ (r : Result Info MountFault). IfErr r IsTellable) e tells))

-- ---- its zones

-- zones that were reported of a drive were so reported before controllers closed zones
pub reported-before : (old new : DriveState) (zones : List ReportedZone) → KeepsZones old new → (IsInRange new.geometry → WereReported new zones) → IsInRange old.geometry → WereReported old zones
reported-before old new zones k were range =
    let is = were (rw k.geometry range) in
    record {
      zones = is.zones;
      before = IsClosing-trans old.zones new.zones is.zones k.closing is.before;
      are = rw k.geometry at is.are;
    }

-- ---- its mount

-- a mount that is done, or fails for a cause, is a rehearsal of the drive
pub rehearsed-so : (old new : DriveState) (n : ℕ) (mounted : Result Rehearsal MountFault) → IfOk mounted (Rehearses old new n) → IfErr mounted (FailsBy (MountFails old n) new) → IsRehearsed old new n mounted
rehearsed-so old new n (Ok rehearsal) is fails = is
rehearsed-so old new n (Err fault) is fails = fails

-- a drive as if it had completed no command: its zones are kept
pub keeps-uncounted : (old new : DriveState) → KeepsZones old new → KeepsZones old (record new { completed = 0 })
keeps-uncounted old new k = record {
  geometry = k.geometry;
  lawful = record {
    geometry = k.lawful.geometry;
    count = k.lawful.count;
    zones = k.lawful.zones;
    active = k.lawful.active;
    open_zones = k.lawful.open_zones;
    completed = omega arith;
    stopped = λ (all : 0 ≡ 2 ^ 63). absurd (omega arith);
  };
  closing = k.closing;
  refused = k.refused;
  durable = k.durable;
  appended = k.appended;
  trusted = k.trusted;
  unfailing = k.unfailing;
}
