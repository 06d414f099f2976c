use Rattle.std.proofs.Common.{ℕ, sym, subst}
use Rattle.drive_array.specs.ZoneLogs.{drive_logs}
use Rattle.drive_survey.specs.Scan.{FailsBy}
use Rattle.drive_survey.specs.Survey.{CanScan}
use Rattle.drive_survey.proofs.ReadLaws.{keeps-both}
use Rattle.drive_survey.proofs.NextLaws.{if-fault}
use Rattle.remount.specs.Mount.{IsPlanned, PlanFails}
use Rattle.remount.proofs.StepLaws.{can-kept, known-own, plan-refused, survey-knows, to-mount}
use Rattle.drive_inspection.proofs.foreseen.foresee_mount.Goals as goal

pub plan_mount-requires-clause-known : goal.plan_mount-requires-clause-known
plan_mount-requires-clause-known g c clean =
    let middle = g.D.Device.drive c.survey_drive.new.device in
    known-own middle c.args.given (drive_logs middle) c.in_ok-survey.survey (survey-knows _ _ c.args.given c.in_ok-survey.survey c.survey_drive.ensures.kept (c.in_ok-survey.ensures.ok clean))

pub plan_mount-requires-clause-can : goal.plan_mount-requires-clause-can
plan_mount-requires-clause-can g c =
    subst (λ (k : ℕ). CanScan (g.D.Device.drive c.survey_drive.new.device) k) (sym c.in_ok-survey.ensures.reported.given_is) (can-kept _ _ c.args.given c.survey_drive.ensures.kept c.in_ok-survey.ensures.reported.can)

pub returns-in_err-plan-clause-err : goal.returns-in_err-plan-clause-err
returns-in_err-plan-clause-err g c clean =
    let is = c.in_ok-survey.ensures.ok (c.plan_mount.ensures.kept.trusted clean) in
    if-fault c.from_residual-in_err-plan.result c.in_err-plan.field-0.0 _ c.from_residual-in_err-plan.ensures.1
    (plan-refused (g.D.Device.drive c.args.device.now) (g.D.Device.drive c.survey_drive.new.device) (g.D.Device.drive c.plan_mount.new.device) c.args.given c.in_ok-survey.survey c.in_err-plan.field-0.0 c.survey_drive.ensures.kept is
    (subst (λ (k : ℕ). FailsBy (PlanFails (g.D.Device.drive c.survey_drive.new.device) k) (g.D.Device.drive c.plan_mount.new.device) c.in_err-plan.field-0.0) is.given_is (c.in_err-plan.ensures.err clean)))

pub returns-in_err-plan-clause-kept : goal.returns-in_err-plan-clause-kept
returns-in_err-plan-clause-kept g c = keeps-both _ _ _ c.survey_drive.ensures.kept c.plan_mount.ensures.kept

pub returns-clause-ok : goal.returns-clause-ok
returns-clause-ok g c clean =
    let is = c.in_ok-survey.ensures.ok (c.plan_mount.ensures.kept.trusted clean) in
    let planned = subst (λ (k : ℕ). IsPlanned (g.D.Device.drive c.plan_mount.new.device) k c.plan_mount.new.survey c.in_ok-plan.plan) is.given_is (c.in_ok-plan.ensures.ok clean) in
    record {
      geometry_is = c.geometry-geometry.ensures.value;
      can = to-mount (g.D.Device.drive c.args.device.now) (g.D.Device.drive c.survey_drive.new.device) (g.D.Device.drive c.plan_mount.new.device) c.args.given c.in_ok-survey.survey c.plan_mount.new.survey c.in_ok-plan.plan
          c.geometry-geometry.ensures.lawful c.survey_drive.ensures.kept is c.plan_mount.ensures.kept planned;
      planned = planned;
    }

pub returns-clause-kept : goal.returns-clause-kept
returns-clause-kept g c = keeps-both _ _ _ c.survey_drive.ensures.kept c.plan_mount.ensures.kept

pub plan_mount-requires-clause-fits : goal.plan_mount-requires-clause-fits
plan_mount-requires-clause-fits g c = record { zones = c.in_ok-survey.ensures.reported.zones; scanned = c.in_ok-survey.ensures.reported.scanned }
