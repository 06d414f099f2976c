use Rattle.std.proofs.Common.{◌≡◌, Some, subst, sym}
use Rattle.drive_survey.proofs.ReadLaws.{keeps-both}
use Rattle.drive_inspection.specs.declared.finding.Findings.{Findings}
use Rattle.drive_inspection.specs.Findings.{AreByReport, AreFindings, ListsRefused, Refuses}
use Rattle.drive_inspection.proofs.CheckLaws.{both-ok, by-report-before, findings-faults, if-ok, lists-none, refused-before, still-failing}
use Rattle.drive_inspection.proofs.FaultLaws.{end-tells, mount-interrupted, refuses}
use Rattle.drive_inspection.proofs.checking.check_drive.Goals as goal

pub returns-in_default-clause-ok : goal.returns-in_default-clause-ok
returns-in_default-clause-ok g c clean =
    let old = g.D.Device.drive c.args.device.now in
    let last = g.D.Device.drive c.foresee_mount.new.device in
    let none = c.no_findings.ensures.refusal in
    record {
      refuses = subst (Refuses old last c.args.given) (sym none) (c.in_default.ensures.ok clean).can;
      lists = lists-none old last c.args.given c.no_findings.result none c.no_findings.ensures.clean;
    }

pub returns-then-is_end-clause-err : goal.returns-then-is_end-clause-err
returns-then-is_end-clause-err g c clean =
    mount-interrupted (g.D.Device.drive c.args.device.now) (g.D.Device.drive c.foresee_mount.new.device) c.args.given c.in-Err.refusal (end-tells c.in-Err.refusal (c.is_end.ensures.yes c.if-is_end.true)) (c.in-Err.ensures.err clean)

pub returns-then-is_end-clause-kinds : goal.returns-then-is_end-clause-kinds
returns-then-is_end-clause-kinds g c = end-tells c.in-Err.refusal (c.is_end.ensures.yes c.if-is_end.true)

pub returns-clause-ok : goal.returns-clause-ok
returns-clause-ok g c clean =
    let old = g.D.Device.drive c.args.device.now in
    let middle = g.D.Device.drive c.foresee_mount.new.device in
    let last = g.D.Device.drive c.refused_faults.new.device in
    let was = c.refused_faults.ensures.kept.trusted clean in
    let told = refuses old middle last c.args.given c.in-Err.refusal (c.in-Err.ensures.err was)
    (λ fails. still-failing middle last c.refused_faults.ensures.kept fails)
    (c.is_end.ensures.no c.if-is_end.false) in
    both-ok c.refused_faults.result (ListsRefused middle last c.args.given) (λ (f : Findings). f.refusal ≡ Some c.in-Err.refusal) (AreFindings old last c.args.given)
    (c.refused_faults.ensures.ok clean) c.refused_faults.ensures.refusal
    (λ f lists is. findings-faults old last c.args.given f c.in-Err.refusal is told (refused-before old middle last c.args.given f c.foresee_mount.ensures.kept lists))

pub returns-clause-reported : goal.returns-clause-reported
returns-clause-reported g c =
    let old = g.D.Device.drive c.args.device.now in
    let middle = g.D.Device.drive c.foresee_mount.new.device in
    if-ok c.refused_faults.result (AreByReport middle) (AreByReport old) c.refused_faults.ensures.reported (λ f is. by-report-before old middle f c.foresee_mount.ensures.kept is)

pub returns-clause-kept : goal.returns-clause-kept
returns-clause-kept g c = keeps-both _ _ _ c.foresee_mount.ensures.kept c.refused_faults.ensures.kept
