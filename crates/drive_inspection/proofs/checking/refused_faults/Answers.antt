use Rattle.std.proofs.Common.{◌≡◌, ◌∙◌, Some, sym, subst}
use Rattle.zone_states.specs.Geometry.{IsInRange}
use Rattle.drive_survey.proofs.ReadLaws.{keeps-none}
use Rattle.drive_inspection.specs.declared.finding.Findings.{Findings}
use Rattle.drive_inspection.specs.Findings.{AreByReport, ListsByReport, ListsFaults, ListsRefused}
use Rattle.drive_inspection.proofs.CheckLaws.{both-ok, faults-refused, found-by-report, found-nothing, if-ok}
use Rattle.drive_inspection.proofs.checking.refused_faults.Goals as goal

pub list_faults-requires-clause-in_range : goal.list_faults-requires-clause-in_range
list_faults-requires-clause-in_range g c = subst IsInRange c.geometry.ensures.value c.in-Ok.ensures.ok

pub returns-in_default-clause-kept : goal.returns-in_default-clause-kept
returns-in_default-clause-kept g c = keeps-none _ c.geometry.ensures.lawful

pub returns-clause-ok : goal.returns-clause-ok
returns-clause-ok g c clean =
    let old = g.D.Device.drive c.args.device.now in
    let new = g.D.Device.drive c.list_faults.new.device in
    if-ok c.list_faults.result (ListsFaults old new c.args.given) (ListsRefused old new c.args.given) (c.list_faults.ensures.ok clean) (λ f lists. faults-refused old new c.args.given f lists)

pub returns-clause-reported : goal.returns-clause-reported
returns-clause-reported g c =
    let old = g.D.Device.drive c.args.device.now in
    let range : IsInRange old.geometry = subst IsInRange c.geometry.ensures.value c.in-Ok.ensures.ok in
    both-ok c.list_faults.result (ListsByReport old) (λ (f : Findings). f.refusal ≡ Some c.args.refusal) (AreByReport old)
    c.list_faults.ensures.reported c.list_faults.ensures.refusal
    (λ f lists is. found-by-report old old f c.args.refusal (keeps-none old c.geometry.ensures.lawful) range is c.requires.tells lists)
