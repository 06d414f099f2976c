use Rattle.std.proofs.Common.{Some}
use Rattle.std.specs.Cmp.Lexicographic.{other_text, same_text}
use Rattle.drive_survey.proofs.ReadLaws.{keeps-both}
use Rattle.drive_survey.proofs.SurveyLaws.{known-kept}
use Rattle.drive_survey.proofs.ShowLaws.{both-differ, both-same}
use Rattle.drive_survey.proofs.clearing.shown.show_same.Goals as goal

pub read_shown-requires-2 : goal.read_shown-requires-2
read_shown-requires-2 g c = record { zones = known-kept _ _ c.args.zones.now c.read_shown.ensures.kept c.requires.zones }

pub returns-in_err-read_shown-2-clause-kept : goal.returns-in_err-read_shown-2-clause-kept
returns-in_err-read_shown-2-clause-kept g c = keeps-both _ _ _ c.read_shown.ensures.kept c.read_shown-2.ensures.kept

pub returns-then-eq-clause-ok : goal.returns-then-eq-clause-ok
returns-then-eq-clause-ok g c clean =
    both-same (g.D.Device.drive c.args.device.now) (g.D.Device.drive c.read_shown.new.device) (Some c.args.rivals.newest) c.args.rivals.other c.read_shown.new.into.items c.read_shown-2.new.into.items c.read_shown.ensures.kept (c.in_ok-read_shown.ensures.ok (c.read_shown-2.ensures.kept.trusted clean)) (c.in_ok-read_shown-2.ensures.ok clean) (same_text _ _ c.if-eq.ensures)

pub returns-then-eq-clause-kept : goal.returns-then-eq-clause-kept
returns-then-eq-clause-kept g c = keeps-both _ _ _ c.read_shown.ensures.kept c.read_shown-2.ensures.kept

pub returns-clause-ok : goal.returns-clause-ok
returns-clause-ok g c clean =
    both-differ (g.D.Device.drive c.args.device.now) (g.D.Device.drive c.read_shown.new.device) (Some c.args.rivals.newest) c.args.rivals.other c.read_shown.new.into.items c.read_shown-2.new.into.items c.read_shown.ensures.kept (c.in_ok-read_shown.ensures.ok (c.read_shown-2.ensures.kept.trusted clean)) (c.in_ok-read_shown-2.ensures.ok clean) (other_text _ _ c.if-eq.ensures)

pub returns-clause-kept : goal.returns-clause-kept
returns-clause-kept g c = keeps-both _ _ _ c.read_shown.ensures.kept c.read_shown-2.ensures.kept
