use Rattle.drive_survey.proofs.ReadLaws.{keeps-both}
use Rattle.drive_rescue.proofs.RescueLaws.{rescue-err, rescue-ok}
use Rattle.drive_rescue.proofs.rescuing.rescue.Goals as goal

pub returns-clause-ok : goal.returns-clause-ok
returns-clause-ok g c = rescue-ok (g.S.Source.view c.find.new.source) (g.S.Source.view c.give.new.source) c.args.given c.in_ok-findings.findings _ _ c.give.result c.in_ok-findings.ensures.ok c.give.ensures.ok

pub returns-clause-err : goal.returns-clause-err
returns-clause-err g c = rescue-err (g.S.Source.view c.give.new.source) c.args.given _ _ c.give.result c.give.ensures.err

pub returns-clause-kept : goal.returns-clause-kept
returns-clause-kept g c = keeps-both _ _ _ c.find.ensures.kept c.give.ensures.kept.zones
