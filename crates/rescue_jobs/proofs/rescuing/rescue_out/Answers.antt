use Rattle.drive_survey.proofs.ReadLaws.{keeps-both}
use Rattle.drive_rescue.proofs.RescueLaws.{fails}
use Rattle.rescue_jobs.proofs.rescuing.rescue_out.Goals as goal

pub returns-in-Ok-clause-ok : goal.returns-in-Ok-clause-ok
returns-in-Ok-clause-ok g c = c.in-Ok.ensures.ok c.args.given c.in_ok-findings.ensures.ok

pub returns-in-Ok-clause-kept : goal.returns-in-Ok-clause-kept
returns-in-Ok-clause-kept g c = keeps-both _ _ _ c.find_disk.ensures.kept c.give.ensures.kept.zones

pub returns-clause-err : goal.returns-clause-err
returns-clause-err g c = fails (g.S.Source.view c.give.new.source) c.args.given _ _ _ c.in-Err.ensures.err

pub returns-clause-kept : goal.returns-clause-kept
returns-clause-kept g c = keeps-both _ _ _ c.find_disk.ensures.kept c.give.ensures.kept.zones
