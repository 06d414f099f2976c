use Rattle.drive_survey.proofs.ReadLaws.{keeps-both}
use Rattle.rescue_jobs.proofs.IntoLaws.{into-ok}
use Rattle.rescue_jobs.proofs.rescuing.rescue_into.Goals as goal

pub returns-clause-ok : goal.returns-clause-ok
returns-clause-ok g c =
    into-ok g.D.Device.drive (g.S.Source.view c.find_disk.new.source) (g.S.Source.view c.give_to.new.source) c.args.given c.in_ok-findings.findings c.give_to.result c.in_ok-findings.ensures.ok c.give_to.ensures.ok

pub returns-clause-kept : goal.returns-clause-kept
returns-clause-kept g c = keeps-both _ _ _ c.find_disk.ensures.kept c.give_to.ensures.kept.zones
