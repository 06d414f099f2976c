use Rattle.drive_rescue.proofs.RescueLaws.{give-ok}
use Rattle.drive_rescue.proofs.rescuing.give.Goals as goal

pub returns-clause-ok : goal.returns-clause-ok
returns-clause-ok g c =
    give-ok (g.S.Source.view c.args.source.now) (g.S.Source.view c.give_blocks.new.source) c.args.findings.now _ _ c.give_blocks.result c.give_blocks.ensures.kept c.give_blocks.ensures.size c.give_blocks.ensures.ok
