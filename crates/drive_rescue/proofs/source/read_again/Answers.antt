use Rattle.drive_rescue.proofs.KeepLaws.{keeps-source_both, there-kept}
use Rattle.drive_rescue.proofs.source.read_again.Goals as goal

pub read-requires-in-Unreadable-clause-there : goal.read-requires-in-Unreadable-clause-there
read-requires-in-Unreadable-clause-there g c = there-kept (g.S.Source.view c.args.source.now) _ c.args.number c.args.offset c.read.ensures.kept c.requires.there

pub returns-in-Unreadable-clause-kept : goal.returns-in-Unreadable-clause-kept
returns-in-Unreadable-clause-kept g c = keeps-source_both _ _ _ c.read.ensures.kept c.read-in-Unreadable.ensures.kept
