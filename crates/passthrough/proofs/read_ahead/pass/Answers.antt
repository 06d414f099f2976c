use Rattle.passthrough.proofs.KeptLaws.{passed-kept}
use Rattle.passthrough.proofs.read_ahead.pass.Goals as goal

pub returns-clause-kept : goal.returns-clause-kept
returns-clause-kept g c =
    passed-kept _ _ _ _ _ _ _ _ _ _ c.requires.kept c.forget_changed.ensures.kept c.forget_changed.ensures.spares c.submit-status.ensures.answers
