use Rattle.std.proofs.Common.{sym, ◌∙◌}
use Rattle.std.proofs.lemmas.Bool.{ne_eqb}
use Rattle.batch_log.proofs.EntryLaws.{named_more}
use Rattle.batch_log.proofs.view.is_named.Goals as goal

pub loop-i-preserved : goal.loop-i-preserved
loop-i-preserved c =
    let other = ne_eqb _ _ c.if-block-entry_at.false in
    let more = named_more c.args.block c.args.count c.loop-i.i c.args.bytes.now c.entry_at.result c.loop-i-test.true c.entry_at.ensures.value in
    sym (rw other at more) ∙ c.loop-i.invariant
