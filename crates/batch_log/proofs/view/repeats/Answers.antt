use Rattle.std.proofs.Common.{sym, ◌∙◌}
use Rattle.batch_log.proofs.EntryLaws.{repeats_more}
use Rattle.batch_log.proofs.view.repeats.Goals as goal

pub returns-then-is_named : goal.returns-then-is_named
returns-then-is_named c =
    let more = repeats_more c.args.count c.loop-i.i c.args.bytes.now c.entry_at.result c.loop-i-test.true c.entry_at.ensures.value in
    sym (rw (sym c.if-is_named.ensures) at more) ∙ c.loop-i.invariant

pub loop-i-preserved : goal.loop-i-preserved
loop-i-preserved c =
    let more = repeats_more c.args.count c.loop-i.i c.args.bytes.now c.entry_at.result c.loop-i-test.true c.entry_at.ensures.value in
    sym (rw (sym c.if-is_named.ensures) at more) ∙ c.loop-i.invariant
