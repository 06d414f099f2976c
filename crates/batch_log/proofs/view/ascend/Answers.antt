use Rattle.std.proofs.Common.{◌≡◌, ◌-◌, true, sym, ap, ◌∙◌, arith, zero, drop, ℕ, ◌*◌}
use Rattle.std.proofs.lemmas.Bool.{le-leb}
use Rattle.batch_log.specs.Reading.{entries_in}
use Rattle.batch_log.specs.Causes.{entry_blocks}
use Rattle.batch_log.proofs.EntryLaws.{ascending, ascends, ascends_from, ascends_more}
use Rattle.batch_log.proofs.view.ascend.Goals as goal

pub loop-i-preserved : goal.loop-i-preserved
loop-i-preserved c =
    let more = ascends_more c.args.count c.loop-i.i c.loop-i.least c.args.bytes.now c.entry_at-block.result c.loop-i-test.true c.entry_at-block.ensures.value in
    let above = le-leb c.loop-i.least c.entry_at-block.result.block c.if-block-least.false in
    sym (rw above at more) ∙ c.loop-i.invariant

pub returns : goal.returns
returns c = λ yes.
    let done : c.args.count - c.loop-i.i ≡ zero = omega (arith, c.loop-i-test.false) in
    let all : ascends_from c.args.bytes.now c.args.count c.loop-i.least c.loop-i.i ≡ true = ap (λ (n : ℕ). ascends c.loop-i.least (entry_blocks (entries_in n (drop (8 * c.loop-i.i) c.args.bytes.now)))) done in
    ascending (entry_blocks (entries_in c.args.count c.args.bytes.now)) (sym c.loop-i.invariant ∙ all)
