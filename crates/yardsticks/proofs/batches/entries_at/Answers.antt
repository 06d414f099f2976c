use Rattle.std.proofs.Common.{ℕ, ◌*◌, List, ap, ◌∙◌}
use Rattle.std.proofs.lemmas.List.{take_rest}
use Rattle.byteorder.specs.Endian.{little_from}
use Rattle.batch_log.specs.Reading.{entry_of}
use Rattle.yardsticks.proofs.HeaderReading.{one_more_read}
use Rattle.yardsticks.proofs.batches.entries_at.Goals as goal

pub loop-i-preserved : goal.loop-i-preserved
loop-i-preserved c =
    let e = c.entry_at.ensures ∙ ap (λ (xs : List ℕ). entry_of (little_from 0 8 xs)) (take_rest c.args.bytes.now (8 * c.loop-i.i)) in
    one_more_read c.args.count c.loop-i.i c.args.bytes.now _ _ _ c.entry_at.result c.loop-i-test.true c.loop-i.invariant e c.in_ok-push.ensures.items
