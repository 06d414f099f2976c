use Rattle.std.proofs.Common.{refl, arith}
use Rattle.yardsticks.proofs.batches.is_heading.Goals as goal

pub returns : goal.returns
returns c =
    let blocks = rw c.deref.ensures.value at c.if-not-are_small.ensures in
    let distinct = rw c.deref-2.ensures.value at c.are_distinct.ensures in
    (λ e. record { room = omega arith; sequence = omega arith; source = omega arith; host = c.if-not-is_source.ensures.0 refl; size = c.if-not-is_size.ensures.0 refl; blocks = blocks.0 refl; distinct = distinct.0 e }, λ h. distinct.1 h.distinct)
