use Rattle.live_index.proofs.OrderLaws.{inverse-fresh, ordered-fresh}
use Rattle.live_index.proofs.index.LiveIndex.new.Goals as goal

pub invariant_of-result : goal.invariant_of-result
invariant_of-result c = rw (c.in_ok-vec.ensures.items_if_clones_equal (λ y same. same), c.in_ok-new.ensures.zones, c.in_ok-new.ensures.positions) (ordered-fresh c.args.zones, inverse-fresh c.args.zones)
