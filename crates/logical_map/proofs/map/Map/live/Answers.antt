use Rattle.std.proofs.Common.{arith}
use Rattle.logical_map.specs.Pages.{page_of}
use Rattle.logical_map.proofs.Counting.{kept-count}
use Rattle.logical_map.proofs.map.Map.live.Goals as goal

pub returns-then-index-len : goal.returns-then-index-len
returns-then-index-len c =
    rw (← c.self.view_is) (λ below. kept-count (page_of c.self.inside.pages.items) c.self.inside.count c.self.inside.zones c.self.inside.zone_size c.args.zone c.self.inside.counts.items c.self.invariant.0 below (omega (arith, c.if-index-len.true, c.len.ensures, c.self.inside.counts.ok.0)))
