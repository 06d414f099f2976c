use Rattle.std.proofs.Common.{arith}
use Rattle.passthrough.proofs.FlushLaws.{settled-all, settled-begin, settled-more}
use Rattle.passthrough.proofs.flushing.settle.Goals as goal

pub loop-i-init : goal.loop-i-init
loop-i-init c = settled-begin _

pub loop-i-preserved : goal.loop-i-preserved
loop-i-preserved c = rw (c.set_zone.ensures, c.zone_at-zone.ensures)
    (settled-more _ _ _ c.loop-i.invariant (omega (arith, c.loop-i-test.true, c.loop-i.auto.seen)))

pub returns : goal.returns
returns c = settled-all _ _ _ c.loop-i.invariant c.loop-i-test.false
