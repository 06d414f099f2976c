use Rattle.std.proofs.Common.{arith, refl}
use Rattle.passthrough.proofs.ShowingLaws.{sees-more}
use Rattle.passthrough.proofs.looking.see.Goals as goal

pub loop-i-preserved : goal.loop-i-preserved
loop-i-preserved c = sees-more c.args.first c.loop-i.i _ _ _ _ c.loop-i.invariant (omega (arith, c.loop-i-test.true, c.requires.few))
    (rw (c.set_zone.ensures, c.now_seen-zone.ensures, c.descriptor.ensures, c.zone_at.ensures, c.from.ensures, c.from-in-loop-i.ensures) refl)
