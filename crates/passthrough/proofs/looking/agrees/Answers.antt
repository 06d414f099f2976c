use Rattle.passthrough.proofs.ShowingLaws.{shown-fewer, shown-more}
use Rattle.passthrough.proofs.looking.agrees.Goals as goal

pub loop-i-preserved : goal.loop-i-preserved
loop-i-preserved c = shown-more _ _ _ _ _ _ c.loop-i.invariant (rw (c.zone_at-zone.ensures, c.from.ensures, c.descriptor.ensures) at c.in-Some.ensures)

pub returns : goal.returns
returns c = λ all. shown-fewer _ _ _ _ _ _ c.loop-i.invariant c.loop-i-test.false
