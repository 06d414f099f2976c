use Rattle.std.proofs.Common.{arith}
use Rattle.drive_port.proofs.ClosingLaws.{IsClosing-refl, IsClosing-trans}
use Rattle.passthrough.proofs.FlushLaws.{due-begin, due-then}
use Rattle.passthrough.proofs.flushing.look_at_due.Goals as goal

pub loop-first-init : goal.loop-first-init
loop-first-init g c = (omega arith, due-begin _ _ _, c.requires.ready, IsClosing-refl _, λ flushed. flushed)

pub returns-in_err-look_at_stretch-clause-closes : goal.returns-in_err-look_at_stretch-clause-closes
returns-in_err-look_at_stretch-clause-closes g c = IsClosing-trans _ _ _ c.loop-first.invariant.3 c.look_at_stretch.ensures.closes

pub loop-first-preserved : goal.loop-first-preserved
loop-first-preserved g c = (
  omega (arith, c.min-count.ensures, c.loop-first.invariant.0),
  due-then _ _ _ _ _ _ _ _ _ c.loop-first.invariant.1 c.loop-first.invariant.3 c.in_ok-look_at_stretch.ensures.seen c.look_at_stretch.ensures.closes,
  c.in_ok-look_at_stretch.ensures.ready (λ e. cc),
  IsClosing-trans _ _ _ c.loop-first.invariant.3 c.look_at_stretch.ensures.closes,
  λ flushed. c.look_at_stretch.ensures.flushed (c.loop-first.invariant.4 flushed),
)
