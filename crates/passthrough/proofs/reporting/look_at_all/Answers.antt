use Rattle.std.proofs.Common.{arith}
use Rattle.drive_port.proofs.ClosingLaws.{IsClosing-refl, IsClosing-trans}
use Rattle.passthrough.proofs.ReportLaws.{seen-none, seen-then}
use Rattle.passthrough.proofs.reporting.look_at_all.Goals as goal

pub loop-first-init : goal.loop-first-init
loop-first-init g c = (omega arith, seen-none _ _ _, c.requires.ready, IsClosing-refl _, λ flushed. flushed)

pub returns-in_err-look-clause-closes : goal.returns-in_err-look-clause-closes
returns-in_err-look-clause-closes g c = IsClosing-trans _ _ _ c.loop-first.invariant.3 c.look.ensures.closes

pub loop-first-preserved : goal.loop-first-preserved
loop-first-preserved g c = (
  omega (arith, c.min-count.ensures, c.loop-first.invariant.0),
  seen-then _ _ _ _ _ _ _ _ _ c.loop-first.invariant.1 c.loop-first.invariant.3 c.in_ok-look.ensures.seen c.in_ok-look.ensures.closes,
  c.in_ok-look.ensures.ready (λ e. cc),
  IsClosing-trans _ _ _ c.loop-first.invariant.3 c.look.ensures.closes,
  λ flushed. c.look.ensures.flushed (c.loop-first.invariant.4 flushed),
)
