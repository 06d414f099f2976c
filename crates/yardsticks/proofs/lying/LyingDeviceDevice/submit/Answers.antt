use Rattle.std.proofs.Common.{refl}
use Rattle.yardsticks.proofs.LyingLaws.{tells-completed, tells-passed}
use Rattle.yardsticks.proofs.lying.LyingDeviceDevice.submit.Goals as goal

pub returns-in_err-completion-clause-gives : goal.returns-in_err-completion-clause-gives
returns-in_err-completion-clause-gives g c =
    tells-passed _ _ c.args.self.now.lied _ _ _ _ c.from_residual.result c.from_residual.ensures.1 c.in_err-completion.ensures.gives

pub returns-else-reads-clause-gives : goal.returns-else-reads-clause-gives
returns-else-reads-clause-gives g c =
    tells-completed _ _ _ _ _ _ _ _ _ c.vouch.ensures (record { long = refl; other = λ e. refl; same = λ e. refl; before = λ e. e; fair = λ e. refl }) c.in_ok-completion.ensures.gives

pub returns-then-reads-clause-gives : goal.returns-then-reads-clause-gives
returns-then-reads-clause-gives g c =
    rw c.tell_after.ensures.device
    (tells-completed _ _ c.args.self.now.lied _ _ _ _ _ _ c.vouch.ensures
    (record { long = c.tell_after.ensures.long; other = λ e. absurd (cc (e, c.reads.ensures, c.if-reads.true)); same = c.tell_after.ensures.told; before = c.tell_after.ensures.before; fair = c.tell_after.ensures.fair })
    c.in_ok-completion.ensures.gives)
