use Rattle.std.proofs.Common.{rules, ◌≡◌, length, drop, refl}
use Rattle.yardsticks.proofs.LyingLaws.{tells-after, tells-completed, tells-passed-after}
use Rattle.yardsticks.proofs.lying.LyingDeviceDevice.submit_extending.Goals as goal

pub returns-in_err-completion-clause-gives : goal.returns-in_err-completion-clause-gives
returns-in_err-completion-clause-gives g c =
    tells-passed-after _ _ c.args.self.now.lied _ _ _ _ _ c.from_residual.result c.from_residual.ensures.1 c.in_err-completion.ensures.gives

pub returns-else-reads-clause-gives : goal.returns-else-reads-clause-gives
returns-else-reads-clause-gives g c =
    let adds = c.in_ok-completion.ensures.gives in
    record {
      returned = adds.returned;
      joined = adds.joined;
      given = tells-completed _ _ _ _ _ _ _ _ _ c.vouch.ensures (record { long = refl; other = λ e. refl; same = λ e. refl; before = λ e. e; fair = λ e. refl }) adds.given;
    }

pub returns-then-reads-clause-gives : goal.returns-then-reads-clause-gives
returns-then-reads-clause-gives g c =
    let adds = c.in_ok-completion.ensures.gives in
    let count : c.len-held.result ≡ length c.args.into.now.items = search rules in
    let after = tells-after _ c.args.self.now.lied _ c.args.into.now.items c.submit_extending.new.into.items _ adds.returned _ count adds.joined (cc (c.reads.ensures, c.if-reads.true))
    c.tell_after.ensures.long c.tell_after.ensures.kept c.tell_after.ensures.told c.tell_after.ensures.before c.tell_after.ensures.fair in
    rw c.tell_after.ensures.device
    (record { returned = drop c.len-held.result c.tell_after.new.into.items; joined = after.joined; given = tells-completed _ _ _ _ _ _ _ _ _ c.vouch.ensures after.tells adds.given })
