use Rattle.std.proofs.Common.{rules, ◌≡◌, length, refl, arith}
use Rattle.passthrough.proofs.FailingLaws.{was-as-seen}
use Rattle.passthrough.proofs.ReadyLaws.{query-left}
use Rattle.passthrough.proofs.failing.is_as_seen.Goals as goal

pub returns-then-submit-eq0-clause-seen : goal.returns-then-submit-eq0-clause-seen
returns-then-submit-eq0-clause-seen g c = λ agree zones is counted are.
    let leads = c.requires.leads in
    let long : length c.submit.new.room ≡ 128 = search rules in
    let done : c.submit.result ≡ 0 = search rules in
    was-as-seen _ _ _ zones _ _ _ _ _ leads.in_range.size.0 (omega (arith, c.requires.there, counted)) are c.start_of.ensures long (c.agrees.ensures agree) is
    ((rw leads.shape_is at c.submit.ensures.recalls) done)

pub returns-then-submit-eq0-clause-closes : goal.returns-then-submit-eq0-clause-closes
returns-then-submit-eq0-clause-closes g c = query-left _ _ _ _ _ refl c.submit.ensures.answers.left

pub returns-else-submit-eq0-clause-closes : goal.returns-else-submit-eq0-clause-closes
returns-else-submit-eq0-clause-closes g c = query-left _ _ _ _ _ refl c.submit.ensures.answers.left
