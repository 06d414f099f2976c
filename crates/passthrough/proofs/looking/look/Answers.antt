use Rattle.std.proofs.Common.{rules, ◌≡◌, ◌+◌, ◌*◌, true, length, refl}
use Rattle.passthrough.proofs.LookLaws.{look-seen}
use Rattle.passthrough.proofs.ReadyLaws.{leads-after, query-left, ready-closing}
use Rattle.passthrough.proofs.looking.look.Goals as goal

pub returns-then-submit-ne0-clause-closes : goal.returns-then-submit-ne0-clause-closes
returns-then-submit-ne0-clause-closes g c = query-left _ _ _ _ _ refl c.submit.ensures.answers.left

pub returns-then-submit-ne0-clause-ready : goal.returns-then-submit-ne0-clause-ready
returns-then-submit-ne0-clause-ready g c = λ going.
    ready-closing _ _ _ _ _ _ c.requires.ready (leads-after _ _ _ _ _ c.requires.ready.leads c.submit.ensures.shape c.submit.ensures.lawful)
    (query-left _ _ _ _ _ refl c.submit.ensures.answers.left)

pub returns-then-not-agrees-clause-closes : goal.returns-then-not-agrees-clause-closes
returns-then-not-agrees-clause-closes g c = query-left _ _ _ _ _ refl c.submit.ensures.answers.left

pub returns-clause-closes : goal.returns-clause-closes
returns-clause-closes g c = query-left _ _ _ _ _ refl c.submit.ensures.answers.left

pub returns-clause-seen : goal.returns-clause-seen
returns-clause-seen g c =
    let done : c.submit.result ≡ 0 = search rules in
    let agree : c.agrees.result ≡ true = search rules in
    let long : length c.submit.new.room ≡ 64 + 64 * c.args.count = search rules in
    (look-seen _ _ _ _ _ _ _ c.args.first c.args.count _ _ _ _ _ _ c.requires.ready c.start_of.ensures c.requires.there long (c.agrees.ensures agree)
    c.submit.ensures.answers done c.submit.ensures.shape c.submit.ensures.lawful c.see.ensures).0

pub returns-clause-ready : goal.returns-clause-ready
returns-clause-ready g c = λ going.
    let done : c.submit.result ≡ 0 = search rules in
    let agree : c.agrees.result ≡ true = search rules in
    let long : length c.submit.new.room ≡ 64 + 64 * c.args.count = search rules in
    (look-seen _ _ _ _ _ _ _ c.args.first c.args.count _ _ _ _ _ _ c.requires.ready c.start_of.ensures c.requires.there long (c.agrees.ensures agree)
    c.submit.ensures.answers done c.submit.ensures.shape c.submit.ensures.lawful c.see.ensures).1
