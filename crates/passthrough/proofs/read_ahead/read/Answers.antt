use Rattle.std.proofs.Common.{arith, refl}
use Rattle.drive_port.proofs.ClosingLaws.{IsClosing-refl}
use Rattle.passthrough.proofs.KeptLaws.{answers-after, kept-effect, kept-room, read-answers, still-sent}
use Rattle.passthrough.proofs.read_ahead.read.Goals as goal

pub copy-requires-clause-to : goal.copy-requires-clause-to
copy-requires-clause-to g c = kept-room _ _ _ _ _ _ c.requires.kept (c.if-has.ensures.0 refl) c.requires.sent.returned

pub returns-then-has-clause-answers : goal.returns-then-has-clause-answers
returns-then-has-clause-answers g c =
    let closing = IsClosing-refl (g.P.Passthrough.zones c.args.way.now) in
    let sent = c.requires.sent in
    let effect = kept-effect _ _ _ _ _ _ _ _ c.requires.lawful closing c.requires.kept (c.if-has.ensures.0 refl) c.requires.some sent.few sent.in_range sent.returned c.copy.ensures in
    read-answers _ _ _ _ _ _ _ closing effect

pub returns-then-read_wide-clause-answers : goal.returns-then-read_wide-clause-answers
returns-then-read_wide-clause-answers g c = read-answers _ _ _ _ _ _ _ c.read_wide.ensures.closing (c.if-read_wide.ensures.read refl)

pub returns-then-status-ne0-clause-answers : goal.returns-then-status-ne0-clause-answers
returns-then-status-ne0-clause-answers g c = answers-after _ _ _ _ _ _ _ _ _ _ _ c.read_wide.ensures.shape c.read_wide.ensures.closing c.pass-status.ensures.answers

pub returns-clause-answers : goal.returns-clause-answers
returns-clause-answers g c =
    let answers = rw c.if-status-ne0.false at c.pass-status.ensures.answers in
    answers-after _ _ _ _ _ _ _ _ _ _ _ c.read_wide.ensures.shape c.read_wide.ensures.closing answers

pub pass-status-requires-clause-sent : goal.pass-status-requires-clause-sent
pass-status-requires-clause-sent g c =
    (refl, still-sent _ _ _ _ _ _ _ _ _ c.read_wide.ensures.shape c.read_wide.ensures.closing (omega (arith, c.read_wide.auto.room)) c.requires.sent)
