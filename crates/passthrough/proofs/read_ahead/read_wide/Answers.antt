use Rattle.std.proofs.Common.{◌≤◌, refl, arith}
use Rattle.drive_port.proofs.ClosingLaws.{IsClosing-refl}
use Rattle.passthrough.specs.Kept.{IsWithin}
use Rattle.passthrough.proofs.KeptLaws.{kept-effect, kept-room, wide-sent}
use Rattle.passthrough.proofs.read_ahead.read_wide.Goals as goal

pub returns-then-ahead-eq0-clause-closing : goal.returns-then-ahead-eq0-clause-closing
returns-then-ahead-eq0-clause-closing g c = IsClosing-refl _

pub fill-requires-clause-sent : goal.fill-requires-clause-sent
fill-requires-clause-sent g c = wide-sent _ _ _ _ _ _ _ _ c.requires.sent c.requires.kept.shape (c.ahead-ahead.ensures.can (omega arith))

pub copy-requires-clause-to : goal.copy-requires-clause-to
copy-requires-clause-to g c =
    let some : 1 ≤ c.ahead-ahead.result = omega arith in
    let filled = c.if-not-fill.ensures.filled refl in
    let within : IsWithin c.fill.new.kept c.args.address c.args.blocks =
    record { from = omega (arith, filled.0); to = omega (arith, filled.0, filled.1, c.ahead-ahead.ensures.more some) } in
    kept-room _ _ _ _ _ _ c.fill.ensures.kept within c.requires.sent.returned

pub returns-clause-read : goal.returns-clause-read
returns-clause-read g c = λ _.
    let some : 1 ≤ c.ahead-ahead.result = omega arith in
    let filled = c.if-not-fill.ensures.filled refl in
    let within : IsWithin c.fill.new.kept c.args.address c.args.blocks =
    record { from = omega (arith, filled.0); to = omega (arith, filled.0, filled.1, c.ahead-ahead.ensures.more some) } in
    let lawful = rw c.fill.ensures.shape at c.fill.ensures.lawful in
    let sent = c.requires.sent in
    kept-effect _ _ _ _ _ _ _ _ lawful c.fill.ensures.closing c.fill.ensures.kept within c.requires.some sent.few sent.in_range sent.returned c.copy.ensures
