use Rattle.std.proofs.Common.{◌≡◌, ◌∙◌, ◌<◌, ◌^◌, Ok, length, ap, arith, inl, inr}
use Rattle.nvme_wire.specs.Entry.{id_of}
use Rattle.nvme_wire.specs.declared.status.Status.TheVariants.{Success}
use Rattle.drive_port.specs.Drive.{DriveState}
use Rattle.drive_port.specs.Step.{Effect}
use Rattle.drive_port.proofs.ClosingLaws.{IsClosing-refl}
use Rattle.passthrough.proofs.ThroughLaws.{halted-left, silent-answers, silent-recalls, success-answers, success-recalls, told-effect}
use Rattle.passthrough.proofs.through.ThroughPassthrough.submit.Given.{Over}
use Rattle.passthrough.proofs.through.ThroughPassthrough.submit.Goals as goal
use Rattle.passthrough.proofs.through.ThroughPassthrough.submit.Goals.{After-copy_from_slice}

pub returns-in_default-clause-answers : goal.returns-in_default-clause-answers
returns-in_default-clause-answers g c =
    rw (← c.self.view_is) (silent-answers _ _ _ _ _ _ _ _ (omega arith) (rw c.encode-entry.ensures.again at (halted-left _ _ _ _ _ c.in_default.ensures.gives.1)))

-- ---- a command that succeeded

abbrev before : (g : Over) → goal.After-copy_from_slice g → DriveState
before g c = g.D.Device.drive c.self.inside.device

abbrev after : (g : Over) → goal.After-copy_from_slice g → DriveState
after g c = g.D.Device.drive c.submit.new.self

-- what the device returned is in the room
fills : (g : Over) (c : goal.After-copy_from_slice g) → c.copy_from_slice.new.self ≡ c.submit.new.into.items
fills g c = c.copy_from_slice.ensures.after ∙ c.deref.ensures.value

-- and the device did the command
done : (g : Over) (c : goal.After-copy_from_slice g) →
    Effect (before g c).geometry (before g c).zones (Ok c.args.command.now) c.args.bytes.now Success
    c.in-Ok-decode.completion.result c.submit.new.into.items (after g c).zones
done g c =
    let id : id_of c.encode-entry.result < 2 ^ 16 = omega (arith, c.encode-entry.ensures.id) in
    rw c.encode-entry.ensures.again at
    (told-effect (before g c) (after g c) _ _ _ _ _ c.vouch.ensures id c.in-Ok-decode.ensures.encoded c.in-Success.is
    c.in-Ok.ensures.gives.1)

pub returns-clause-answers : goal.returns-clause-answers
returns-clause-answers g c =
    let d = (goal.at.returns-clause-answers g c).After-copy_from_slice in
    let sent = rw (← c.self.view_is) at c.requires.sent in
    rw (← c.self.view_is)
    (success-answers (before g d) (after g d) _ _ _ _ _ _ _ c.submit.ensures.was_lawful sent
    (omega (arith, ap length (fills g d))) (fills g d) (done g d))

pub returns-clause-recalls : goal.returns-clause-recalls
returns-clause-recalls g c =
    let d = (goal.at.returns-clause-recalls g c).After-copy_from_slice in
    let sent = rw (← c.self.view_is) at c.requires.sent in
    rw (← c.self.view_is)
    (success-recalls (before g d) (after g d) _ _ _ _ _ _ _ c.submit.ensures.was_lawful sent
    (omega (arith, ap length (fills g d))) (fills g d) (done g d))

pub returns-then-stopped-clause-answers : goal.returns-then-stopped-clause-answers
returns-then-stopped-clause-answers g c = silent-answers _ _ _ _ _ _ _ _ (omega arith) (inl (IsClosing-refl _))

pub returns-in_default-status-clause-answers : goal.returns-in_default-status-clause-answers
returns-in_default-status-clause-answers g c =
    let done = c.in-Ok.ensures.gives.1 in
    rw (← c.self.view_is)
    (silent-answers _ _ _ _ _ _ _ _ (omega arith) (inr (inl (record { status = done.status; value = done.value; returned = done.performs.held; effect = rw c.encode-entry.ensures.again at done.performs.effect }))))

pub returns-then-stopped-clause-recalls : goal.returns-then-stopped-clause-recalls
returns-then-stopped-clause-recalls g c = silent-recalls _ _ _ _ _ _ (omega arith)

pub returns-in_default-clause-recalls : goal.returns-in_default-clause-recalls
returns-in_default-clause-recalls g c = silent-recalls _ _ _ _ _ _ (omega arith)

pub returns-in_default-status-clause-recalls : goal.returns-in_default-status-clause-recalls
returns-in_default-status-clause-recalls g c = silent-recalls _ _ _ _ _ _ (omega arith)
