use Rattle.std.proofs.Common.{rules, ◌≡◌, ◌<◌, ◌^◌, ℕ, true, false, Err, ap, ◌∙◌, refl}
use Rattle.nvme_wire.specs.Completion.{completion_bytes}
use Rattle.nvme_wire.specs.Entry.{decode_of}
use Rattle.drive_port.specs.declared.device.Halt.TheVariants.{Stopped}
use Rattle.drive_port.proofs.CallLaws.{adds-also, adds-nothing}
use Rattle.drive_port.proofs.StopLaws.{stops-already}
use Rattle.zone_drive.specs.Habits.{MemoryDrive}
use Rattle.zone_drive.specs.Held.{HeldDrive}
use Rattle.zone_drive.proofs.SubmitLaws.{completes, halts-noted, noted-hardens, noted-stop}
use Rattle.zone_drive.proofs.zone_drive.ZoneDrive.answer.Goals as goal

pub returns-then-stopped-clause-gives : goal.returns-then-stopped-clause-gives
returns-then-stopped-clause-gives g c =
    let stopped : c.args.self.now.drive.state.stopped ≡ true = search rules in
    adds-nothing _ _ (refl, stops-already c.args.self.now.drive.state (decode_of c.args.entry.now) c.args.bytes.now stopped)

pub returns-in-Err-clause-gives : goal.returns-in-Err-clause-gives
returns-in-Err-clause-gives g c =
    let old = c.args.self.now.drive in
    let middle = c.perform.new.self.drive in
    let new = c.note.new.self.drive.state in
    let command = decode_of c.args.entry.now in
    let going : old.state.stopped ≡ false = search rules in
    let kept = rw c.decode-command.ensures.value at c.in-Err.ensures.kept in
    let stop : c.in-Err.halt ≡ Stopped → new ≡ record middle.state { stopped = true } = λ stopped. ap (λ (d : HeldDrive _). d.drive.state) (c.note.ensures.stopped stopped) in
    let halts = halts-noted old.state new command c.args.bytes.now c.in-Err.halt going
    (λ failed. ap (λ (d : HeldDrive _). d.drive.state) (c.note.ensures.failed failed) ∙ ap (λ (d : MemoryDrive). record d.state { unfailing = false }) (c.in-Err.ensures.failed (ap Err failed)))
    (λ memory. ap (λ (d : HeldDrive _). d.drive.state) (c.note.ensures.memory memory ∙ c.in-Err.ensures.memory (ap Err memory)))
    (λ stopped. noted-stop old middle new command kept (stop stopped))
    (λ stopped. noted-hardens old middle new command kept (stop stopped)) in
    rw (c.in-Err.ensures.returned, c.note.ensures.same) (adds-nothing _ _ (refl, halts))

pub returns-clause-gives : goal.returns-clause-gives
returns-clause-gives g c =
    let adds = rw c.decode-command.ensures.value at c.in-Ok.ensures.ok in
    let counts = rw c.decode-command.ensures.value at (ap (λ (d : HeldDrive _). d.drive) c.count.ensures.counted) in
    let fits : c.in-Ok.reply.value < 2 ^ 64 = search rules in
    let going : c.args.self.now.drive.state.stopped ≡ false = search rules in
    let encoded = c.encode.ensures ∙ ap (λ (n : ℕ). completion_bytes (record { result = c.in-Ok.reply.value; id = n; status = c.in-Ok.reply.status })) c.entry_id.ensures in
    adds-also _ _ _ _ (λ returned gives. (going, completes c.args.self.now.drive c.perform.new.self.drive c.settle.new.self.drive c.count.new.self.drive c.args.entry.now c.args.bytes.now returned c.encode.result c.in-Ok.reply gives c.settle.ensures.settled counts encoded fits)) adds
