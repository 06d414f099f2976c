use Rattle.std.proofs.Common.{rules, ◌≡◌, Err}
use Rattle.nvme_wire.specs.Entry.{decode_of}
use Rattle.drive_port.proofs.CallLaws.{adds-nothing}
use Rattle.passthrough.proofs.AskLaws.{faulty-effect}
use Rattle.passthrough.proofs.drive.PassthroughDrive.perform.Goals as goal

pub returns-in-Err-clause-ok : goal.returns-in-Err-clause-ok
returns-in-Err-clause-ok g c =
    let faulty : decode_of c.args.entry.now ≡ Err c.in-Err.fault = search rules in
    rw (faulty, c.fault_status.ensures) (adds-nothing _ _ (faulty-effect _ _ c.in-Err.fault c.args.bytes.now))
