use Rattle.zonedisk_program.proofs.EndLaws.{told}
use Rattle.zonedisk_program.proofs.devices.refuse_lines.Goals as goal

pub returns-clause-shows : goal.returns-clause-shows
returns-clause-shows g c = told c.write_device_fault.result _ _ _ _ c.write_device_fault.ensures.ok c.write_device_fault.ensures.err c.flush.ensures.bytes
