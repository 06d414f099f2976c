use Rattle.std.proofs.Common.{IsTrue, subst}
use Rattle.drive_port.specs.Drive.{DriveState}
use Rattle.disk_copies.proofs.WrittenLaws.{front-refused, front-whole, front-written}
use Rattle.disk_copies.proofs.disk_writer.DiskWriterWrite.write.Goals as goal

pub put-done-requires-clause-whole : goal.put-done-requires-clause-whole
put-done-requires-clause-whole g c =
    front-whole c.self.inside.disk.drive.geometry c.args.bytes.now c.room-blocks.result c.block_bytes.result c.block_bytes.ensures.size c.block_bytes.ensures.some (rw (← c.self.view_is) at c.room-blocks.ensures.whole)

pub returns-in-Ok-clause-bytes : goal.returns-in-Ok-clause-bytes
returns-in-Ok-clause-bytes g c =
    rw (← c.self.view_is) (front-written c.self.inside.disk c.put-done.new.disk c.self.inside.next c.room-blocks.result c.block_bytes.result c.args.bytes.now c.block_bytes.ensures.size c.block_bytes.ensures.some (rw (← c.self.view_is) at c.room-blocks.ensures.whole) (rw (← c.self.view_is) at c.room-blocks.ensures.array) (c.in-Ok.ensures.flat (subst (λ (d : DriveState). IsTrue d.clean) c.device.ensures c.vouch.ensures)))

pub returns-in-Err-clause-bytes : goal.returns-in-Err-clause-bytes
returns-in-Err-clause-bytes g c =
    rw (← c.self.view_is) (front-refused c.self.inside.disk c.put-done.new.disk c.self.inside.next c.room-blocks.result c.block_bytes.result c.args.bytes.now c.in-Err.fault c.block_bytes.ensures.size c.block_bytes.ensures.some (rw (← c.self.view_is) at c.room-blocks.ensures.whole) (rw (← c.self.view_is) at c.room-blocks.ensures.room) (c.in-Err.ensures.flat (subst (λ (d : DriveState). IsTrue d.clean) c.device.ensures c.vouch.ensures)))
