use Rattle.std.proofs.Common.{ℕ, Ok, Err, IsTrue, ap, refl, subst, ◌∙◌}
use Rattle.drive_port.specs.Drive.{DriveState}
use Rattle.disk_copies.specs.Copies.{Exports}
use Rattle.disk_copies.specs.DriveCopies.{blocks_asked}
use Rattle.device_jobs.proofs.ExportLaws.{kept-shape}
use Rattle.device_jobs.proofs.copying.export_device.Goals as goal

pub returns-in-Ok-exported-clause-exports : goal.returns-in-Ok-exported-clause-exports
returns-in-Ok-exported-clause-exports g c now =
    let clean = subst (λ (d : DriveState). IsTrue d.clean) c.into_device-device.ensures now in
    let served = c.in-Ok.ensures.disk (c.export_blocks-exported.ensures.alike.shape.trusted clean) in
    record {
      disk = c.in-Ok.disk;
      served = served;
      last = c.export_blocks-exported.new.disk;
      exports = subst (λ (n : ℕ). Exports c.in-Ok.disk c.args.job.now.first n (g.W.Write.contents c.args.writer.now) (g.W.Write.contents c.export_blocks-exported.new.writer) (Ok tt) c.export_blocks-exported.new.disk)
          (c.blocks_asked-blocks.ensures ∙ ap (blocks_asked c.args.job.now.count c.args.job.now.first) c.blocks-2.ensures.size) (c.in-Ok-exported.ensures.exports clean);
      array = c.export_blocks-exported.ensures.array clean;
      keeps = (c.export_blocks-exported.ensures.keeps clean).mounted served.mountable;
      drive = c.into_device-device.ensures;
    }

pub returns-in-Ok-exported-clause-shape : goal.returns-in-Ok-exported-clause-shape
returns-in-Ok-exported-clause-shape g c =
    rw c.into_device-device.ensures (kept-shape (g.D.Device.drive c.args.device) c.in-Ok.disk c.export_blocks-exported.new.disk c.in-Ok.ensures.shape c.export_blocks-exported.ensures.alike)

pub returns-in-Err-exported-clause-exports : goal.returns-in-Err-exported-clause-exports
returns-in-Err-exported-clause-exports g c now =
    let clean = subst (λ (d : DriveState). IsTrue d.clean) c.into_device-device.ensures now in
    let served = c.in-Ok.ensures.disk (c.export_blocks-exported.ensures.alike.shape.trusted clean) in
    record {
      disk = c.in-Ok.disk;
      served = served;
      last = c.export_blocks-exported.new.disk;
      exports = subst (λ (n : ℕ). Exports c.in-Ok.disk c.args.job.now.first n (g.W.Write.contents c.args.writer.now) (g.W.Write.contents c.export_blocks-exported.new.writer) (Err c.in-Err-exported.fault) c.export_blocks-exported.new.disk)
          (c.blocks_asked-blocks.ensures ∙ ap (blocks_asked c.args.job.now.count c.args.job.now.first) c.blocks-2.ensures.size) (c.in-Err-exported.ensures.exports clean);
      array = c.export_blocks-exported.ensures.array clean;
      keeps = (c.export_blocks-exported.ensures.keeps clean).mounted served.mountable;
      drive = c.into_device-device.ensures;
    }

pub returns-in-Err-exported-clause-shape : goal.returns-in-Err-exported-clause-shape
returns-in-Err-exported-clause-shape g c =
    rw c.into_device-device.ensures (kept-shape (g.D.Device.drive c.args.device) c.in-Ok.disk c.export_blocks-exported.new.disk c.in-Ok.ensures.shape c.export_blocks-exported.ensures.alike)

pub returns-in-Err-clause-exports : goal.returns-in-Err-clause-exports
returns-in-Err-clause-exports g c clean = (c.in-Err.ensures.err clean, refl)
