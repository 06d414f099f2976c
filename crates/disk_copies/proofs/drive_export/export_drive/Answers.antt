use Rattle.std.proofs.Common.{ℕ, Ok, Err, ap, subst, ◌∙◌}
use Rattle.disk_copies.specs.Copies.{Exports}
use Rattle.disk_copies.specs.DriveCopies.{blocks_asked}
use Rattle.disk_copies.proofs.drive_export.export_drive.Goals as goal

pub returns-in-Ok-exported : goal.returns-in-Ok-exported
returns-in-Ok-exported g c = record {
  begun = c.in-Ok.begun;
  begins = c.in-Ok.ensures.ok;
  disk = c.into_any-disk.result;
  served = rw c.into_any-disk.ensures c.in-Ok-mount_served.ensures.disk;
  last = c.export_blocks-exported.new.disk;
  exports = subst (λ (n : ℕ). Exports c.into_any-disk.result c.args.job.now.first n (g.W.Write.contents c.args.writer.now) (g.W.Write.contents c.export_blocks-exported.new.writer) (Ok tt) c.export_blocks-exported.new.disk)
      (c.blocks_asked-blocks.ensures ∙ ap (blocks_asked c.args.job.now.count c.args.job.now.first) c.blocks-2.ensures.size) (c.in-Ok-exported.ensures.exports (rw c.device.ensures at c.vouch.ensures));
}

pub returns : goal.returns
returns g c = record {
  begun = c.in-Ok.begun;
  begins = c.in-Ok.ensures.ok;
  disk = c.into_any-disk.result;
  served = rw c.into_any-disk.ensures c.in-Ok-mount_served.ensures.disk;
  last = c.export_blocks-exported.new.disk;
  exports = subst (λ (n : ℕ). Exports c.into_any-disk.result c.args.job.now.first n (g.W.Write.contents c.args.writer.now) (g.W.Write.contents c.export_blocks-exported.new.writer) (Err c.in-Err-exported.fault) c.export_blocks-exported.new.disk)
      (c.blocks_asked-blocks.ensures ∙ ap (blocks_asked c.args.job.now.count c.args.job.now.first) c.blocks-2.ensures.size) (c.in-Err-exported.ensures.exports (rw c.device.ensures at c.vouch.ensures));
}
