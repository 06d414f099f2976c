use Rattle.std.proofs.Common.{◌∙◌, inl, inr, sym}
use Rattle.job_drives.proofs.MountLaws.{look-halts, look-shape, not-found, shape-join, some-size}
use Rattle.job_drives.proofs.mounted.mount_one_block.Goals as goal

pub returns-in-Err-clause-err : goal.returns-in-Err-clause-err
returns-in-Err-clause-err g c clean =
    inl (c.look.ensures.kept, look-halts (g.D.Device.drive c.args.device) (g.D.Device.drive c.look.new.device) c.in-Err.fault (c.requires (c.look.ensures.kept.trusted clean)) (c.in-Err.ensures.err clean))

pub returns-in-Ok-mount-clause-disk : goal.returns-in-Ok-mount-clause-disk
returns-in-Ok-mount-clause-disk g c clean =
    let some = some-size c.in-Ok.said.size c.is_none.result c.is_none.ensures c.if-is_none.false in
    record {
      seen = g.D.Device.drive c.look.new.device;
      looked = c.look.ensures.kept;
      size = some.0;
      says = sym (c.in-Ok.ensures.ok (c.in-Ok-mount.ensures.shape.trusted clean)).size ∙ some.1;
      again = c.in-Ok-mount.ensures.disk clean;
    }

pub returns-in-Ok-mount-clause-shape : goal.returns-in-Ok-mount-clause-shape
returns-in-Ok-mount-clause-shape g c = shape-join _ _ _ (look-shape _ _ c.look.ensures.kept) c.in-Ok-mount.ensures.shape

pub returns-in-Err-mount-clause-err : goal.returns-in-Err-mount-clause-err
returns-in-Err-mount-clause-err g c clean =
    let some = some-size c.in-Ok.said.size c.is_none.result c.is_none.ensures c.if-is_none.false in
    inr (record {
      seen = g.D.Device.drive c.look.new.device;
      looked = c.look.ensures.kept;
      size = some.0;
      says = sym (c.in-Ok.ensures.ok (c.in-Err-mount.ensures.back.trusted clean)).size ∙ some.1;
      refused = c.in-Err-mount.ensures.err clean;
    })

pub returns-in-Err-mount-clause-back : goal.returns-in-Err-mount-clause-back
returns-in-Err-mount-clause-back g c = shape-join _ _ _ (look-shape _ _ c.look.ensures.kept) c.in-Err-mount.ensures.back
