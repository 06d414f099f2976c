use Rattle.std.proofs.Common.{None}
use Rattle.zone_translator.proofs.DiskLaws.{holds-serving, view_of}
use Rattle.zone_translator.proofs.MountLaws.{holds-unmounted, mounted-fits, mounted-serves, remount-refused, remounts}
use Rattle.zone_translator.proofs.disk.AnyDisk.remount.Goals as goal

pub mount_again-requires : goal.mount_again-requires
mount_again-requires g c = c.self.invariant.sane

pub invariant_of-self : goal.invariant_of-self
invariant_of-self g c = record {
  sane = c.mount_again.ensures.sane;
  when = λ clean.
      let old = c.self.inside.mounted in
      let new = c.mount_again.new.disk in
      let kept = c.mount_again.ensures.kept clean in
      let mounts = c.in-Ok.ensures.ok clean in
      rw c.new_cleaner.ensures (holds-serving new None (mounted-fits old.drive new.drive old.tables.given new.tables kept.geometry mounts) (mounted-serves old.drive new.drive old.tables.given new.tables mounts));
}

pub invariant_of-self-in-Err : goal.invariant_of-self-in-Err
invariant_of-self-in-Err g c = record {
  sane = c.mount_again.ensures.sane;
  when = λ clean. holds-unmounted c.self.inside.mounted c.mount_again.new.disk c.self.inside.cleaner c.new_cleaner.result c.self.inside.status c.in-Err.ensures.tables (c.mount_again.ensures.kept clean) (c.self.invariant.when (c.mount_again.ensures.shape.trusted clean));
}

pub returns-in-Ok-clause-remounts : goal.returns-in-Ok-clause-remounts
returns-in-Ok-clause-remounts g c = λ clean.
    rw (← c.self.view_is) (remounts (view_of c.self.inside.mounted c.self.inside.cleaner c.self.inside.status) c.mount_again.new.disk c.new_cleaner.result c.new_cleaner.ensures (c.mount_again.ensures.kept clean) (c.in-Ok.ensures.ok clean))

pub returns-in-Err-clause-remounts : goal.returns-in-Err-clause-remounts
returns-in-Err-clause-remounts g c = λ clean.
    rw (← c.self.view_is)
    (remount-refused (view_of c.self.inside.mounted c.self.inside.cleaner c.self.inside.status) c.mount_again.new.disk c.new_cleaner.result c.in-Err.fault c.new_cleaner.ensures c.in-Err.ensures.tables c.self.invariant.sane.geometry (c.self.invariant.when (c.mount_again.ensures.shape.trusted clean)) (c.mount_again.ensures.kept clean) (c.in-Err.ensures.err clean))

pub returns-in-Ok-clause-shape : goal.returns-in-Ok-clause-shape
returns-in-Ok-clause-shape g c = rw (← c.self.view_is) c.mount_again.ensures.shape

pub returns-in-Err-clause-shape : goal.returns-in-Err-clause-shape
returns-in-Err-clause-shape g c = rw (← c.self.view_is) c.mount_again.ensures.shape
