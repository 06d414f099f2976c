-- What a disk keeps while it is used.
use Rattle.std.specs.Prelude.{◌≡◌, true, IsTrue}
use Rattle.drive_array.specs.Mountable.{IsMountable}
use Rattle.zone_translator.specs.View.{DiskView, KeepsDisk, given_size}

-- What any calls of a disk but a remount keep: the shape of its drive, and that it has failed. If the drive could be
-- mounted, they keep what each call keeps.
pub record KeepsServed (old new : DiskView) : Type 0 where
  pub geometry : new.drive.geometry ≡ old.drive.geometry
  pub unfailing : IsTrue new.drive.unfailing → IsTrue old.drive.unfailing
  pub mounted : IsMountable old.drive (given_size old) → KeepsDisk old new
