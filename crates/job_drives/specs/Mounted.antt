-- The disk that is mounted on a drive, by the size that its headers say, and why there is none.
use Rattle.std.specs.Prelude.{◌≡◌, ◌⊎◌, ◌↔◌, ℕ, List, [], length, Option, Some, None, IsTrue}
use Rattle.std.specs.List.{AllByRecursion}
use Rattle.zone_states.specs.declared.geometry.Geometry.{Geometry}
use Rattle.batch_log.specs.Log.{Batch}
use Rattle.drive_port.specs.Drive.{DriveState}
use Rattle.drive_array.specs.Mountable.{IsMountable}
use Rattle.drive_array.specs.Reserve.{most_size}
use Rattle.drive_array.specs.Sizes.{greatest}
use Rattle.drive_array.specs.ZoneLogs.{drive_logs, encoded}
use Rattle.drive_survey.specs.Reported.{KeepsZones}
use Rattle.drive_survey.specs.Scan.{IsInterruption}
use Rattle.drive_survey.specs.declared.fault.MountFault.{MountFault}
use Rattle.drive_survey.specs.declared.fault.MountFault.TheVariants as mounts
use Rattle.drive_survey.specs.declared.scan.ScannedZone.{ScannedZone}
use Rattle.remount.specs.Kept.{KeepsMountable}
use Rattle.zone_translator.specs.Answers.{IsMounted}
use Rattle.zone_translator.specs.Mount.{GivesBack}
use Rattle.zone_translator.specs.View.{DiskView, disk_array, disk_size, given_size, size_on}
use Rattle.job_drives.specs.declared.mount_fault.NoDiskFault.{NoDiskFault}
use Rattle.job_drives.specs.declared.mount_fault.NoDiskFault.TheVariants.{Mount, Reserve, NoSize, Unwritten}
use Rattle.job_drives.specs.declared.headers.Said.{Said}

-- the number that a mount is given: if none was asked for, the least
abbrev pub given_of : Option ℕ → ℕ
given_of (Some n) = n
given_of None = 1

-- ---- what the headers say

-- none of the zones whose headers were read has a batch
abbrev pub HaveNoBatch : List ScannedZone → Type 0
HaveNoBatch scanned = AllByRecursion (λ (zone : ScannedZone). length zone.heads.heads ≡ 0) scanned

-- no zone of the drive has a batch
abbrev pub HasNoBatch : DriveState → Type 0
HasNoBatch drive = AllByRecursion (λ (log : List Batch). log ≡ []) (drive_logs drive)

-- no header on the drive says a size
abbrev pub SaysNone : DriveState → Type 0
SaysNone drive = greatest (drive_logs drive) ≡ None

-- what was found in the headers: the size that they say, if one does, whether there is none, and how many blocks the drive has room for
pub record AreSaid (drive : DriveState) (said : Said) : Type 0 where
  pub size : said.size ≡ greatest (drive_logs drive)
  pub unwritten : IsTrue said.is_unwritten ↔ HasNoBatch drive
  pub most : said.most ≡ most_size drive.geometry

-- A drive whose headers say no size is told by whether it has a batch, and with its room.
abbrev pub TellsNoSize : DriveState → NoDiskFault → Type 0
TellsNoSize drive (Unwritten most) = (most ≡ most_size drive.geometry) × SaysNone drive × HasNoBatch drive
TellsNoSize drive (NoSize most) = (most ≡ most_size drive.geometry) × SaysNone drive × (HasNoBatch drive → ⊥)
TellsNoSize drive fault = ⊥

-- ---- the disk

-- A mount as one block found no greater size. The headers say one block, or none says a size.
pub record IsOneBlock (old left : DriveState) : Type 0 where
  pub disk : DiskView
  pub mounted : IsMounted old 1 disk
  pub one : disk_size disk ≡ 1
  pub left_is : left ≡ disk.drive

-- Then the headers are looked at, and if they say one block the drive is mounted a second time. As it is given the number 2 there, its size
-- comes from a header.
pub record IsMountedAgain (old : DriveState) (disk : DiskView) : Type 0 where
  pub left : DriveState
  pub first : IsOneBlock old left
  pub seen : DriveState
  pub looked : KeepsZones left seen
  pub again : IsMounted seen 2 disk

-- The disk that is mounted on a drive: the array that the drive encodes. If no number was asked for, a header on the drive says its size.
pub record IsServed (old : DriveState) (blocks : Option ℕ) (disk : DiskView) : Type 0 where
  pub mounted : IsMounted old (given_of blocks) disk ⊎ ((blocks ≡ None) × IsMountedAgain old disk)
  pub said : blocks ≡ None → size_on disk ≡ Some (disk_size disk)
  pub array : disk_array disk ≡ encoded old (given_of blocks)
  pub mountable : IsMountable disk.drive (given_size disk)

-- ---- why there is none

-- the fault of a mount is told as it is, or with the greatest number of blocks that this geometry has room for
abbrev pub TellsFault : Geometry → MountFault → NoDiskFault → Type 0
TellsFault geometry fault (Mount told) = told ≡ fault
TellsFault geometry fault (Reserve most) = (fault ≡ mounts.Reserve) × (most ≡ most_size geometry)
TellsFault geometry fault told = ⊥

-- No number was asked for, and the headers say no size. They were looked at since the mount as one block found no other size, or met a batch
-- that names a block past the first one. The drive can be mounted as before, with the same array.
pub record SaysNoSize (old : DriveState) (blocks : Option ℕ) (told : NoDiskFault) (back : DriveState) : Type 0 where
  pub none : blocks ≡ None
  pub left : DriveState
  pub mount : IsOneBlock old left ⊎ GivesBack old 1 mounts.BlockOutOfRange left
  pub looked : KeepsZones left back
  pub tells : TellsNoSize back told
  pub kept : KeepsMountable 1 old back

-- A drive that says one block is refused by the second mount. It can be mounted as before or, since a header says its size, with the number 2, and has the same
-- array.
pub record IsRefusedAgain (old : DriveState) (fault : MountFault) (back : DriveState) : Type 0 where
  pub left : DriveState
  pub first : IsOneBlock old left
  pub seen : DriveState
  pub looked : KeepsZones left seen
  pub says : greatest (drive_logs seen) ≡ Some 1
  pub refused : GivesBack seen 2 fault back
  pub kept : KeepsMountable 1 old back ⊎ (IsMountable back 2 × (encoded back 2 ≡ encoded old 1))

-- why no disk is mounted on a drive, and how the drive is given back
abbrev pub IsNotServed : DriveState → Option ℕ → NoDiskFault → DriveState → Type 0
IsNotServed old blocks (Mount fault) back = GivesBack old (given_of blocks) fault back ⊎ ((blocks ≡ None) × IsRefusedAgain old fault back)
IsNotServed old blocks (Reserve most) back = (most ≡ most_size old.geometry) × GivesBack old (given_of blocks) mounts.Reserve back
IsNotServed old blocks (Unwritten most) back = SaysNoSize old blocks (Unwritten most) back
IsNotServed old blocks (NoSize most) back = SaysNoSize old blocks (NoSize most) back

-- the number of blocks that is told is the one for which this geometry has room
abbrev pub TellsRoom : Geometry → NoDiskFault → Type 0
TellsRoom geometry (Mount fault) = Unit {0}
TellsRoom geometry (Reserve most) = most ≡ most_size geometry
TellsRoom geometry (Unwritten most) = most ≡ most_size geometry
TellsRoom geometry (NoSize most) = most ≡ most_size geometry

-- ---- on the way

-- after a look a drive whose headers say a size is mounted with the number 2
pub record IsFoundAgain (left : DriveState) (disk : DiskView) : Type 0 where
  pub seen : DriveState
  pub looked : KeepsZones left seen
  pub size : ℕ
  pub says : greatest (drive_logs seen) ≡ Some size
  pub again : IsMounted seen 2 disk

-- or that mount is refused
pub record IsLostAgain (left : DriveState) (fault : MountFault) (back : DriveState) : Type 0 where
  pub seen : DriveState
  pub looked : KeepsZones left seen
  pub size : ℕ
  pub says : greatest (drive_logs seen) ≡ Some size
  pub refused : GivesBack seen 2 fault back

-- why a drive of one block is not served: the look or the mount was refused, or the headers say no size
abbrev pub IsNotFound : DriveState → NoDiskFault → DriveState → Type 0
IsNotFound left (Mount fault) back = (KeepsZones left back × IsInterruption back fault) ⊎ IsLostAgain left fault back
IsNotFound left told back = KeepsZones left back × TellsNoSize back told

-- what is told of a drive in which a batch names a block past the first one: that, or that the headers say no size
abbrev pub TellsOutOfRange : DriveState → NoDiskFault → Type 0
TellsOutOfRange back (Mount fault) = fault ≡ mounts.BlockOutOfRange
TellsOutOfRange back told = TellsNoSize back told
