-- The disk with which a session begins, and why none does.
use Rattle.std.specs.Prelude.{◌≡◌, ℕ, Bool, true, false, Option, Ok, Err, ⊤}
use Rattle.drive_port.specs.Drive.{DriveState}
use Rattle.job_drives.specs.Mounted.{IsNotServed, IsServed}
use Rattle.zone_translator.specs.Answers.{Answers}
use Rattle.zone_translator.specs.Flat.{flush}
use Rattle.zone_translator.specs.View.{DiskView}
use Rattle.zone_translator.specs.declared.fault.DiskFault.{DiskFault}
use Rattle.nbd_jobs.specs.declared.fault.NbdFault.{NbdFault}
use Rattle.nbd_jobs.specs.declared.fault.NbdFault.TheVariants.{Mount, Unflushed}

-- What a drive is flushed by before a session: it is, if that is what a sync of its medium is.
abbrev pub BeginsBy : Bool → DiskView → DiskView → Type 0
BeginsBy true mounted first = Answers mounted flush (Ok tt) first
BeginsBy false mounted first = first ≡ mounted

-- The disk that is mounted on a drive, flushed if it is to be.
pub record IsBegun (flushes : Bool) (old : DriveState) (blocks : Option ℕ) (first : DiskView) : Type 0 where
  pub mounted : DiskView
  pub served : IsServed old blocks mounted
  pub begins : BeginsBy flushes mounted first

-- A disk was mounted, and its Flush was not done.
pub record IsUnflushed (old : DriveState) (blocks : Option ℕ) (fault : DiskFault) (back : DriveState) : Type 0 where
  pub mounted : DiskView
  pub served : IsServed old blocks mounted
  pub last : DiskView
  pub fails : Answers mounted flush (Err fault) last
  pub back_is : back ≡ last.drive

-- a fault by which no session begins on a drive: of its mount, or of its Flush
abbrev pub IsOfDrive : NbdFault → Type 0
IsOfDrive (Mount fault) = ⊤
IsOfDrive (Unflushed fault) = ⊤
IsOfDrive fault = ⊥

-- why no session begins on a drive, and how it is given back
abbrev pub IsNotBegun : Bool → DriveState → Option ℕ → NbdFault → DriveState → Type 0
IsNotBegun flushes old blocks (Mount fault) back = IsNotServed old blocks fault back
IsNotBegun flushes old blocks (Unflushed fault) back = (flushes ≡ true) × IsUnflushed old blocks fault back
IsNotBegun flushes old blocks fault back = ⊥
