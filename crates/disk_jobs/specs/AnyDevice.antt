-- What a trace does over any device, whose Reads may return other bytes than the drive holds.
use Rattle.std.specs.Prelude.{◌≡◌, ◌⊎◌, ℕ, Result, Err, IsTrue}
use Rattle.std.specs.Io.KnownBytes.{Keeps}
use Rattle.drive_port.specs.Drive.{DriveState}
use Rattle.drive_port.specs.Stop.{Stopping, drive_of}
use Rattle.zone_choice.specs.Sane.{KeepsShape}
use Rattle.zone_translator.specs.Answers.{IsMounted}
use Rattle.zone_translator.specs.View.{DiskView}
use Rattle.disk_runs.specs.AnyDevice.{any_lines}
use Rattle.disk_runs.specs.Run.{Exchange, Known, Runs}
use Rattle.disk_runs.specs.Taken.{disk_lines, flat_lines}
use Rattle.disk_runs.specs.Trace.{RunGives, RunLeaves}
use Rattle.disk_runs.specs.declared.fault.RunFault.{RunFault}
use Rattle.disk_runs.specs.declared.fault.RunFault.TheVariants as runs
use Rattle.disk_runs.specs.declared.taking.Taking.{Taking}
use Rattle.disk_jobs.specs.Saved.{ThenTells}

-- ---- whatever the Reads returned

-- No disk was mounted. The drive has the same shape, and nothing was written.
pub record MountsNoDisk (bytes : Exchange) (old new : DriveState) : Type 0 where
  pub shape : KeepsShape old new
  pub unwritten : Keeps bytes.written bytes.contents

-- A disk was mounted, which is that of the drive as long as the drive is clean. It answered the lines as a disk over any
-- device answers them.
pub record RunsMounted (takes : Taking) (blocks : ℕ) (bytes : Exchange) (old : DriveState) (ended : Result (Unit {0}) RunFault)
    (new : DriveState) : Type 0 where
  pub first : DiskView
  pub mounted : IsTrue first.drive.clean → IsMounted old blocks first
  pub shape : KeepsShape old first.drive
  pub last : DiskView
  pub runs : Runs (any_lines takes) bytes first ended last
  pub drive : new ≡ last.drive

-- the lines were answered so; or a mount was refused at first
abbrev pub RunsAnyway : Taking → ℕ → Exchange → DriveState → Result (Unit {0}) RunFault → DriveState → Type 0
RunsAnyway takes blocks bytes old (Err (runs.Mount fault)) new =
    MountsNoDisk bytes old new ⊎ RunsMounted takes blocks bytes old (Err (runs.Mount fault)) new
RunsAnyway takes blocks bytes old ended new = RunsMounted takes blocks bytes old ended new

-- ---- a trace

-- While the drive is clean, a trace over it gives and leaves what it does over a device that is always clean. In any case
-- the drive keeps its shape, and the lines are answered as over any device.
pub record RunsAny (takes : Taking) (blocks : ℕ) (bytes : Exchange) (old : DriveState) (ended : Result (Unit {0}) RunFault)
    (new : DriveState) : Type 0 where
  pub gives : IsTrue new.clean → RunGives (flat_lines takes) blocks bytes old ended new
  pub leaves : IsTrue new.clean → RunLeaves (disk_lines takes) blocks bytes old ended new
  pub anyway : RunsAnyway takes blocks bytes old ended new
  pub shape : KeepsShape old new

-- The same over a device that stops. It leaves the zones of this drive, which is clean exactly if that device is.
pub record RunsAnyTrace (takes : Taking) (blocks : ℕ) (device : Stopping) (bytes : Exchange) (ended : Result (Unit {0}) RunFault)
    (new : DriveState) : Type 0 where
  pub seen : DriveState
  pub runs : RunsAny takes blocks bytes (drive_of device) ended seen
  pub geometry : new.geometry ≡ seen.geometry
  pub zones : new.zones ≡ seen.zones
  pub durable : new.durable ≡ seen.durable
  pub clean : new.clean ≡ seen.clean

-- the same over a device whose commands are counted, and then it is told what was counted
pub record RunsAnyCounted (takes : Taking) (blocks : ℕ) (device : Stopping) (bytes : Exchange) (ended : Result (Unit {0}) RunFault)
    (new : DriveState) : Type 0 where
  pub ran : Result (Unit {0}) RunFault
  pub middle : Known
  pub runs : RunsAnyTrace takes blocks device (record bytes { contents = middle }) ran new
  pub tells : ThenTells ran middle ended bytes.contents
