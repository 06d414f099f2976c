-- What is told of the mount of a job.
use Rattle.std.specs.Prelude.{◌≡◌, ℕ, length, None, Result, Err, IfSome, ⊤}
use Rattle.zone_states.specs.declared.geometry.Geometry.{Geometry}
use Rattle.drive_port.specs.Drive.{DriveState}
use Rattle.drive_array.specs.ZoneLogs.{encoded}
use Rattle.job_drives.specs.declared.disk_size.DiskSize.{DiskSize}
use Rattle.disk_runs.specs.declared.fault.RunFault.{RunFault}
use Rattle.disk_runs.specs.declared.fault.RunFault.TheVariants as runs
use Rattle.disk_jobs.specs.declared.job.Job.{Job}
use Rattle.disk_jobs.specs.declared.job.Job.TheVariants as jobs
use Rattle.disk_jobs.specs.declared.mounting.Mounting.{Mounting}

-- the disk that a drive holds: it has the drive's shape, and that many blocks if no header says how many
abbrev pub disk_on : ℕ → DriveState → DiskSize
disk_on blocks drive = record { geometry = drive.geometry; blocks = length (encoded drive blocks) }

-- a run ended by the refusal of a mount
abbrev pub IsMountFault : Result (Unit {0}) RunFault → Type 0
IsMountFault (Err (runs.Mount fault)) = ⊤
IsMountFault ended = ⊥

-- What is told of the mount of this drive, by how its run ended: the disk that was mounted. There is none only if the mount was refused.
pub record TellsMount (blocks : ℕ) (drive : DriveState) (ended : Result (Unit {0}) RunFault) (told : Mounting) : Type 0 where
  pub disk : IfSome told.disk (λ size. size ≡ disk_on blocks drive)
  pub none : told.disk ≡ None → IsMountFault ended

-- The same whatever the Reads of the drive returned: the disk that is told has the shape of the drive.
pub record TellsMountAnyway (geometry : Geometry) (ended : Result (Unit {0}) RunFault) (told : Mounting) : Type 0 where
  pub shape : IfSome told.disk (λ size. size.geometry ≡ geometry)
  pub none : told.disk ≡ None → IsMountFault ended

-- of a job: only a trace mounts a disk
abbrev pub TellsJob : Job → DriveState → Result (Unit {0}) RunFault → Mounting → Type 0
TellsJob (jobs.Run path blocks zones statistics stop habit sync read_only progress) drive ended told = TellsMount blocks drive ended told
TellsJob (jobs.Fresh geometry blocks shown statistics stop habit) drive ended told = TellsMount blocks drive ended told
TellsJob job drive ended told = told ≡ record { commands = 0; disk = None }
