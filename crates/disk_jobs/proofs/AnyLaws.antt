-- A trace over any device.
use Rattle.std.proofs.Common.{◌≡◌, ℕ, Some, Ok, Err, inl, inr, refl}
use Rattle.std.specs.Prelude.{IsTrue, Result}
use Rattle.std.specs.Io.KnownBytes.{Keeps}
use Rattle.zone_states.specs.declared.geometry.Geometry.{Geometry}
use Rattle.drive_port.specs.Drive.{DriveState}
use Rattle.drive_port.specs.Stop.{Stopping}
use Rattle.drive_survey.specs.declared.fault.MountFault.{MountFault}
use Rattle.zone_choice.specs.Sane.{KeepsShape}
use Rattle.zone_translator.specs.Answers.{IsMounted}
use Rattle.zone_translator.specs.Mount.{GivesBack}
use Rattle.zone_translator.specs.View.{DiskView}
use Rattle.disk_runs.specs.AnyDevice.{any_lines, is_clean, kept_lines}
use Rattle.disk_runs.specs.Run.{Exchange, Runs}
use Rattle.disk_runs.specs.Taken.{disk_lines}
use Rattle.disk_runs.specs.Trace.{IsNotMounted}
use Rattle.disk_runs.specs.declared.fault.RunFault.{RunFault}
use Rattle.disk_runs.specs.declared.fault.RunFault.TheVariants as faults
use Rattle.disk_runs.specs.declared.taking.Taking.{Taking}
use Rattle.disk_runs.proofs.ShapeLaws.{shape_join}
use Rattle.disk_runs.proofs.TraceLaws.{Led, led, led_gives, led_leaves}
use Rattle.disk_runs.proofs.WhileLaws.{runs-while}
use Rattle.job_drives.specs.DiskSize.{size_of}
use Rattle.disk_jobs.specs.AnyDevice.{RunsAny, RunsAnyCounted, RunsAnyTrace, RunsAnyway, RunsMounted}
use Rattle.disk_jobs.specs.Mounted.{TellsMountAnyway}
use Rattle.disk_jobs.specs.Saved.{RunsCounted, RunsTrace}
use Rattle.disk_jobs.specs.declared.mounting.Mounting.{Mounting}

-- a disk was mounted, however its lines ended
mounted-anyway : (takes : Taking) (n : ℕ) (bytes : Exchange) (old : DriveState) (ended : Result (Unit {0}) RunFault) (new : DriveState) → RunsMounted takes n bytes old ended new → RunsAnyway takes n bytes old ended new
mounted-anyway takes n bytes old (Ok done) new ran = ran
mounted-anyway takes n bytes old (Err (faults.Line m)) new ran = ran
mounted-anyway takes n bytes old (Err (faults.Long m)) new ran = ran
mounted-anyway takes n bytes old (Err (faults.Disk fault)) new ran = ran
mounted-anyway takes n bytes old (Err (faults.Mount fault)) new ran = inr ran
mounted-anyway takes n bytes old (Err (faults.Geometry fault)) new ran = ran
mounted-anyway takes n bytes old (Err faults.Input) new ran = ran
mounted-anyway takes n bytes old (Err faults.Output) new ran = ran
mounted-anyway takes n bytes old (Err faults.Memory) new ran = ran

-- the lines were answered by a disk that was mounted
pub ran : (takes : Taking) (n : ℕ) (bytes : Exchange) (old : DriveState) (first last : DiskView) (ended : Result (Unit {0}) RunFault) → (IsTrue first.drive.clean → IsMounted old n first) → KeepsShape old first.drive
    → Runs (any_lines takes) bytes first ended last → KeepsShape first.drive last.drive → RunsAny takes n bytes old ended last.drive
ran takes n bytes old first last ended mounted shape runs kept = record {
  gives = λ clean. led_gives takes n bytes old ended last.drive (is-led clean);
  leaves = λ clean. led_leaves takes n bytes old ended last.drive (is-led clean);
  anyway = mounted-anyway takes n bytes old ended last.drive (record { first = first; mounted = mounted; shape = shape; last = last; runs = runs; drive = refl });
  shape = shape_join old first.drive last.drive shape kept;
}
  where
    is-led : IsTrue last.drive.clean → Led takes n bytes old ended last.drive
    is-led clean =
        let m = mounted (kept.trusted clean) in
        led takes n bytes old first last ended m.mounts m.kept m.mountable (runs-while is_clean (kept_lines takes) (disk_lines takes) bytes first ended last runs clean)

-- no disk was mounted
pub not-mounted : (takes : Taking) (n : ℕ) (bytes : Exchange) (old : DriveState) (fault : MountFault) (new : DriveState) → (IsTrue new.clean → GivesBack old n fault new) → KeepsShape old new
    → Keeps bytes.written bytes.contents → RunsAny takes n bytes old (Err (faults.Mount fault)) new
not-mounted takes n bytes old fault new back shape unwritten = record {
  gives = λ clean. inl (is-none clean);
  leaves = λ clean. inl (is-none clean);
  anyway = inl (record { shape = shape; unwritten = unwritten });
  shape = shape;
}
  where
    is-none : IsTrue new.clean → IsNotMounted n bytes old fault new
    is-none clean = record { back = back clean; unwritten = unwritten }

-- ---- while the drive is clean

pub clean-trace : (takes : Taking) (n : ℕ) (device : Stopping) (bytes : Exchange) (ended : Result (Unit {0}) RunFault) (new : DriveState) → RunsAnyTrace takes n device bytes ended new → IsTrue new.clean
    → RunsTrace takes n device bytes ended new
clean-trace takes n device bytes ended new t clean = record {
  seen = t.seen;
  gives = t.runs.gives (rw t.clean at clean);
  leaves = t.runs.leaves (rw t.clean at clean);
  geometry = t.geometry;
  zones = t.zones;
  durable = t.durable;
}

pub clean-counted : (takes : Taking) (n : ℕ) (device : Stopping) (bytes : Exchange) (ended : Result (Unit {0}) RunFault) (new : DriveState) → RunsAnyCounted takes n device bytes ended new → IsTrue new.clean
    → RunsCounted takes n device bytes ended new
clean-counted takes n device bytes ended new t clean = record { ran = t.ran; middle = t.middle; runs = clean-trace takes n device (record bytes { contents = t.middle }) t.ran new t.runs clean; tells = t.tells }

-- ---- what is told of the mount

-- whatever the Reads returned
pub told-anyway : (geometry : Geometry) (disk : DiskView) (ended : Result (Unit {0}) RunFault) (told : Mounting) → disk.drive.geometry ≡ geometry → told.disk ≡ Some (size_of disk) → TellsMountAnyway geometry ended told
told-anyway geometry disk ended told same is = record { shape = rw is same; none = λ none. let bad = none in absurd (cc is) }
