use Rattle.std.proofs.Common.{ap, rules, subst}
use Rattle.std.specs.Prelude.{IsTrue, Err}
use Rattle.drive_port.specs.Drive.{DriveState}
use Rattle.drive_port.specs.Stop.{drive_of}
use Rattle.disk_runs.specs.Run.{exchange}
use Rattle.disk_runs.specs.declared.fault.RunFault.TheVariants.{Mount}
use Rattle.job_drives.specs.Stop.{stopping}
use Rattle.disk_jobs.specs.AnyDevice.{RunsAny}
use Rattle.disk_jobs.proofs.AnyLaws.{not-mounted, ran, told-anyway}
use Rattle.disk_jobs.proofs.MountLaws.{mount_told}
use Rattle.disk_jobs.proofs.lines.run_any_stopping.Goals as goal

-- the lines were answered by the disk that was mounted
pub returns-clause-runs : goal.returns-clause-runs
returns-clause-runs g c =
    let takes = c.args.how.takes in
    let n = c.args.how.blocks in
    let old = drive_of c.stopping.result in
    let bytes = exchange c.args.input.now.left (g.W.Write.contents c.args.output.now) (g.W.Write.contents c.answer_any_trace-disk.new.writer) in
    let ended = c.answer_any_trace-disk.result.1 in
    let last = c.answer_any_trace-disk.result.0 in
    let done : RunsAny takes n bytes old ended last.drive = ran takes n bytes old c.in-Ok.disk last ended c.in-Ok.ensures.disk c.in-Ok.ensures.shape c.answer_any_trace-disk.ensures.runs c.answer_any_trace-disk.ensures.shape in
    let seen : RunsAny takes n bytes old ended (drive_of c.into_device.result) = rw c.into_device.ensures done in
    record {
      seen = drive_of c.into_device.result;
      runs = rw c.stopping.ensures at seen;
      geometry = ap (λ (d : DriveState). d.geometry) c.into_inner-2.ensures;
      zones = ap (λ (d : DriveState). d.zones) c.into_inner-2.ensures;
      durable = ap (λ (d : DriveState). d.durable) c.into_inner-2.ensures;
      clean = ap (λ (d : DriveState). d.clean) c.into_inner-2.ensures;
    }

-- the drive was not mounted
pub returns-in-Err-clause-runs : goal.returns-in-Err-clause-runs
returns-in-Err-clause-runs g c =
    let takes = c.args.how.takes in
    let n = c.args.how.blocks in
    let bytes = exchange c.args.input.now.left (g.W.Write.contents c.args.output.now) (g.W.Write.contents c.args.output.now) in
    let none : RunsAny takes n bytes (drive_of c.stopping.result) (Err (Mount c.in-Err.fault)) (drive_of c.in-Err.device) =
    not-mounted takes n bytes (drive_of c.stopping.result) c.in-Err.fault (drive_of c.in-Err.device) c.in-Err.ensures.err c.in-Err.ensures.back (search rules) in
    record {
      seen = drive_of c.in-Err.device;
      runs = rw c.stopping.ensures at none;
      geometry = ap (λ (d : DriveState). d.geometry) c.into_inner.ensures;
      zones = ap (λ (d : DriveState). d.zones) c.into_inner.ensures;
      durable = ap (λ (d : DriveState). d.durable) c.into_inner.ensures;
      clean = ap (λ (d : DriveState). d.clean) c.into_inner.ensures;
    }

-- the disk is told that was mounted
pub returns-clause-mounting : goal.returns-clause-mounting
returns-clause-mounting g c now =
    let inner = subst (λ (d : DriveState). IsTrue d.clean) c.into_inner-2.ensures now in
    let clean = subst (λ (d : DriveState). IsTrue d.clean) c.into_device.ensures inner in
    let mounted = c.in-Ok.ensures.disk (c.answer_any_trace-disk.ensures.shape.trusted clean) in
    mount_told c.args.how.blocks c.args.how.stop (g.D.Device.drive c.args.device) c.in-Ok.disk _ c.done-mounting.result (rw c.stopping.ensures at mounted) c.done-mounting.ensures.disk

pub returns-clause-told : goal.returns-clause-told
returns-clause-told g c =
    let shape = rw c.stopping.ensures at c.in-Ok.ensures.shape in
    told-anyway (g.D.Device.drive c.args.device).geometry c.in-Ok.disk _ c.done-mounting.result shape.geometry c.done-mounting.ensures.disk
