use Rattle.std.proofs.Common.{◌∙◌, ap, refl, rules, subst}
use Rattle.std.specs.Prelude.{IsTrue, Err}
use Rattle.drive_port.specs.Drive.{DriveState}
use Rattle.drive_port.specs.Stop.{drive_of}
use Rattle.disk_runs.specs.Run.{exchange}
use Rattle.disk_runs.specs.declared.fault.RunFault.TheVariants.{Mount}
use Rattle.job_drives.specs.Stop.{stopping}
use Rattle.disk_jobs.specs.AnyDevice.{RunsAny}
use Rattle.disk_jobs.proofs.AnyLaws.{not-mounted, ran, told-anyway}
use Rattle.disk_jobs.proofs.MountLaws.{mount_told}
use Rattle.disk_jobs.proofs.statistics.run_any_counted.Goals as goal

-- the lines were answered by the disk that was mounted, and then it was told what was counted
pub returns-clause-runs : goal.returns-clause-runs
returns-clause-runs g c =
    let takes = c.args.how.takes in
    let n = c.args.how.blocks in
    let old = c.new.result.inner in
    let middle = g.W.Write.contents c.answer_any_trace-disk.new.writer in
    let bytes = exchange c.args.input.now.left (g.W.Write.contents c.args.output.now) middle in
    let ended = c.answer_any_trace-disk.result.1 in
    let last = c.answer_any_trace-disk.result.0 in
    let done : RunsAny takes n bytes old ended last.drive = ran takes n bytes old c.in-Ok.disk last ended c.in-Ok.ensures.disk c.in-Ok.ensures.shape c.answer_any_trace-disk.ensures.runs c.answer_any_trace-disk.ensures.shape in
    record {
      ran = ended;
      middle = middle;
      runs = record {
        seen = last.drive;
        runs = rw (c.new.ensures, c.stopping-device.ensures) at done;
        geometry = ap (λ (d : DriveState). d.geometry) c.into_inner-2.ensures ∙ ap (λ (d : DriveState). d.geometry) c.into_inner-device-2.ensures ∙ ap (λ (d : DriveState). d.geometry) c.into_device.ensures;
        zones = ap (λ (d : DriveState). d.zones) c.into_inner-2.ensures ∙ ap (λ (d : DriveState). d.zones) c.into_inner-device-2.ensures ∙ ap (λ (d : DriveState). d.zones) c.into_device.ensures;
        durable = ap (λ (d : DriveState). d.durable) c.into_inner-2.ensures ∙ ap (λ (d : DriveState). d.durable) c.into_inner-device-2.ensures ∙ ap (λ (d : DriveState). d.durable) c.into_device.ensures;
        clean = ap (λ (d : DriveState). d.clean) c.into_inner-2.ensures ∙ ap (λ (d : DriveState). d.clean) c.into_inner-device-2.ensures ∙ ap (λ (d : DriveState). d.clean) c.into_device.ensures;
      };
      tells = c.tell_after-told.ensures;
    }

-- the drive was not mounted
pub returns-in-Err-clause-runs : goal.returns-in-Err-clause-runs
returns-in-Err-clause-runs g c =
    let takes = c.args.how.takes in
    let n = c.args.how.blocks in
    let middle = g.W.Write.contents c.args.output.now in
    let bytes = exchange c.args.input.now.left middle middle in
    let none : RunsAny takes n bytes c.new.result.inner (Err (Mount c.in-Err.fault)) c.in-Err.counter.inner =
    not-mounted takes n bytes c.new.result.inner c.in-Err.fault c.in-Err.counter.inner c.in-Err.ensures.err c.in-Err.ensures.back (search rules) in
    record {
      ran = Err (Mount c.in-Err.fault);
      middle = middle;
      runs = record {
        seen = c.in-Err.counter.inner;
        runs = rw (c.new.ensures, c.stopping-device.ensures) at none;
        geometry = ap (λ (d : DriveState). d.geometry) c.into_inner.ensures ∙ ap (λ (d : DriveState). d.geometry) c.into_inner-device.ensures;
        zones = ap (λ (d : DriveState). d.zones) c.into_inner.ensures ∙ ap (λ (d : DriveState). d.zones) c.into_inner-device.ensures;
        durable = ap (λ (d : DriveState). d.durable) c.into_inner.ensures ∙ ap (λ (d : DriveState). d.durable) c.into_inner-device.ensures;
        clean = ap (λ (d : DriveState). d.clean) c.into_inner.ensures ∙ ap (λ (d : DriveState). d.clean) c.into_inner-device.ensures;
      };
      tells = (refl, refl);
    }

-- the disk is told that was mounted
pub returns-clause-mounting : goal.returns-clause-mounting
returns-clause-mounting g c now =
    let stopped = subst (λ (d : DriveState). IsTrue d.clean) c.into_inner-2.ensures now in
    let counted = subst (λ (d : DriveState). IsTrue d.clean) c.into_inner-device-2.ensures stopped in
    let clean = subst (λ (d : DriveState). IsTrue d.clean) c.into_device.ensures counted in
    let mounted = c.in-Ok.ensures.disk (c.answer_any_trace-disk.ensures.shape.trusted clean) in
    mount_told c.args.how.blocks c.args.how.stop (g.D.Device.drive c.args.device) c.in-Ok.disk _ c.done-mounting.result (rw (c.new.ensures, c.stopping-device.ensures) at mounted) c.done-mounting.ensures.disk

pub returns-clause-told : goal.returns-clause-told
returns-clause-told g c =
    let shape = rw (c.new.ensures, c.stopping-device.ensures) at c.in-Ok.ensures.shape in
    told-anyway (g.D.Device.drive c.args.device).geometry c.in-Ok.disk _ c.done-mounting.result shape.geometry c.done-mounting.ensures.disk
