use Rattle.zone_states.specs.declared.geometry.Geometry.{Geometry}
use Rattle.std.proofs.Common.{IsTrue, refl, subst}
use Rattle.std.specs.Prelude.{IfOk}
use Rattle.drive_port.specs.Drive.{DriveState}
use Rattle.job_drives.proofs.MountLaws.{shape-join}
use Rattle.disk_copies.specs.Copies.{AllComes}
use Rattle.disk_copies.specs.DriveCopies.{ImportsDisk}
use Rattle.disk_copies.proofs.CopyLaws.{drive-imported, drive_imported-anyway}
use Rattle.disk_copies.proofs.drive_import.import_mounted.Goals as goal

pub returns-clause-imports : goal.returns-clause-imports
returns-clause-imports g c now =
    let old = g.D.Device.drive c.args.device in
    let new = g.D.Device.drive c.into_device.result in
    let input = g.R.Read.remaining c.args.reader.now in
    let rest = g.R.Read.remaining c.import_blocks-taken.new.reader in
    let clean = subst (λ (d : DriveState). IsTrue d.clean) c.into_device.ensures now in
    let served = c.in-Ok.ensures.disk (c.import_blocks-taken.ensures.alike.shape.trusted clean) in
    let imports : ImportsDisk c.args.job.now input rest old c.import_blocks-taken.result c.import_blocks-taken.new.written new = record {
      disk = c.in-Ok.disk;
      served = served;
      last = c.import_blocks-taken.new.disk;
      imports = c.import_blocks-taken.ensures.imports clean;
      keeps = (c.import_blocks-taken.ensures.keeps clean).mounted served.mountable;
      drive = c.into_device.ensures;
    } in
    rw c.import_end.ensures (drive-imported c.args.job.now input rest old c.import_blocks-taken.result c.import_blocks-taken.new.written new imports)

pub returns-clause-shape : goal.returns-clause-shape
returns-clause-shape g c =
    let first = c.in-Ok.ensures.shape in
    let then = c.import_blocks-taken.ensures.alike.shape in
    rw c.into_device.ensures (shape-join (g.D.Device.drive c.args.device) c.in-Ok.disk.drive c.import_blocks-taken.new.disk.drive first then)

pub returns-clause-anyway : goal.returns-clause-anyway
returns-clause-anyway g c =
    let old = (g.D.Device.drive c.args.device).geometry in
    let input = g.R.Read.remaining c.args.reader.now in
    let rest = g.R.Read.remaining c.import_blocks-taken.new.reader in
    let comes = subst (λ (h : Geometry). IfOk c.import_blocks-taken.result (AllComes h.block input rest)) c.in-Ok.ensures.shape.geometry c.import_blocks-taken.ensures.gives in
    rw c.import_end.ensures (drive_imported-anyway old input rest c.import_blocks-taken.result comes)

pub returns-in-Err-clause-imports : goal.returns-in-Err-clause-imports
returns-in-Err-clause-imports g c clean = (c.in-Err.ensures.err clean, refl, refl)
