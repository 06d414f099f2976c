use Rattle.std.proofs.Common.{ap}
use Rattle.drive_port.specs.Drive.{DriveState}
use Rattle.drive_port.specs.Stop.{drive_of}
use Rattle.nbd_jobs.proofs.serving.serve_any_stopping.Goals as goal

pub returns-clause-serves : goal.returns-clause-serves
returns-clause-serves g c = record {
  seen = drive_of c.serve_counted-ended.result.device;
  serves = rw c.stopping.ensures at c.serve_counted-ended.ensures.serves;
  geometry = ap (λ (d : DriveState). d.geometry) c.into_inner.ensures;
  zones = ap (λ (d : DriveState). d.zones) c.into_inner.ensures;
  durable = ap (λ (d : DriveState). d.durable) c.into_inner.ensures;
  clean = ap (λ (d : DriveState). d.clean) c.into_inner.ensures;
}

pub returns-clause-tells : goal.returns-clause-tells
returns-clause-tells g c = λ clean. rw c.stopping.ensures at (c.serve_counted-ended.ensures.tells (rw c.into_inner.ensures at clean))

pub returns-clause-told : goal.returns-clause-told
returns-clause-told g c = rw c.stopping.ensures at c.serve_counted-ended.ensures.told
