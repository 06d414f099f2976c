use Rattle.std.proofs.Common.{◌≡◌, IsTrue, rules, true}
use Rattle.nbd_jobs.proofs.mounted.mount_flushed.Goals as goal

pub returns-in-Err-flush-clause-err : goal.returns-in-Err-flush-clause-err
returns-in-Err-flush-clause-err g c = λ clean.
    let now : IsTrue c.flush.new.self.drive.clean = rw c.into_device.ensures at clean in
    let asked : c.args.flushes ≡ true = search rules in (
      asked,
      record {
        mounted = c.in-Ok.disk;
        served = c.in-Ok.ensures.disk (c.flush.ensures.alike.shape.trusted now);
        last = c.flush.new.self;
        fails = c.in-Err-flush.ensures.answers now;
        back_is = c.into_device.ensures;
      },
    )
