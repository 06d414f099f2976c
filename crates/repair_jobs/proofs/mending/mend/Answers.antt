use Rattle.repair_jobs.proofs.MendLaws.{looks-keep}
use Rattle.repair_jobs.proofs.mending.mend.Goals as goal

pub returns-in-Err-clause-batches : goal.returns-in-Err-clause-batches
returns-in-Err-clause-batches g c clean = c.repair_tails.ensures.kept.batches clean

pub returns-clause-batches : goal.returns-clause-batches
returns-clause-batches g c clean =
    looks-keep (g.D.Device.drive c.args.device.now) (g.D.Device.drive c.repair_tails.new.device) (g.D.Device.drive c.find_faults-found.new.device)
    c.repair_tails.ensures.kept c.find_faults-found.ensures.kept clean
