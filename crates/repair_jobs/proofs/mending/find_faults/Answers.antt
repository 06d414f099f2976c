use Rattle.tail_repair.proofs.CauseLaws.{look-halts}
use Rattle.repair_jobs.proofs.mending.find_faults.Goals as goal

pub returns-in-Err-clause-err : goal.returns-in-Err-clause-err
returns-in-Err-clause-err g c clean = rw c.from.ensures (look-halts (g.D.Device.drive c.check_drive.new.device) c.in-Err.fault (c.in-Err.ensures.err clean))
