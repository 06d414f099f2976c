use Rattle.device_jobs.proofs.FormatFaultLaws.{not-looked, of-look}
use Rattle.device_jobs.proofs.formatting.find_holding.Goals as goal

pub returns-in-Ok-clause-ok : goal.returns-in-Ok-clause-ok
returns-in-Ok-clause-ok g c clean = record { info = c.in-Ok.info; holds = c.in-Ok.ensures.ok clean; shows = c.holding_of.ensures }

pub returns-in-Err-clause-err : goal.returns-in-Err-clause-err
returns-in-Err-clause-err g c clean = rw c.unlooked.ensures (not-looked (g.D.Device.drive c.look.new.device) c.in-Err.fault (c.in-Err.ensures.err clean))

pub returns-in-Err-clause-kinds : goal.returns-in-Err-clause-kinds
returns-in-Err-clause-kinds g c = rw c.unlooked.ensures (of-look c.in-Err.fault c.in-Err.ensures.kinds)
