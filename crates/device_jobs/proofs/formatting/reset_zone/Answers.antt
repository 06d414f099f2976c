use Rattle.device_jobs.proofs.FormatLaws.{empties-answered}
use Rattle.device_jobs.proofs.formatting.reset_zone.Goals as goal

pub returns-in-Ok-clause-empties : goal.returns-in-Ok-clause-empties
returns-in-Ok-clause-empties g c = empties-answered (g.D.Device.drive c.args.device.now) (g.D.Device.drive c.reset.new.device) _ c.reset.result c.reset.ensures

pub returns-in-Err-clause-empties : goal.returns-in-Err-clause-empties
returns-in-Err-clause-empties g c = empties-answered (g.D.Device.drive c.args.device.now) (g.D.Device.drive c.reset.new.device) _ c.reset.result c.reset.ensures
