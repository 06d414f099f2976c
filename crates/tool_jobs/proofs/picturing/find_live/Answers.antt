use Rattle.tool_jobs.proofs.PictureLaws.{counted, not-looked}
use Rattle.tool_jobs.proofs.picturing.find_live.Goals as goal

pub returns-in_ok-live_counts-in-Ok-clause-ok : goal.returns-in_ok-live_counts-in-Ok-clause-ok
returns-in_ok-live_counts-in-Ok-clause-ok g c clean = counted (g.D.Device.drive c.args.device.now) (g.D.Device.drive c.inspect_drive.new.device) c.geometry.result c.blocks_taken-given.result c.in-Ok.info.found _ c.geometry.ensures.value c.blocks_taken-given.ensures (c.in-Ok.ensures.ok clean).found c.in_ok-live_counts-in-Ok.ensures

pub returns-in-Err-clause-err : goal.returns-in-Err-clause-err
returns-in-Err-clause-err g c clean = not-looked (g.D.Device.drive c.inspect_drive.new.device) c.in-Err.fault c.interrupted.result c.interrupted.ensures.told (c.in-Err.ensures.err clean)
