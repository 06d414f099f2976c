use Rattle.disk_runs.specs.Run.{exchange}
use Rattle.job_drives.specs.Stop.{stopping}
use Rattle.disk_jobs.proofs.AnyLaws.{clean-counted}
use Rattle.disk_jobs.proofs.statistics.run_counted.Goals as goal

pub returns-clause-runs : goal.returns-clause-runs
returns-clause-runs g c =
    clean-counted c.args.how.takes c.args.how.blocks (stopping c.args.how.stop (g.D.Device.drive c.args.device))
    (exchange c.args.input.now.left (g.W.Write.contents c.args.output.now) (g.W.Write.contents c.run_any_counted-device.new.output))
    c.run_any_counted-device.result.2 (g.D.Device.drive c.run_any_counted-device.result.0) c.run_any_counted-device.ensures.runs c.vouch.ensures

pub returns-clause-mounting : goal.returns-clause-mounting
returns-clause-mounting g c = c.run_any_counted-device.ensures.mounting c.vouch.ensures
