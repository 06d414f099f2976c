use Rattle.drive_survey.proofs.ReadLaws.{keeps-none}
use Rattle.device_jobs.proofs.ShownLaws.{no-live, no_live-anyway}
use Rattle.device_jobs.proofs.showing.live_for.Goals as goal

pub returns-in_default : goal.returns-in_default
returns-in_default g c = record {
  ok = λ clean. no-live c.args.form (g.D.Device.drive c.args.device.now) (g.D.Device.drive c.args.device.now) c.new.result.items c.in_default.not-Svg c.new.ensures.items;
  err = λ clean. tt;
  none = no_live-anyway c.args.form c.new.result.items c.new.ensures.items;
  kinds = tt;
  drawn = tt;
  kept = keeps-none _ c.geometry-geometry.ensures.lawful;
}
