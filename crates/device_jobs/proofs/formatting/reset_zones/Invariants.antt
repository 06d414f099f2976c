use Rattle.device_jobs.specs.Formats.{OnlyEmpties}
use Rattle.device_jobs.proofs.FormatLaws.{ResetsBelow}
use Rattle.device_jobs.proofs.formatting.reset_zones.Given as goal

abbrev pub invariant-loop-number : goal.invariant-loop-number
invariant-loop-number g l = record {
  below : ResetsBelow (g.D.Device.drive l.fn.device).geometry l.zones l.number (g.D.Device.drive l.device);
  empties : OnlyEmpties (g.D.Device.drive l.fn.device) (g.D.Device.drive l.device);
}
