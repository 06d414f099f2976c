use Rattle.std.proofs.Common.{◌≡◌, length, IsTrue}
use Rattle.drive_survey.specs.Reported.{KeepsZones}
use Rattle.drive_inspection.specs.Reads.{AreTelling}
use Rattle.drive_inspection.proofs.CheckLaws.{EachRead}
use Rattle.drive_inspection.proofs.reading.read_zones.Given as goal

abbrev pub invariant-loop-number : goal.invariant-loop-number
invariant-loop-number g l = record {
  kept : KeepsZones (g.D.Device.drive l.fn.device) (g.D.Device.drive l.device);
  count : length l.reads.items ≡ l.number;
  tell : AreTelling l.reads.items;
  each : IsTrue (g.D.Device.drive l.device).clean → EachRead (g.D.Device.drive l.fn.device) (g.D.Device.drive l.device) l.reads.items;
}
