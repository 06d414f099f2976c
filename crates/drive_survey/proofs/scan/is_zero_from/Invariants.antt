use Rattle.std.proofs.Common.{◌≡◌, ◌+◌, ◌-◌, ◌≤◌, drop, IsTrue}
use Rattle.std.specs.List.{list_all}
use Rattle.batch_log.specs.Causes.{is_zero}
use Rattle.drive_survey.specs.Reported.{KeepsZones}
use Rattle.drive_survey.specs.Scan.{readable_at}
use Rattle.drive_survey.proofs.scan.is_zero_from.Given as goal

abbrev pub invariant-loop-offset : goal.invariant-loop-offset
invariant-loop-offset g l =
    KeepsZones (g.D.Device.drive l.fn.device) (g.D.Device.drive l.device)
    × (IsTrue (g.D.Device.drive l.device).clean → list_all is_zero (drop l.offset (readable_at (g.D.Device.drive l.fn.device) l.zone.number)) ≡ list_all is_zero (drop l.from (readable_at (g.D.Device.drive l.fn.device) l.zone.number)))
    × ((g.D.Device.drive l.device).completed + (l.zone.reported.blocks - l.offset) ≤ (g.D.Device.drive l.fn.device).completed + (l.zone.reported.blocks - l.from))
