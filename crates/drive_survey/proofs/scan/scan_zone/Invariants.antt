use Rattle.std.proofs.Common.{◌-◌, ◌*◌, ◌≤◌, length, IsTrue}
use Rattle.drive_port.specs.Contents.{content_at, contents}
use Rattle.drive_survey.specs.Reported.{KeepsZones}
use Rattle.drive_survey.specs.Scan.{Takes}
use Rattle.drive_survey.proofs.CountLaws.{ReadsSoFar}
use Rattle.drive_survey.proofs.scan.scan_zone.Given as goal

abbrev pub invariant-loop-zone : goal.invariant-loop-zone
invariant-loop-zone g l =
    KeepsZones (g.D.Device.drive l.fn.device) (g.D.Device.drive l.device)
    × (IsTrue (g.D.Device.drive l.device).clean → Takes (g.D.Device.drive l.fn.device).geometry (content_at (contents (g.D.Device.drive l.fn.device).zones) l.zone.number) l.fn.seen.keys l.heads l.seen.keys)
    × (length l.heads.entries ≤ 508 * l.heads.blocks)
    × ReadsSoFar l.zone.reported l.heads (g.D.Device.drive l.fn.device) (g.D.Device.drive l.device)

abbrev pub decreases-loop-zone : goal.decreases-loop-zone
decreases-loop-zone g l = l.zone.reported.blocks - l.heads.blocks
