use Rattle.std.proofs.Common.{◌≡◌, ◌+◌, ◌≤◌, length, take, IsTrue}
use Rattle.drive_survey.specs.Reads.{ReadsOfZones, blocks_reported}
use Rattle.drive_survey.specs.Reported.{KeepsZones}
use Rattle.drive_survey.proofs.AllScanLaws.{ScansTo}
use Rattle.drive_survey.proofs.scan.scan_zones.Given as goal

abbrev pub invariant-loop-number : goal.invariant-loop-number
invariant-loop-number g l =
    KeepsZones (g.D.Device.drive l.fn.device) (g.D.Device.drive l.device) × (IsTrue (g.D.Device.drive l.device).clean → ScansTo (g.D.Device.drive l.fn.device) l.scanned.items l.number l.seen.keys)
    × ReadsOfZones (take l.number l.zones) l.scanned.items (g.D.Device.drive l.fn.device) (g.D.Device.drive l.device)
    × ((g.D.Device.drive l.device).completed ≤ (g.D.Device.drive l.fn.device).completed + blocks_reported (take l.number l.zones))
    × (length l.scanned.items ≡ l.number)
