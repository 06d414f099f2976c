use Rattle.std.proofs.Common.{◌<◌, ℕ, IsTrue}
use Rattle.batch_log.specs.Header.{IsNoHeader}
use Rattle.drive_survey.specs.Reported.{KeepsZones}
use Rattle.drive_survey.specs.Scan.{block_of}
use Rattle.tail_repair.proofs.tails.refuse_headers.Given as goal

abbrev pub invariant-loop-offset : goal.invariant-loop-offset
invariant-loop-offset g l =
    KeepsZones (g.D.Device.drive l.fn.device) (g.D.Device.drive l.device)
    × (IsTrue (g.D.Device.drive l.device).clean → (offset : ℕ) → l.blocks < offset → offset < l.offset → IsNoHeader (block_of (g.D.Device.drive l.fn.device) l.zone.number offset))
