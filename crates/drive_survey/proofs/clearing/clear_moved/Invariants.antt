use Rattle.std.proofs.Common.{◌≡◌, ◌<◌, length, IsTrue}
use Rattle.std.specs.List.{AllByRecursion}
use Rattle.drive_survey.specs.Clearing.{AreFew}
use Rattle.drive_survey.specs.Reads.{batches_kept, entries_kept}
use Rattle.drive_survey.specs.Reported.{KeepsZones}
use Rattle.drive_survey.proofs.ClearLaws.{SearchesOn}
use Rattle.drive_survey.proofs.CountLaws.{SearchesSoFar}
use Rattle.drive_survey.proofs.clearing.clear_moved.Given as goal

abbrev pub invariant-loop-candidates : goal.invariant-loop-candidates
invariant-loop-candidates g l = KeepsZones (g.D.Device.drive l.fn.device) (g.D.Device.drive l.device)
    × (IsTrue (g.D.Device.drive l.device).clean → SearchesOn (g.D.Device.drive l.fn.device) (g.D.Device.drive l.device) l.fn.survey.given l.survey l.candidates l.resets.items)
    × (l.survey.zones ≡ l.fn.survey.zones)
    × SearchesSoFar (entries_kept l.fn.survey.scanned.items) (length l.resets.items) l.survey.scanned.items (g.D.Device.drive l.fn.device) (g.D.Device.drive l.device)
    × AreFew l.survey.scanned.items l.candidates.records
    × (length l.survey.scanned.items ≡ length l.fn.survey.scanned.items)
    × AllByRecursion (λ zone. zone < length l.fn.survey.scanned.items) l.resets.items

abbrev pub decreases-loop-candidates : goal.decreases-loop-candidates
decreases-loop-candidates g l = batches_kept l.survey.scanned.items
