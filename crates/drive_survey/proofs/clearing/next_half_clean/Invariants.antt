use Rattle.std.proofs.Common.{◌≡◌, IsTrue}
use Rattle.std.specs.BTreeSet.{btree_set_len}
use Rattle.drive_survey.specs.Reported.{KeepsZones}
use Rattle.drive_survey.proofs.CountLaws.{LooksOnce}
use Rattle.drive_survey.proofs.FindLaws.{Sifts}
use Rattle.drive_survey.proofs.clearing.next_half_clean.Given as goal

abbrev pub invariant-loop-zone : goal.invariant-loop-zone
invariant-loop-zone g l =
    KeepsZones (g.D.Device.drive l.fn.device) (g.D.Device.drive l.device) × (l.candidates.records ≡ l.fn.candidates.records) × (l.candidates.sizes ≡ l.fn.candidates.sizes)
    × (IsTrue (g.D.Device.drive l.device).clean → Sifts (g.D.Device.drive l.fn.device) l.survey.given l.survey l.fn.candidates l.candidates)
    × LooksOnce l.survey.scanned.items l.candidates.waiting (g.D.Device.drive l.fn.device) (g.D.Device.drive l.device)

abbrev pub decreases-loop-zone : goal.decreases-loop-zone
decreases-loop-zone g l = btree_set_len l.candidates.waiting
