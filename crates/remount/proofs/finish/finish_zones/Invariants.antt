use Rattle.std.proofs.Common.{IsTrue}
use Rattle.remount.specs.Kept.{Fits, NotesNoneOpen, SameLengths, Stays}
use Rattle.remount.proofs.FinishLaws.{FinishesSome}
use Rattle.remount.proofs.finish.finish_zones.Given as goal

abbrev pub invariant-loop-zone : goal.invariant-loop-zone
invariant-loop-zone g l =
    (IsTrue (g.D.Device.drive l.device).clean → FinishesSome (g.D.Device.drive l.fn.device) (g.D.Device.drive l.device) l.fn.survey l.survey l.fn.survey.given l.zone)
    × (IsTrue (g.D.Device.drive l.device).clean → NotesNoneOpen l.fn.survey.zones.items l.survey.zones.items)
    × Stays (g.D.Device.drive l.fn.device) (g.D.Device.drive l.device)
    × (IsTrue (g.D.Device.drive l.device).clean → Fits (g.D.Device.drive l.device) l.survey)
    × SameLengths l.fn.survey l.survey
