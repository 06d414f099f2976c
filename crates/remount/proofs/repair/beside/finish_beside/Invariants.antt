use Rattle.std.proofs.Common.{IsTrue}
use Rattle.remount.specs.Kept.{FitsStill, NotesNoneOpen, Stays}
use Rattle.remount.proofs.CallLaws.{Settles}
use Rattle.remount.proofs.repair.beside.finish_beside.Given as goal

abbrev pub invariant-loop-zone : goal.invariant-loop-zone
invariant-loop-zone g l =
    (IsTrue (g.D.Device.drive l.device).clean → Settles l.fn.survey.given l.fn.torn (g.D.Device.drive l.fn.device) (g.D.Device.drive l.device) l.fn.survey l.survey l.zone)
    × NotesNoneOpen l.fn.survey.zones.items l.survey.zones.items
    × FitsStill (g.D.Device.drive l.device) l.fn.survey l.survey
    × Stays (g.D.Device.drive l.fn.device) (g.D.Device.drive l.device)
