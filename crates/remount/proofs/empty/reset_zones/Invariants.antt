use Rattle.std.proofs.Common.{drop}
use Rattle.remount.proofs.EmptyLaws.{ResetsSome}
use Rattle.remount.proofs.empty.reset_zones.Given as goal

abbrev pub invariant-loop-zone : goal.invariant-loop-zone
invariant-loop-zone g l = ResetsSome (g.D.Device.drive l.fn.device) (g.D.Device.drive l.device) l.fn.survey l.survey l.fn.survey.given l.zones (drop l.zone-index l.zones)
