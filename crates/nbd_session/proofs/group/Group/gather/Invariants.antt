use Rattle.std.proofs.Common.{◌≤◌, length, take}
use Rattle.nbd_session.specs.Groups.{IsGathered}
use Rattle.nbd_session.proofs.group.Group.gather.Given as goal

abbrev pub invariant-loop-request : goal.invariant-loop-request
invariant-loop-request g l = (l.at ≤ length l.bytes) × IsGathered (g.S.Store.view l.store) (take l.at l.bytes) l.self
