use Rattle.std.proofs.Common.{drop}
use Rattle.remount.proofs.MoveBuildLaws.{CopyingSome}
use Rattle.remount.proofs.repair.moves.copy_records.Given as goal

abbrev pub invariant-loop-block : goal.invariant-loop-block
invariant-loop-block g l = CopyingSome (g.D.Device.drive l.fn.device) (g.D.Device.drive l.device) l.tables l.zone.number l.zone.reported l.fn.next.batch l.next.batch l.blocks (drop l.block-index l.blocks)
