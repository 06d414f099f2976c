use Rattle.std.proofs.Common.{take}
use Rattle.std.specs.Io.KnownBytes.{Appends}
use Rattle.nbd_session.specs.Groups.{replies_to}
use Rattle.nbd_session.proofs.together.send_replies.Given as goal

abbrev pub invariant-loop-member : goal.invariant-loop-member
invariant-loop-member g l = Appends (g.W.Write.contents l.fn.writer) (g.W.Write.contents l.writer) (replies_to l.done (take l.member-index l.members))
