use Rattle.disk_files.proofs.OutputLaws.{on_err}
use Rattle.nbd_session.specs.declared.asked.Asked.TheVariants.{Read}
use Rattle.nbd_session.specs.declared.group.Member.{Member}
use Rattle.nbd_session.proofs.GroupLaws.{replies_front, replies_more}
use Rattle.nbd_session.proofs.together.send_replies.Goals as goal

abbrev none : Member
none = record { request = record { flags = 0; code = 0; cookie = 0; offset = 0; length = 0 }; wanted = Read 0 0 }

pub returns-in_err-write_out-clause-err : goal.returns-in_err-write_out-clause-err
returns-in_err-write_out-clause-err g c =
    on_err _ _
    (replies_front _ (g.W.Write.contents c.loop-member.writer) _ c.args.done c.args.members.now c.loop-member.member-index none c.simple_reply.result c.loop-member-test.true (rw (c.code-error.ensures, c.told.ensures) at c.simple_reply.ensures)
    c.loop-member.invariant c.in_err-write_out.ensures.err)

pub loop-member-preserved : goal.loop-member-preserved
loop-member-preserved g c =
    replies_more _ (g.W.Write.contents c.loop-member.writer) _ c.args.done c.args.members.now c.loop-member.member-index none c.simple_reply.result c.loop-member-test.true (rw (c.code-error.ensures, c.told.ensures) at c.simple_reply.ensures)
    c.loop-member.invariant c.in_ok-write_out.ensures.ok
