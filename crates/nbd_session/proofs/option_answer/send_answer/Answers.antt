use Rattle.nbd_session.proofs.option_answer.send_answer.Goals as goal

pub returns-in-Short-clause-err : goal.returns-in-Short-clause-err
returns-in-Short-clause-err g c = rw c.in-Short.is (rw c.short_reply.ensures at c.send.ensures.err)

pub returns-in-Exports-clause-ok : goal.returns-in-Exports-clause-ok
returns-in-Exports-clause-ok g c = rw c.in-Exports.is (rw c.list_reply.ensures at c.send-in-Exports.ensures.ok)

pub returns-in-Exports-clause-err : goal.returns-in-Exports-clause-err
returns-in-Exports-clause-err g c = rw c.in-Exports.is (rw c.list_reply.ensures at c.send-in-Exports.ensures.err)

pub returns-in-ExportInfo-clause-ok : goal.returns-in-ExportInfo-clause-ok
returns-in-ExportInfo-clause-ok g c = rw c.in-ExportInfo.is (rw c.info_replies.ensures at c.send-in-ExportInfo.ensures.ok)

pub returns-in-ExportInfo-clause-err : goal.returns-in-ExportInfo-clause-err
returns-in-ExportInfo-clause-err g c = rw c.in-ExportInfo.is (rw c.info_replies.ensures at c.send-in-ExportInfo.ensures.err)
