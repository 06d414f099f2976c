use Rattle.disk_files.proofs.InputLaws.{if-fault}
use Rattle.nbd_session.proofs.AskedLaws.{asked_in_part, asked_replied}
use Rattle.nbd_session.proofs.requests.answer_asked.Goals as goal

pub returns-in_err-send_both-clause-err : goal.returns-in_err-send_both-clause-err
returns-in_err-send_both-clause-err g c =
    if-fault c.from_residual-in_err-send_both.result _ _ c.from_residual-in_err-send_both.ensures.1
    (asked_in_part (g.R.Read.remaining c.args.reader.now) (g.R.Read.remaining c.obey.new.reader) (g.W.Write.contents c.args.writer.now) (g.W.Write.contents c.send_both.new.writer) (g.S.Store.view c.args.store.now) (g.S.Store.view c.obey.new.store) (g.S.Store.view c.force-done.new.store)
    c.args.request.now c.args.wanted c.is_forced.result c.data_length-count.result c.obey.new.buffers.shown.items c.simple_reply.result c.in_ok-done.done c.force-done.result
    c.in_ok-done.ensures c.is_forced.ensures c.data_length-count.ensures c.force-done.ensures (rw c.code.ensures at c.simple_reply.ensures) (rw c.deref.ensures.value at c.in_err-send_both.ensures.err))

pub returns-clause-ok : goal.returns-clause-ok
returns-clause-ok g c =
    asked_replied (g.R.Read.remaining c.args.reader.now) (g.R.Read.remaining c.obey.new.reader) (g.W.Write.contents c.args.writer.now) (g.W.Write.contents c.send_both.new.writer) (g.S.Store.view c.args.store.now) (g.S.Store.view c.obey.new.store) (g.S.Store.view c.force-done.new.store)
    c.args.request.now c.args.wanted c.is_forced.result c.data_length-count.result c.obey.new.buffers.shown.items c.simple_reply.result c.in_ok-done.done c.force-done.result
    c.in_ok-done.ensures c.is_forced.ensures c.data_length-count.ensures c.force-done.ensures (rw c.code.ensures at c.simple_reply.ensures) (rw c.deref.ensures.value at c.in_ok-send_both.ensures.ok)
