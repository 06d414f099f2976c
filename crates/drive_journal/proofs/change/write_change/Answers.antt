use Rattle.drive_journal.proofs.PartLaws.{cut-data, cut-entry, cut-mark, cut-seal, cut-sum, on-err}
use Rattle.drive_journal.proofs.change.write_change.Goals as goal

pub returns-in_err-append-clause-err : goal.returns-in_err-append-clause-err
returns-in_err-append-clause-err g c = on-err c.from_residual.result _ (cut-mark (g.S.ChangeStore.held c.args.store.now) c.args.sum (record { entry = c.args.entry.now; bytes = c.args.written.now }) (g.S.ChangeStore.held c.append.new.self) c.in_err-append.ensures.err)

pub returns-in_err-append-2-clause-err : goal.returns-in_err-append-2-clause-err
returns-in_err-append-2-clause-err g c = on-err c.from_residual-in_err-append-2.result _ (cut-entry (g.S.ChangeStore.held c.args.store.now) c.args.sum (record { entry = c.args.entry.now; bytes = c.args.written.now }) (g.S.ChangeStore.held c.append.new.self) c.in_ok-append.ensures.ok
    (g.S.ChangeStore.held c.append-2.new.self) c.in_err-append-2.ensures.err)

pub returns-in_err-append-3-clause-err : goal.returns-in_err-append-3-clause-err
returns-in_err-append-3-clause-err g c = on-err c.from_residual-in_err-append-3.result _ (cut-sum (g.S.ChangeStore.held c.args.store.now) c.args.sum (record { entry = c.args.entry.now; bytes = c.args.written.now }) (g.S.ChangeStore.held c.append.new.self) c.in_ok-append.ensures.ok
    (g.S.ChangeStore.held c.append-2.new.self) c.in_ok-append-2.ensures.ok (g.S.ChangeStore.held c.append-3.new.self) (rw (c.sum_bytes.ensures, c.sum_over-middle.ensures) at c.in_err-append-3.ensures.err))

pub returns-in_err-append-4-clause-err : goal.returns-in_err-append-4-clause-err
returns-in_err-append-4-clause-err g c = on-err c.from_residual-in_err-append-4.result _ (cut-data (g.S.ChangeStore.held c.args.store.now) c.args.sum (record { entry = c.args.entry.now; bytes = c.args.written.now }) (g.S.ChangeStore.held c.append.new.self) c.in_ok-append.ensures.ok
    (g.S.ChangeStore.held c.append-2.new.self) c.in_ok-append-2.ensures.ok (g.S.ChangeStore.held c.append-3.new.self) (rw (c.sum_bytes.ensures, c.sum_over-middle.ensures) at c.in_ok-append-3.ensures.ok)
    (g.S.ChangeStore.held c.append-4.new.self) c.in_err-append-4.ensures.err)

pub returns-in_err-append-5-clause-err : goal.returns-in_err-append-5-clause-err
returns-in_err-append-5-clause-err g c = on-err c.from_residual-in_err-append-5.result _ (cut-seal (g.S.ChangeStore.held c.args.store.now) c.args.sum (record { entry = c.args.entry.now; bytes = c.args.written.now }) (g.S.ChangeStore.held c.append.new.self) c.in_ok-append.ensures.ok
    (g.S.ChangeStore.held c.append-2.new.self) c.in_ok-append-2.ensures.ok (g.S.ChangeStore.held c.append-3.new.self) (rw (c.sum_bytes.ensures, c.sum_over-middle.ensures) at c.in_ok-append-3.ensures.ok)
    (g.S.ChangeStore.held c.append-4.new.self) (g.S.ChangeStore.held c.append-5.new.self) c.in_ok-append-4.ensures.ok (rw (c.sum_bytes-2.ensures, c.sum_over-last.ensures, c.sum_over-middle.ensures) at c.in_err-append-5.ensures.err))
