use Rattle.std.proofs.Common.{false}
use Rattle.std.specs.Prelude.{nat_lt}
use Rattle.zone_translator.specs.Answers.{count_of_blocks, write_bytes}
use Rattle.nbd_session.proofs.FailingLaws.{calls_stay-failing, write_failing}
use Rattle.nbd_session.proofs.failing.FailingStoreStore.write.Goals as goal

pub returns-clause-writes : goal.returns-clause-writes
returns-clause-writes g c = λ clean.
    rw (← c.fails_at.ensures.same, ← c.self-2.view_is)
    (write_failing (nat_lt 0 c.self-2.inside.odds) false (g.S.Store.view c.self-2.inside.store) (write_bytes (g.S.Store.view c.self-2.inside.store).disk c.args.first c.args.bytes.now) c.args.first (count_of_blocks (g.S.Store.view c.self-2.inside.store).disk c.args.bytes.now) c.write.result (g.S.Store.view c.write.new.self) (c.write.ensures.writes clean))

pub returns-clause-stays : goal.returns-clause-stays
returns-clause-stays g c = rw (← c.fails_at.ensures.same, ← c.self-2.view_is) (calls_stay-failing (nat_lt 0 c.self-2.inside.odds) (g.S.Store.view c.self-2.inside.store) (g.S.Store.view c.write.new.self) c.write.ensures.stays)
