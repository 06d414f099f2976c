use Rattle.std.proofs.Common.{false}
use Rattle.std.specs.Prelude.{nat_lt}
use Rattle.zone_translator.specs.Flat.{trim}
use Rattle.nbd_session.proofs.FailingLaws.{calls_stay-failing, write_failing}
use Rattle.nbd_session.proofs.failing.FailingStoreStore.write_zeroes.Goals as goal

pub returns-clause-writes : goal.returns-clause-writes
returns-clause-writes g c = λ clean.
    rw (← c.fails_at.ensures.same, ← c.self.view_is)
    (write_failing (nat_lt 0 c.self.inside.odds) false (g.S.Store.view c.self.inside.store) (trim (g.S.Store.view c.self.inside.store).disk.drive.geometry.block c.args.first c.args.blocks) c.args.first c.args.blocks c.write_zeroes.result (g.S.Store.view c.write_zeroes.new.self) (c.write_zeroes.ensures.writes clean))

pub returns-clause-stays : goal.returns-clause-stays
returns-clause-stays g c = rw (← c.fails_at.ensures.same, ← c.self.view_is) (calls_stay-failing (nat_lt 0 c.self.inside.odds) (g.S.Store.view c.self.inside.store) (g.S.Store.view c.write_zeroes.new.self) c.write_zeroes.ensures.stays)
