use Rattle.std.proofs.Common.{true}
use Rattle.std.specs.Prelude.{nat_lt}
use Rattle.zone_translator.specs.Flat.{trim}
use Rattle.nbd_session.proofs.FailingLaws.{calls_stay-failing, write_failing}
use Rattle.nbd_session.proofs.failing.FailingStoreStore.trim.Goals as goal

pub returns-clause-trims : goal.returns-clause-trims
returns-clause-trims g c = λ clean.
    rw (← c.fails_at.ensures.same, ← c.self.view_is)
    (write_failing (nat_lt 0 c.self.inside.odds) true (g.S.Store.view c.self.inside.store) (trim (g.S.Store.view c.self.inside.store).disk.drive.geometry.block c.args.first c.args.blocks) c.args.first c.args.blocks c.trim.result (g.S.Store.view c.trim.new.self) (c.trim.ensures.trims clean))

pub returns-clause-stays : goal.returns-clause-stays
returns-clause-stays g c = rw (← c.fails_at.ensures.same, ← c.self.view_is) (calls_stay-failing (nat_lt 0 c.self.inside.odds) (g.S.Store.view c.self.inside.store) (g.S.Store.view c.trim.new.self) c.trim.ensures.stays)
