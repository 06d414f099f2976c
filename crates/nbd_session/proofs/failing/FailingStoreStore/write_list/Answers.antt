use Rattle.std.specs.Prelude.{nat_lt}
use Rattle.zone_translator.specs.Flat.{with_nothing}
use Rattle.nbd_session.proofs.FailingLaws.{calls_stay-failing, list_failing}
use Rattle.nbd_session.proofs.failing.FailingStoreStore.write_list.Goals as goal

pub returns-clause-writes : goal.returns-clause-writes
returns-clause-writes g c = λ clean.
    rw (← c.self.view_is)
    (list_failing (nat_lt 0 c.self.inside.odds) (g.S.Store.view c.self.inside.store) c.args.entries.now c.args.bytes.now (with_nothing c.write_list.result) (g.S.Store.view c.write_list.new.self) (c.write_list.ensures.writes clean))

pub returns-clause-stays : goal.returns-clause-stays
returns-clause-stays g c = rw (← c.self.view_is) (calls_stay-failing (nat_lt 0 c.self.inside.odds) (g.S.Store.view c.self.inside.store) (g.S.Store.view c.write_list.new.self) c.write_list.ensures.stays)
