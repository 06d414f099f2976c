use Rattle.std.proofs.Common.{◌≡◌, List, []}
use Rattle.std.specs.Prelude.{nat_lt}
use Rattle.nbd_session.specs.Pending.{Pending}
use Rattle.nbd_session.proofs.FailingLaws.{syncs_failing, syncs_stay-failing}
use Rattle.nbd_session.proofs.failing.FailingStoreStore.sync.Goals as goal

pub returns-clause-syncs : goal.returns-clause-syncs
returns-clause-syncs g c = λ clean.
    rw (← c.fails_to_sync.ensures.same, ← c.self.view_is)
    (syncs_failing (nat_lt 0 c.self.inside.odds) (λ (pending : List Pending). pending ≡ []) (g.S.Store.view c.self.inside.store) c.sync.result (g.S.Store.view c.sync.new.self) (c.sync.ensures.syncs clean))

pub returns-clause-stays : goal.returns-clause-stays
returns-clause-stays g c = rw (← c.fails_to_sync.ensures.same, ← c.self.view_is) (syncs_stay-failing (nat_lt 0 c.self.inside.odds) (g.S.Store.view c.self.inside.store) c.sync.result (g.S.Store.view c.sync.new.self) c.sync.ensures.stays)
