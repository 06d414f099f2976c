use Rattle.std.proofs.Common.{◌≡◌, Ok, length}
use Rattle.volatile_cache.specs.Cache.{Applies, LeavesOthers}
use Rattle.volatile_cache.proofs.cache.VolatileCache.apply_within.Given as goal
use Rattle.std.specs.Prelude.{IsTrue}
use Rattle.nbd_session.specs.Store.{StaysByCall}

abbrev pub invariant-loop-place : goal.invariant-loop-place
invariant-loop-place g l =
    (IsTrue (g.S.Store.view l.self.store).disk.drive.clean → Applies g.S.Store.view l.initial.self (Ok tt) l.self) × LeavesOthers l.first l.blocks l.initial.self l.self × (l.self.most ≡ l.initial.self.most)
    × StaysByCall (g.S.Store.view l.initial.self.store) (g.S.Store.view l.self.store)

abbrev pub decreases-loop-place : goal.decreases-loop-place
decreases-loop-place g l = length l.self.kept
