use Rattle.std.proofs.Common.{◌≡◌, Ok, length}
use Rattle.volatile_cache.specs.Cache.{Applies, MakesRoom}
use Rattle.volatile_cache.proofs.cache.VolatileCache.make_room.Given as goal
use Rattle.std.specs.Prelude.{IsTrue}
use Rattle.nbd_session.specs.Store.{StaysByCall}

abbrev pub invariant-loop-self : goal.invariant-loop-self
invariant-loop-self g l =
    (IsTrue (g.S.Store.view l.self.store).disk.drive.clean → Applies g.S.Store.view l.initial.self (Ok tt) l.self) × MakesRoom l.initial.self l.blocks l.self × (l.self.most ≡ l.initial.self.most)
    × StaysByCall (g.S.Store.view l.initial.self.store) (g.S.Store.view l.self.store)

abbrev pub decreases-loop-self : goal.decreases-loop-self
decreases-loop-self g l = length l.self.kept
