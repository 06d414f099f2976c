use Rattle.std.proofs.Common.{◌+◌, ◌≤◌, length}
use Rattle.std.specs.Prelude.{IsTrue}
use Rattle.nbd_session.specs.Store.{StaysByCall}
use Rattle.volatile_cache.specs.Cache.{HasOutcomesOf, KeepsBelow}
use Rattle.volatile_cache.specs.Fates.{chance_of, coin_of}
use Rattle.volatile_cache.proofs.FateLaws.{SharesCount, SharesFate}
use Rattle.volatile_cache.proofs.cache.VolatileCache.cut_any.Given as goal

abbrev pub invariant-loop-coins : goal.invariant-loop-coins
invariant-loop-coins g l =
    (IsTrue (g.S.Store.view l.self.store).disk.drive.clean → HasOutcomesOf g.S.Store.view l.initial.self l.self × KeepsBelow (g.S.Store.view l.initial.self.store) (g.S.Store.view l.self.store)
    × SharesFate g.S.Store.view (coin_of l.odds) (chance_of l.seed) l.initial.self l.lost (chance_of l.coins) l.self)
    × (l.lost + length l.self.kept ≤ length l.initial.self.kept)
    × SharesCount (coin_of l.odds) (chance_of l.seed) l.initial.self.kept l.lost (chance_of l.coins) l.self.kept
    × StaysByCall (g.S.Store.view l.initial.self.store) (g.S.Store.view l.self.store)

abbrev pub decreases-loop-coins : goal.decreases-loop-coins
decreases-loop-coins g l = length l.self.kept
