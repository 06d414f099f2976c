use Rattle.std.proofs.Common.{◌≡◌, ◌≤◌, ◌-◌, ◌*◌, length}
use Rattle.std.specs.Prelude.{IsTrue}
use Rattle.nbd_session.specs.Store.{StaysByCall}
use Rattle.volatile_cache.specs.Cache.{view_of}
use Rattle.volatile_cache.proofs.ReadLaws.{ShowsUpTo}
use Rattle.volatile_cache.proofs.cache.VolatileCache.read_pieces.Given as goal

abbrev pub invariant-loop-at : goal.invariant-loop-at
invariant-loop-at g l =
    (l.first ≤ l.at) × (l.at ≤ l.end) × (IsTrue (g.S.Store.view l.self.store).disk.drive.clean → ShowsUpTo (view_of g.S.Store.view l.initial.self) l.first l.at l.into.items (view_of g.S.Store.view l.self))
    × StaysByCall (g.S.Store.view l.initial.self.store) (g.S.Store.view l.self.store)
    × (length l.into.items ≡ (l.at - l.first) * (g.S.Store.view l.initial.self.store).disk.drive.geometry.block)

abbrev pub decreases-loop-at : goal.decreases-loop-at
decreases-loop-at g l = l.end - l.at
