-- What stays of a cache whatever the Reads of the drive returned.
use Rattle.std.proofs.Common.{List, refl, ap}
use Rattle.std.specs.Prelude.{Result}
use Rattle.nbd_session.specs.Pending.{Pending}
use Rattle.nbd_session.specs.Store.{RestsAnyway, Stays, StaysByCall, StaysBySync, StoreView}
use Rattle.nbd_session.specs.declared.fault.StoreFault.{StoreFault}
use Rattle.volatile_cache.specs.Cache.{AreOf}
use Rattle.volatile_cache.specs.Outcomes.{cached}
use Rattle.volatile_cache.specs.declared.kept.Kept.{Kept}
use Rattle.volatile_cache.proofs.PassLaws.{rests-through}

-- the pending blocks are of the disk still
pub stays_are_of : (below below' : StoreView) (kept : List Kept) → Stays below below' → AreOf below kept → AreOf below' kept
stays_are_of below below' kept s are = rw (s.disk.size, s.disk.shape.geometry) are

stays_cached : (below below' : StoreView) (mine left : List Pending) → Stays below below' → Stays (cached below mine) (cached below' left)
stays_cached below below' mine left s = record {
  disk = s.disk;
  mode = record { read_only = s.mode.read_only; cleans = s.mode.cleans; flushes = s.mode.flushes; defers = refl; fails = s.mode.fails };
  syncs = s.syncs;
  none = λ prompt none. absurd (cc prompt);
}

pub calls_cached : (below below' : StoreView) (mine left : List Pending) → StaysByCall below below' → StaysByCall (cached below mine) (cached below' left)
calls_cached below below' mine left s = record { stays = stays_cached below below' mine left s.stays; syncs = s.syncs }

pub syncs_cached : (below below' : StoreView) (mine left : List Pending) (result : Result (Unit {0}) StoreFault) → StaysBySync below result below' → StaysBySync (cached below mine) result (cached below' left)
syncs_cached below below' mine left result s = record { stays = stays_cached below below' mine left s.stays; more = s.more }

pub rests_cached : (below below' : StoreView) (mine : List Pending) → RestsAnyway below below' → RestsAnyway (cached below mine) (cached below' mine)
rests_cached below below' mine r = record {
  rests = λ clean. rests-through below below' mine (r.rests clean);
  stays = calls_cached below below' mine mine r.stays;
  still = λ off. ap (λ (store : StoreView). cached store mine) (r.still off);
}
