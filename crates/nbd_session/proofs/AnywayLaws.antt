-- Whatever the Reads of a drive returned, a store stays what it is, and so it does through a session.
use Rattle.std.proofs.Common.{◌≡◌, ℕ, ◌<◌, List, Option, Ok, Err, refl, ◌∙◌, arith}
use Rattle.std.specs.Prelude.{IsTrue, OnOk, Result}
use Rattle.nbd_wire.specs.declared.error_code.ErrorCode.{ErrorCode}
use Rattle.nbd_wire.specs.declared.request.Request.{Request}
use Rattle.zone_translator.proofs.DiskLaws.{alike-join, alike-same}
use Rattle.nbd_session.specs.declared.asked.Asked.{Asked}
use Rattle.nbd_session.specs.declared.ending.SessionEnd.{SessionEnd}
use Rattle.nbd_session.specs.declared.fault.SessionFault.{SessionFault}
use Rattle.nbd_session.specs.declared.fault.StoreFault.{StoreFault}
use Rattle.nbd_session.specs.Manners.{while_clean}
use Rattle.nbd_session.specs.Requests.{AnswersAnyway, asked_of_store}
use Rattle.nbd_session.specs.Session.{Session}
use Rattle.nbd_session.specs.Store.{Stays, StaysByCall, StaysBySync, StoreView}
use Rattle.nbd_session.specs.Streams.{Streams}
use Rattle.nbd_session.specs.Turns.{ServesAtMostAs}
use Rattle.nbd_session.proofs.KeptLaws.{IsKept, at_most-kept}

pub stays_same : (store : StoreView) → Stays store store
stays_same store = record {
  disk = alike-same store.disk;
  mode = record { read_only = refl; cleans = refl; flushes = refl; defers = refl; fails = refl };
  syncs = omega arith;
  none = λ prompt none. none;
}

pub stays_join : (a b c : StoreView) → Stays a b → Stays b c → Stays a c
stays_join a b c x y = record {
  disk = alike-join a.disk b.disk c.disk x.disk y.disk;
  mode = record {
    read_only = y.mode.read_only ∙ x.mode.read_only;
    cleans = y.mode.cleans ∙ x.mode.cleans;
    flushes = y.mode.flushes ∙ x.mode.flushes;
    defers = y.mode.defers ∙ x.mode.defers;
    fails = y.mode.fails ∙ x.mode.fails;
  };
  syncs = omega (arith, x.syncs, y.syncs);
  none = λ prompt none. y.none (x.mode.defers ∙ prompt) (x.none prompt none);
}

pub stays-same : (old new : StoreView) → new ≡ old → Stays old new
stays-same old new same = rw same (stays_same old)

pub calls_same : (store : StoreView) → StaysByCall store store
calls_same store = record { stays = stays_same store; syncs = refl }

pub calls_join : (a b c : StoreView) → StaysByCall a b → StaysByCall b c → StaysByCall a c
calls_join a b c x y = record { stays = stays_join a b c x.stays y.stays; syncs = y.syncs ∙ x.syncs }

pub more-after : (before old new : ℕ) (result : Result (Unit {0}) StoreFault) → old ≡ before → OnOk result (old < new) → OnOk result (before < new)
more-after before old new (Ok done) same more = omega (arith, same, more)
more-after before old new (Err fault) same more = tt

-- a sync after another call
pub sync_after : (a b c : StoreView) (result : Result (Unit {0}) StoreFault) → StaysByCall a b → StaysBySync b result c → StaysBySync a result c
sync_after a b c result x y = record { stays = stays_join a b c x.stays y.stays; more = more-after a.syncs b.syncs c.syncs result x.syncs y.more }

-- and one that was not begun
pub unsynced : (a b : StoreView) (fault : StoreFault) → StaysByCall a b → StaysBySync a (Err fault) b
unsynced a b fault x = record { stays = x.stays; more = tt }

-- a drive that is clean was clean
pub was_clean : (old new : StoreView) → Stays old new → IsTrue new.disk.drive.clean → IsTrue old.disk.drive.clean
was_clean old new stays clean = stays.disk.shape.trusted clean

-- ---- a session

asked-stays : (old : StoreView) (request : Request) (wanted : Result Asked ErrorCode) (bytes reply : List ℕ) (new : StoreView) → AnswersAnyway old request wanted bytes reply new → Stays old new
asked-stays old request (Err error) bytes reply new a = stays-same old new a.1
asked-stays old request (Ok wanted) bytes reply new a = a.stays

pub stays_kept : IsKept while_clean Stays
stays_kept = record {
  same = stays_same;
  again = stays_join;
  asked = λ old request bytes reply new. asked-stays old request (asked_of_store old request) bytes reply new;
  grouped = λ old askings done new several group w. w.stays.stays;
  rests = λ old new r. r.stays.stays;
}

-- a store that was served stays what it is
pub session-stays : (most : Option ℕ) (bytes : Streams) (old : Session) (result : Result SessionEnd SessionFault) (new : StoreView) → ServesAtMostAs while_clean most bytes old result new → Stays old.store new
session-stays = at_most-kept Stays stays_kept
