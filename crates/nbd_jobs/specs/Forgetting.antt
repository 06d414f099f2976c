-- A session over a disk that forgets: a store with a cache above it.
use Rattle.std.specs.Prelude.{◌≡◌, ◌≤◌, ℕ, List, [], length, Contains, Option, Some, None, Result, Ok, Err, IfErr, IfOk, IsSomeAnd, IsTrue}
use Rattle.zone_translator.specs.Keeping.{KeepsServed}
use Rattle.nbd_session.specs.Manners.{Manner, always, while_clean}
use Rattle.nbd_session.specs.Pending.{Pending}
use Rattle.nbd_session.specs.Session.{session}
use Rattle.nbd_session.specs.Store.{Stays, StoreView, Syncs, store_array}
use Rattle.nbd_session.specs.Streams.{Streams}
use Rattle.nbd_session.specs.Turns.{ServesAs, ServesAtMostAs}
use Rattle.nbd_session.specs.declared.ending.SessionEnd.{SessionEnd}
use Rattle.nbd_session.specs.declared.ending.SessionEnd.TheVariants.{Disconnected}
use Rattle.nbd_session.specs.declared.fault.SessionFault.{SessionFault}
use Rattle.nbd_session.specs.declared.fault.StoreFault.{StoreFault}
use Rattle.nbd_session.specs.declared.phase.Phase.TheVariants.{Greeting}
use Rattle.volatile_cache.specs.Cache.{FailsCut}
use Rattle.volatile_cache.specs.Fates.{chance_of, coin_of, left_by, lost_by}
use Rattle.volatile_cache.specs.Outcomes.{IsDurable, cached, deferring, outcomes}
use Rattle.nbd_jobs.specs.declared.forgetting.Forgotten.{Forgotten}
use Rattle.nbd_jobs.specs.declared.job.Forget.{Forget}

-- ---- what is left

-- All that was pending is applied and synced, and none is lost. Or the store below refused that: then what is pending
-- still is lost.
abbrev pub Applies : StoreView → List Pending → Result ℕ StoreFault → StoreView → Type 0
Applies below mine (Ok lost) new = Syncs (cached below mine) (Ok tt) (cached new []) × (lost ≡ 0)
Applies below mine (Err fault) new = (still : List Pending) × Syncs (cached below mine) (Err fault) (cached new still)

-- What a cut leaves: an array on which some of the pending blocks are written, in order: none, any or all of them. Done,
-- that array is durable, and no more blocks are lost than were pending. Seed and odds choose which. Not done, the disk is
-- as the fault says.
pub record IsCut (forget : Forget) (below : StoreView) (mine : List Pending) (lost : Result ℕ StoreFault) (new : StoreView) : Type 0 where
  pub outcome : Contains (outcomes mine (store_array below)) (store_array new)
  pub done : IfOk lost (λ lost. IsDurable new × (lost ≤ length mine))
  pub count : IfOk lost (λ lost. lost ≡ lost_by (coin_of forget.odds) (chance_of forget.seed) mine)
  pub chosen : IfOk lost (λ _. store_array new ≡ left_by (coin_of forget.odds) (chance_of forget.seed) mine (store_array below))
  pub why : IfErr lost (FailsCut new.disk)

-- What is left, by how the session ended. Where the client has said so, all is applied. Else the power is cut: at the
-- end of the input, at the greatest number of requests, and at a fault.
abbrev pub LeavesBy : Forget → Result SessionEnd SessionFault → StoreView → List Pending → Result ℕ StoreFault → StoreView → Type 0
LeavesBy forget (Ok Disconnected) below mine lost new = Applies below mine lost new
LeavesBy forget ended below mine lost new = IsCut forget below mine lost new

-- How many of the pending blocks are lost, whatever the Reads of the drive returned: none where the client has said that its session ends, and else as
-- many as seed and odds choose.
abbrev pub LosesBy : Forget → Result SessionEnd SessionFault → List Pending → ℕ → Type 0
LosesBy forget (Ok Disconnected) mine lost = lost ≡ 0
LosesBy forget ended mine lost = lost ≡ lost_by (coin_of forget.odds) (chance_of forget.seed) mine

-- A store is served with an empty cache above it. When the session had ended, `below` was under the cache and `mine`
-- pending in it. Told are how the session ended, how many blocks were pending, and how many of them are lost. Whether the store is read only, cleans and flushes stays.
pub record ForgetsAs (manner : Manner) (forget : Forget) (bytes : Streams) (old : StoreView) (told : Forgotten) (new : StoreView) : Type 0 where
  pub below : StoreView
  pub mine : List Pending
  pub serves : ServesAtMostAs manner forget.cut_after bytes (session Greeting (cached old [])) told.ended (cached below mine)
  pub count : told.pending ≡ length mine
  pub lost : IfOk told.lost (LosesBy forget told.ended mine)
  pub leaves : manner.Holds new.disk.drive.clean (LeavesBy forget told.ended below mine told.lost new)
  pub kept : manner.Holds new.disk.drive.clean (KeepsServed old.disk new.disk)
  pub stays : Stays (deferring old) (deferring new)
  pub ends : Stays (deferring below) (deferring new)

-- in any case
abbrev pub Forgets : Forget → Streams → StoreView → Forgotten → StoreView → Type 0
Forgets forget bytes old told new = ForgetsAs always forget bytes old told new

-- ---- a session, with such a cache or without

-- whether a session ended well
abbrev pub ends_well : Result SessionEnd SessionFault → Result (Unit {0}) SessionFault
ends_well (Ok done) = Ok tt
ends_well (Err fault) = Err fault

-- A store is served as it is: while its drive is clean, that can be mounted again.
pub record ServesPlain (bytes : Streams) (old : StoreView) (ended : Result (Unit {0}) SessionFault) (new : StoreView) : Type 0 where
  pub serves : ServesAs while_clean bytes (session Greeting old) ended new
  pub kept : IsTrue new.disk.drive.clean → KeepsServed old.disk new.disk
  pub stays : Stays old new

-- So a store over any device is served. Or it is served with a cache above it, if that is asked for, and what was forgotten is told.
abbrev pub ServesStore : Option Forget → Streams → StoreView → Result (Unit {0}) SessionFault → Option Forgotten → StoreView → Type 0
ServesStore None bytes old ended told new = ServesPlain bytes old ended new × (told ≡ None)
ServesStore (Some forget) bytes old ended told new = IsSomeAnd told (λ told. ForgetsAs while_clean forget bytes old told new × (ended ≡ ends_well told.ended))
