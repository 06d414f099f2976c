-- A volatile write cache above a store: what it is seen as, and what its calls give.
use Rattle.std.specs.Prelude.{◌≡◌, ◌⊎◌, ◌<◌, ◌≤◌, ◌+◌, ◌-◌, ℕ, Bool, true, List, [], ◌∷◌, ◌++◌, length, set, take, drop, Contains, IfOk, Option, Some, None, Result, Ok, Err}
use Rattle.std.specs.List.{AllByRecursion, concat}
use Rattle.zone_translator.specs.Flat.{answer_while, may_refuse, with_nothing, write}
use Rattle.zone_translator.specs.Keeping.{KeepsServed}
use Rattle.zone_translator.specs.View.{DiskCause, DiskView, disk_size}
use Rattle.zone_translator.specs.declared.fault.DiskFault.{DiskFault}
use Rattle.nbd_session.specs.Pending.{AreApart, Pending}
use Rattle.nbd_session.specs.Store.{KeepsMode, OrFails, ReadsBlocks, Spares, Stays, StoreView, Writes, store_array}
use Rattle.nbd_session.specs.declared.fault.StoreFault.{StoreFault}
use Rattle.nbd_session.specs.declared.fault.StoreFault.TheVariants.{Disk, Medium}
use Rattle.volatile_cache.specs.declared.cut.Lost.{Lost}
use Rattle.volatile_cache.specs.declared.kept.Kept.{Kept}
use Rattle.volatile_cache.specs.Outcomes.{IsDurable, Settles, cached, deferring, outcomes}
use Rattle.volatile_cache.specs.Fates.{chance_of, coin_of, left_by, lost_by}
use Rattle.volatile_cache.specs.Queue.{all_pending, bytes_of, is_trim}

-- the store below, the blocks that are pending in the cache, oldest first, and how many may be
pub record Cache (S : Type 0) : Type 0 where
  pub store : S
  pub kept : List Kept
  pub most : ℕ

-- what a cache is seen as
abbrev pub view_of : {S : Type 0} → (S → StoreView) → Cache S → StoreView
view_of view cache = cached (view cache.store) (all_pending cache.kept)

-- each pending block is a whole block of the disk, and not past its end
abbrev pub AreOf : StoreView → List Kept → Type 0
AreOf below kept = AllByRecursion (λ (k : Kept). (k.place < disk_size below.disk) × (length (bytes_of k.content) ≡ below.disk.drive.geometry.block)) kept

-- ---- blocks are applied

-- a pending block is written to the store below
abbrev pub Puts : Bool → StoreView → Pending → Result (Unit {0}) DiskFault → StoreView → Type 0
Puts is_trim below w result below' = Writes is_trim below (write w.place (w.block ∷ [])) w.place 1 (with_nothing result) below'

-- A pending block was refused by the store below, and stays. All older ones are of other places.
pub record Refuses (below : StoreView) (mine : List Pending) (fault : DiskFault) (below' : StoreView) : Type 0 where
  pub older : List Pending
  pub w : Pending
  pub newer : List Pending
  pub mine_are : mine ≡ older ++ w ∷ newer
  pub apart : AreApart w.place 1 older
  pub within : w.place < disk_size below.disk
  pub is_trim : Bool
  pub puts : Puts is_trim below w (Err fault) below'

-- that, or the medium failed, and nothing is done
abbrev pub PutsOrFails : Bool → StoreView → Pending → Result (Unit {0}) StoreFault → StoreView → Type 0
PutsOrFails is_trim below w result below' = OrFails (λ answer. Puts is_trim below w answer below') (Spares below w.place 1 below') result

-- some blocks were applied, and then one was refused
pub record RefusesAfter {S : Type 0} (view : S → StoreView) (old : Cache S) (fault : DiskFault) (new : Cache S) : Type 0 where
  pub middle : S
  pub settles : Settles (view_of view old) (cached (view middle) (all_pending new.kept))
  pub some : old.kept ≡ [] → ⊥
  pub refuses : Refuses (view middle) (all_pending new.kept) fault (view new.store)

-- some blocks were applied, and then the medium failed in one, which stays
pub record FailsAfter {S : Type 0} (view : S → StoreView) (old new : Cache S) : Type 0 where
  pub middle : S
  pub settles : Settles (view_of view old) (cached (view middle) (all_pending new.kept))
  pub some : old.kept ≡ [] → ⊥
  pub stays : 0 < length new.kept
  pub place : ℕ
  pub spares : Spares (view middle) place 1 (view new.store)

-- Some blocks were applied; if none was pending, nothing is done. Or one was refused, or the medium failed in it.
abbrev pub Applies : {S : Type 0} → (S → StoreView) → Cache S → Result (Unit {0}) StoreFault → Cache S → Type 0
Applies view old (Ok done) new = Settles (view_of view old) (view_of view new) × (old.kept ≡ [] → new ≡ old)
Applies view old (Err (Disk fault)) new = RefusesAfter view old fault new
Applies view old (Err Medium) new = FailsAfter view old new

-- the pending block, if there is one, is written on an array
abbrev pub IsPut : Option Kept → List (List ℕ) → List (List ℕ) → Type 0
IsPut None old new = new ≡ old
IsPut (Some k) old new = new ≡ set old k.place (bytes_of k.content)

-- The oldest blocks are pending no more, and only as many as it takes to have room for n blocks more.
pub record MakesRoom {S : Type 0} (old : Cache S) (n : ℕ) (new : Cache S) : Type 0 where
  pub count : ℕ
  pub kept : new.kept ≡ drop count old.kept
  pub needed : (fewer : ℕ) → fewer < count → old.most < length old.kept - fewer + n

-- each block that is pending was so before
abbrev pub HasOnly : {S : Type 0} → Cache S → Cache S → Type 0
HasOnly old new = (k : Kept) → Contains new.kept k → Contains old.kept k

-- each block that is pending was so before, or is trimmed or not, as is said
abbrev pub AddsOnly : {S : Type 0} → Bool → Cache S → Cache S → Type 0
AddsOnly is_trimmed old new = (k : Kept) → Contains new.kept k → Contains old.kept k ⊎ (is_trim k.content ≡ is_trimmed)

-- each block that was pending is so still if it is none of n blocks from a given one on
abbrev pub LeavesOthers : {S : Type 0} → ℕ → ℕ → Cache S → Cache S → Type 0
LeavesOthers first n old new = (k : Kept) → Contains old.kept k → (k.place < first) ⊎ (first + n ≤ k.place) → Contains new.kept k

-- each array that a cut could leave now, it could leave before
abbrev pub HasOutcomesOf : {S : Type 0} → (S → StoreView) → Cache S → Cache S → Type 0
HasOutcomesOf view old new =
    (left : List (List ℕ)) → Contains (outcomes (all_pending new.kept) (store_array (view new.store))) left
    → Contains (outcomes (all_pending old.kept) (store_array (view old.store))) left

-- ---- blocks are kept

-- these blocks are pending after all others, and nothing else changes
pub record Keeps {S : Type 0} (old : Cache S) (blocks : List Pending) (new : Cache S) : Type 0 where
  pub store : new.store ≡ old.store
  pub most : new.most ≡ old.most
  pub kept : all_pending new.kept ≡ all_pending old.kept ++ blocks
  pub front : take (length old.kept) new.kept ≡ old.kept

-- some blocks are pending after all others
abbrev pub KeepsSome : {S : Type 0} → Cache S → Cache S → Type 0
KeepsSome old new = (blocks : List Pending) × Keeps old blocks new

-- so many blocks more may be pending, and they are not past the end
pub record HasRoom {S : Type 0} (view : S → StoreView) (cache : Cache S) (first n : ℕ) : Type 0 where
  pub room : length cache.kept + n ≤ cache.most
  pub within : first + n ≤ disk_size (view cache.store).disk

-- ---- reads

-- n blocks were read, and their bytes appended
pub record ShowsMore (old : StoreView) (first n : ℕ) (into into' : List ℕ) (new : StoreView) : Type 0 where
  pub shown : List (List ℕ)
  pub reads : ReadsBlocks old first n (record { result = Ok tt; shown = shown }) new
  pub bytes_are : into' ≡ into ++ concat shown

-- a read of some of n blocks was refused
pub record FailsWithin (old : StoreView) (first n : ℕ) (fault : DiskFault) (new : StoreView) : Type 0 where
  pub count : ℕ
  pub some : 0 < count
  pub within : count ≤ n
  pub reads : ReadsBlocks old first count (with_nothing (Err fault)) new

-- the medium failed in a read of some of n blocks
pub record SparesWithin (old : StoreView) (first n : ℕ) (new : StoreView) : Type 0 where
  pub count : ℕ
  pub some : 0 < count
  pub within : count ≤ n
  pub spares : Spares old first count new

-- a piece of the blocks up to an end was read, up to the block that is given
abbrev pub ReadsPiece : StoreView → ℕ → ℕ → Result ℕ StoreFault → List ℕ → List ℕ → StoreView → Type 0
ReadsPiece old at end (Ok next) into into' new = (at < next) × (next ≤ end) × ShowsMore old at (next - at) into into' new
ReadsPiece old at end (Err (Disk fault)) into into' new = FailsWithin old at (end - at) fault new
ReadsPiece old at end (Err Medium) into into' new = SparesWithin old at (end - at) new

-- ---- a cut

-- what a cut keeps of the store below: its drive, and whether it is read only, cleans, flushes and fails
abbrev pub KeepsBelow : StoreView → StoreView → Type 0
KeepsBelow below below' = KeepsServed below.disk below'.disk × KeepsMode (deferring below) (deferring below')

-- What a cut leaves, done or not: one of the outcomes, and nothing pending. The drive can be mounted again.
pub record Falls (below : StoreView) (mine : List Pending) (below' : StoreView) (left : List Kept) : Type 0 where
  pub none : left ≡ []
  pub outcome : Contains (outcomes mine (store_array below)) (store_array below')
  pub keeps : KeepsBelow below below'

-- Why a cut fails: a write within the disk or the sync was refused, and the disk is as the fault says; or the medium
-- failed, and the disk serves still.
abbrev pub FailsCut : DiskView → StoreFault → Type 0
FailsCut disk (Disk fault) = (answer_while disk.status ≡ Some (Err fault)) ⊎ ((may_refuse (write 0 []) fault ≡ true) × DiskCause disk fault)
FailsCut disk Medium = answer_while disk.status ≡ None

-- Done, it is durable too, and is what the seed and the odds choose. It is told how many blocks of how many were lost.
-- Not done, it is told why.
abbrev pub TellsCut : ℕ → ℕ → StoreView → List Pending → StoreView → Result Lost StoreFault → Type 0
TellsCut seed odds below mine below' (Ok lost) =
    IsDurable below' × (lost.pending ≡ length mine) × (lost.lost ≤ lost.pending)
    × (lost.lost ≡ lost_by (coin_of odds) (chance_of seed) mine)
    × (store_array below' ≡ left_by (coin_of odds) (chance_of seed) mine (store_array below))
TellsCut seed odds below mine below' (Err fault) = FailsCut below'.disk fault

abbrev pub Cuts : {S : Type 0} → (S → StoreView) → ℕ → ℕ → Cache S → Result Lost StoreFault → Cache S → Type 0
Cuts view seed odds old result new = Falls (view old.store) (all_pending old.kept) (view new.store) new.kept × TellsCut seed odds (view old.store) (all_pending old.kept) (view new.store) result

-- Whatever the Reads of the drive returned: nothing is pending. Done, it is told how many blocks were lost, as the seed and the
-- odds choose.
pub record CutsAnyway {S : Type 0} (view : S → StoreView) (seed odds : ℕ) (old : Cache S) (result : Result Lost StoreFault) (new : Cache S) : Type 0 where
  pub none : new.kept ≡ []
  pub counts : IfOk result (λ lost. (lost.pending ≡ length old.kept) × (lost.lost ≡ lost_by (coin_of odds) (chance_of seed) (all_pending old.kept)))
  pub stays : Stays (view old.store) (view new.store)
