-- What a loss of power may take, and what not.
use Rattle.std.specs.Prelude.{◌≡◌, ◌⊎◌, ℕ, ◌+◌, ◌/◌, ◌<◌, ◌≤◌, true, List, ◌++◌, [], length, slice_index_or, Contains}
use Rattle.nbd_wire.specs.Transmission.{simple_reply_bytes}
use Rattle.nbd_wire.specs.declared.error_code.ErrorCode.TheVariants.{Success}
use Rattle.nbd_wire.specs.declared.request.Request.{Request}
use Rattle.nbd_session.specs.declared.asked.Asked.{Asked}
use Rattle.nbd_session.specs.declared.asked.Asked.TheVariants.{Read, Write, Trim, WriteZeroes, Flush}
use Rattle.nbd_session.specs.Pending.{AreApart, Pending}
use Rattle.nbd_session.specs.Requests.{DoesAndReplies, data_length, is_forced}
use Rattle.nbd_session.specs.Store.{StoreView, store_array}
use Rattle.volatile_cache.specs.Outcomes.{cached, outcomes}

-- ---- what is settled

-- whatever a loss of power leaves has this block, as the store serves it, and no write of it is pending
pub record IsSettled (place : ℕ) (block : List ℕ) (store : StoreView) : Type 0 where
  pub apart : AreApart place 1 store.pending
  pub serves : slice_index_or (store_array store) place [] ≡ block
  pub left : (left : List (List ℕ)) → Contains store.since left → slice_index_or left place [] ≡ block

-- n blocks from a given one on do not have this one
abbrev pub IsOutside : ℕ → ℕ → ℕ → Type 0
IsOutside first n place = (place < first) ⊎ (first + n ≤ place)

-- A request does not change a block. That many bytes of data came with it, and a block has so many.
abbrev pub LeavesOut : ℕ → ℕ → ℕ → Asked → Type 0
LeavesOut block count place (Write first) = IsOutside first (count / block) place
LeavesOut block count place (Trim first n) = IsOutside first n place
LeavesOut block count place (WriteZeroes first n hole) = IsOutside first n place
LeavesOut block count place (Read first n) = Unit {0}
LeavesOut block count place Flush = Unit {0}

-- A request that does not change a settled block leaves it settled.
abbrev pub RequestKeepsSettled : Type 0
RequestKeepsSettled =
    (old new : StoreView) (request : Request) (wanted : Asked) (bytes reply : List ℕ) (place : ℕ) (block : List ℕ)
    → DoesAndReplies old request wanted bytes reply new → length bytes ≡ data_length request
    → LeavesOut old.disk.drive.geometry.block (data_length request) place wanted → IsSettled place block old → IsSettled place block new

-- what is asked to be durable of a block: of a FLUSH each, of another request those that it names
abbrev pub Names : ℕ → ℕ → ℕ → Asked → Type 0
Names block count place (Write first) = (first ≤ place) × (place < first + count / block)
Names block count place (Trim first n) = (first ≤ place) × (place < first + n)
Names block count place (WriteZeroes first n hole) = (first ≤ place) × (place < first + n)
Names block count place (Read first n) = ⊥
Names block count place Flush = Unit {0}

-- A FLUSH, or a write with FUA, that is answered by success settles what it names.
abbrev pub ForcedIsSettled : Type 0
ForcedIsSettled =
    (old new : StoreView) (request : Request) (wanted : Asked) (bytes reply shown : List ℕ) (place : ℕ)
    → DoesAndReplies old request wanted bytes reply new → is_forced wanted request ≡ true → reply ≡ simple_reply_bytes Success request.cookie ++ shown
    → Names new.disk.drive.geometry.block (data_length request) place wanted → IsSettled place (slice_index_or (store_array new) place []) new

-- ---- what a cut leaves

-- A settled block is in each outcome of a cut.
abbrev pub CutKeepsSettled : Type 0
CutKeepsSettled =
    (below : StoreView) (mine : List Pending) (left : List (List ℕ)) (place : ℕ) (block : List ℕ)
    → IsSettled place block (cached below mine) → Contains (outcomes mine (store_array below)) left → slice_index_or left place [] ≡ block

-- If a loss of power may leave a store as it is, each outcome of a cut is one that a loss of power may leave.
abbrev pub CutIsForeseen : Type 0
CutIsForeseen =
    (below : StoreView) (mine : List Pending) (left : List (List ℕ))
    → Contains below.since (store_array below) → Contains (outcomes mine (store_array below)) left → Contains (cached below mine).since left

-- A kill, after which the store below is as it is, is an outcome.
abbrev pub KillIsOutcome : Type 0
KillIsOutcome = (mine : List Pending) (array : List (List ℕ)) → Contains (outcomes mine array) array

-- a block that was pending at a place
pub record WasPending (mine : List Pending) (place : ℕ) (block : List ℕ) : Type 0 where
  pub w : Pending
  pub is_there : Contains mine w
  pub place_is : w.place ≡ place
  pub block_is : w.block ≡ block

-- Nothing is made up: each block of an outcome is as it was below, or is one that was pending there.
abbrev pub NothingIsMadeUp : Type 0
NothingIsMadeUp =
    (mine : List Pending) (array left : List (List ℕ)) (place : ℕ) → Contains (outcomes mine array) left
    → (slice_index_or left place [] ≡ slice_index_or array place []) ⊎ WasPending mine place (slice_index_or left place [])
