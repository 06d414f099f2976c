-- Blocks that are pending, oldest first, and the index by which they are found.
use Rattle.std.specs.Prelude.{◌≡◌, ◌==◌, ◌<◌, ◌^◌, ℕ, Bool, true, false, List, [], ◌∷◌, map, replicate, Option, Some, None, IsSome, if◌then◌else◌, ◌≤◌}
use Rattle.std.specs.declared.cmp.Ordering.{Ordering}
use Rattle.std.specs.Ordering.{nat_cmp, ordering_then}
use Rattle.std.specs.BTreeMap as tree
use Rattle.std.specs.BTreeMap.{BTreeMap}
use Rattle.std.specs.BTreeSet as sorted
use Rattle.std.specs.BTreeSet.{BTreeSet}
use Rattle.nbd_session.specs.Pending.{Pending}
use Rattle.volatile_cache.specs.declared.kept.Content.{Content}
use Rattle.volatile_cache.specs.declared.kept.Content.TheVariants.{Bytes, Zeros, Trimmed}
use Rattle.volatile_cache.specs.declared.kept.Kept.{Kept}

-- the bytes of a pending block
abbrev pub bytes_of : Content → List ℕ
bytes_of (Bytes bytes) = bytes.items
bytes_of (Zeros n) = replicate n 0
bytes_of (Trimmed n) = replicate n 0

-- whether a pending block is trimmed: its data take no room
abbrev pub is_trim : Content → Bool
is_trim (Bytes bytes) = false
is_trim (Zeros n) = false
is_trim (Trimmed n) = true

-- a pending block, as a store shows it
abbrev pub pending_of : Kept → Pending
pending_of kept = record { place = kept.place; block = bytes_of kept.content }

abbrev pub all_pending : List Kept → List Pending
all_pending kept = map pending_of kept

-- ---- the blocks of one place

abbrev pub some_kept : Bool → Kept → Option Kept → Option Kept
some_kept true k other = Some k
some_kept false k other = other

-- the oldest of the pending blocks that have a place
abbrev pub oldest_of : ℕ → List Kept → Option Kept
oldest_of place [] = None
oldest_of place (k ∷ ks) = some_kept (k.place == place) k (oldest_of place ks)

-- a newer one goes before an older one
abbrev pub newer_or : Option Kept → Option Kept → Option Kept
newer_or (Some newer) older = Some newer
newer_or None older = older

-- the newest of them
abbrev pub newest_of : ℕ → List Kept → Option Kept
newest_of place [] = None
newest_of place (k ∷ ks) = newer_or (newest_of place ks) (some_kept (k.place == place) k None)

-- all but the oldest of them
abbrev pub without_oldest : ℕ → List Kept → List Kept
without_oldest place [] = []
without_oldest place (k ∷ ks) = if k.place == place then ks else k ∷ without_oldest place ks

-- The first place from a given one on at which a block is pending. If there is none, all are at places before.
abbrev pub IsFirstPlace : ℕ → List Kept → Option ℕ → Type 0
IsFirstPlace from kept None = (place : ℕ) → from ≤ place → oldest_of place kept ≡ None
IsFirstPlace from kept (Some first) = (from ≤ first) × IsSome (oldest_of first kept) × ((place : ℕ) → from ≤ place → place < first → oldest_of place kept ≡ None)

-- ---- the index

-- a place and a number are ordered by the place first
abbrev pub place_cmp : ℕ × ℕ → ℕ × ℕ → Ordering
place_cmp x y = ordering_then (nat_cmp x.0 y.0) (nat_cmp x.1 y.1)

-- whether there is a block, and it has this place
abbrev pub has_place : ℕ → Option Kept → Bool
has_place place None = false
has_place place (Some kept) = kept.place == place

-- The index has a place and a number where the block of this number has this place, and nowhere else.
abbrev pub Indexes : BTreeSet (ℕ × ℕ) → BTreeMap ℕ Kept → Type 0
Indexes places order = (place number : ℕ) → sorted.contains place_cmp places (place, number) ≡ has_place place (tree.get nat_cmp order number)

-- the numbers are below the next one
abbrev pub AreBelow : ℕ → BTreeMap ℕ Kept → Type 0
AreBelow next order = (number : ℕ) → next ≤ number → tree.get nat_cmp order number ≡ None

-- the blocks by their numbers, which ascend, with an index, and the number of the next one, which has 64 bits
pub record AreNumbered (places : BTreeSet (ℕ × ℕ)) (order : BTreeMap ℕ Kept) (next : ℕ) : Type 0 where
  pub index : Indexes places order
  pub below : AreBelow next order
  pub ascend : tree.IsOrdered nat_cmp order
  pub fits : next < 2 ^ 64

-- This is the least number that the index has of a place, or the greatest, or it has none. A number has 64 bits.
abbrev pub IsLeast : BTreeSet (ℕ × ℕ) → ℕ → ℕ → Type 0
IsLeast places place least = (sorted.contains place_cmp places (place, least) ≡ true) × ((number : ℕ) → number < 2 ^ 64 → sorted.contains place_cmp places (place, number) ≡ true → least ≤ number)

abbrev pub IsGreatest : BTreeSet (ℕ × ℕ) → ℕ → ℕ → Type 0
IsGreatest places place greatest = (sorted.contains place_cmp places (place, greatest) ≡ true) × ((number : ℕ) → number < 2 ^ 64 → sorted.contains place_cmp places (place, number) ≡ true → number ≤ greatest)

abbrev pub HasNone : BTreeSet (ℕ × ℕ) → ℕ → Type 0
HasNone places place = (number : ℕ) → number < 2 ^ 64 → sorted.contains place_cmp places (place, number) ≡ false
