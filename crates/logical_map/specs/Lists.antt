-- The blocks that a map notes of each zone.
use Rattle.std.specs.Prelude.{◌≡◌, ℕ, ◌<◌, ◌≤◌, Bool, true, false, List, [], length, slice_index, slice_index_or, Option, Some, None}
use Rattle.std.specs.List.{Contains}
use Rattle.logical_map.specs.declared.place.Place.{Place}
use Rattle.logical_map.specs.Live.{is_zone, lies_in}
use Rattle.logical_map.specs.Pages.{place_in}

-- the blocks that were noted of a zone; and whether each block that is there is among them
pub record ListView : Type 0 where
  pub blocks : List ℕ
  pub whole : Bool

-- a list that says nothing
abbrev pub missing : ListView
missing = record { blocks = []; whole = false }

-- the list of a zone in which no block is
abbrev pub fresh_list : ListView
fresh_list = record { blocks = []; whole = true }

-- the list of a zone; one that is missing says nothing
abbrev pub listed : List ListView → ℕ → ListView
listed lists zone = slice_index_or lists zone missing

-- one block more is noted, or the list is not whole any more
pub record Notes (old : ListView) (block : ℕ) (new : ListView) : Type 0 where
  pub whole : new.whole ≡ true → old.whole ≡ true
  pub here : new.whole ≡ true → Contains new.blocks block
  pub kept : (other : ℕ) → Contains old.blocks other → Contains new.blocks other

-- of ascending blocks, that at this position is the first that is no lower than `from`
pub record IsFirstFrom (blocks : List ℕ) (from position : ℕ) : Type 0 where
  pub within : position ≤ length blocks
  pub below : (k : ℕ) → k < position → slice_index blocks k < from
  pub above : (k : ℕ) → position ≤ k → k < length blocks → from ≤ slice_index blocks k

-- a block that was moved from one zone to another is noted in the other
pub record NotesMove (old : List ListView) (was zone : Option ℕ) (block : ℕ) (new : List ListView) : Type 0 where
  pub whole : (z : ℕ) → (listed new z).whole ≡ true → (listed old z).whole ≡ true
  pub here : (z : ℕ) → is_zone zone z ≡ true → is_zone was z ≡ false → (listed new z).whole ≡ true → Contains (listed new z).blocks block
  pub kept : (z other : ℕ) → Contains (listed old z).blocks other → Contains (listed new z).blocks other

-- each block is kept
abbrev pub KeepsListed : List ℕ → List ℕ → Type 0
KeepsListed old new = (block : ℕ) → Contains old block → Contains new block

-- of blocks that were noted of a zone, each that is there is kept
abbrev pub KeepsThere : (ℕ → Option (List Place)) → ℕ → ℕ → List ℕ → List ℕ → Type 0
KeepsThere page zone_size zone old new = (block : ℕ) → lies_in zone_size zone (place_in page block) ≡ true → Contains old block → Contains new block

-- of the blocks on the list of a zone, at most such are dropped that are elsewhere
pub record Shortens (page : ℕ → Option (List Place)) (zone_size : ℕ) (old new : List ListView) : Type 0 where
  pub whole : (zone : ℕ) → (listed new zone).whole ≡ true → (listed old zone).whole ≡ true
  pub kept : (zone : ℕ) → KeepsThere page zone_size zone (listed old zone).blocks (listed new zone).blocks

-- while the list of a zone is whole, it has each block that is there
abbrev pub AreListed : (ℕ → Option (List Place)) → ℕ → List ListView → Type 0
AreListed page zone_size lists = (zone block : ℕ) → (listed lists zone).whole ≡ true
    → lies_in zone_size zone (place_in page block) ≡ true → Contains (listed lists zone).blocks block

-- of the blocks from one position to before another, none is in a zone
abbrev pub NoneLies : (ℕ → Option (List Place)) → ℕ → ℕ → List ℕ → ℕ → ℕ → Type 0
NoneLies page zone_size zone blocks first end = (k : ℕ) → first ≤ k → k < end → lies_in zone_size zone (place_in page (slice_index blocks k)) ≡ false

-- the block at this position is the first from a position on that is in a zone
pub record IsFirstThere (page : ℕ → Option (List Place)) (zone_size zone : ℕ) (blocks : List ℕ) (first position : ℕ) : Type 0 where
  pub after : first ≤ position
  pub within : position < length blocks
  pub lies : lies_in zone_size zone (place_in page (slice_index blocks position)) ≡ true
  pub none : NoneLies page zone_size zone blocks first position

-- that position, or that none of them is there
abbrev pub FindsThere : (ℕ → Option (List Place)) → ℕ → ℕ → List ℕ → ℕ → Option ℕ → Type 0
FindsThere page zone_size zone blocks first None = NoneLies page zone_size zone blocks first (length blocks)
FindsThere page zone_size zone blocks first (Some position) = IsFirstThere page zone_size zone blocks first position

-- from one block to before another, none is in a zone
abbrev pub NoBlockLies : (ℕ → Option (List Place)) → ℕ → ℕ → ℕ → ℕ → Type 0
NoBlockLies page zone_size zone from end = (k : ℕ) → from ≤ k → k < end → lies_in zone_size zone (place_in page k) ≡ false

-- the block is the first from another on that is in a zone
pub record IsFirstBlock (page : ℕ → Option (List Place)) (zone_size zone from block : ℕ) : Type 0 where
  pub after : from ≤ block
  pub lies : lies_in zone_size zone (place_in page block) ≡ true
  pub none : NoBlockLies page zone_size zone from block

-- that block, or that none before an end is there
abbrev pub FindsBlock : (ℕ → Option (List Place)) → ℕ → ℕ → ℕ → ℕ → Option ℕ → Type 0
FindsBlock page zone_size zone from end None = NoBlockLies page zone_size zone from end
FindsBlock page zone_size zone from end (Some block) = IsFirstBlock page zone_size zone from block
