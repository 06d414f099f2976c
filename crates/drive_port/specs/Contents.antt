-- What a drive's zones hold, which a closing does not change.
use Rattle.std.specs.Prelude.{◌≡◌, ℕ, ◌+◌, ◌/◌, ◌%◌, ◌<◌, ◌≤◌, ◌==◌, Bool, true, false, if◌then◌else◌, List, [], ◌++◌, map, length, slice_set, slice_index_or}
use Rattle.std.specs.List.{AllByRecursion}
use Rattle.nvme_wire.specs.declared.zone_state.ZoneState.{ZoneState}
use Rattle.nvme_wire.specs.declared.zone_state.ZoneState.TheVariants as states
use Rattle.zone_states.specs.declared.geometry.Geometry.{Geometry}
use Rattle.zone_states.specs.Zone.{Zone}
use Rattle.drive_port.specs.Drive.{DriveState}
use Rattle.drive_port.specs.Step.{block_in, bytes_from}

-- how far a zone is used: `active` is opened or Closed, `unusable` is Read Only or Offline
pub data Usage : Type 0 where
  empty : Usage
  active : Usage
  full : Usage
  unusable : Usage

abbrev pub usage_of : ZoneState → Usage
usage_of states.Empty = empty
usage_of states.Full = full
usage_of states.ReadOnly = unusable
usage_of states.Offline = unusable
usage_of state = active

-- a zone's content: how far it is used, and its written blocks
pub record Content : Type 0 where
  pub usage : Usage
  pub blocks : List (List ℕ)

abbrev pub content_of : Zone → Content
content_of zone = record { usage = usage_of zone.state; blocks = zone.blocks }

abbrev pub contents : List Zone → List Content
contents zones = map content_of zones

-- the content of no zone
abbrev pub nothing : Content
nothing = record { usage = unusable; blocks = [] }

abbrev pub content_at : List Content → ℕ → Content
content_at contents zone = slice_index_or contents zone nothing

abbrev pub is_writable : Usage → Bool
is_writable empty = true
is_writable active = true
is_writable usage = false

abbrev pub is_usable : Usage → Bool
is_usable unusable = false
is_usable usage = true

abbrev pub is_active_usage : Usage → Bool
is_active_usage active = true
is_active_usage usage = false

abbrev pub is_full : Usage → Bool
is_full full = true
is_full usage = false

-- what a Write or an Append leaves of a zone: it is full where its blocks reach the capacity
abbrev pub filled : ℕ → List (List ℕ) → Content
filled capacity blocks = record { usage = if length blocks == capacity then full else active; blocks = blocks }

-- a zone after a Finish
abbrev pub finished : Content → Content
finished content = record { usage = full; blocks = content.blocks }

-- a zone after a Reset
abbrev pub emptied : Content
emptied = record { usage = empty; blocks = [] }

-- nothing is written, and no zone is opened, Closed, full or unusable
abbrev pub AreEmpty : List Content → Type 0
AreEmpty contents = AllByRecursion (λ content. content ≡ emptied) contents

-- ---- what the commands change

-- a zone that could be written has these blocks after its own, and all others are unchanged
pub record Appends (old new : List Content) (capacity index : ℕ) (blocks : List (List ℕ)) : Type 0 where
  pub in_range : index < length old
  pub writable : is_writable (content_at old index).usage ≡ true
  pub room : length (content_at old index).blocks + length blocks ≤ capacity
  pub zones : new ≡ slice_set old index (filled capacity ((content_at old index).blocks ++ blocks))

-- a zone that was usable is full, with the blocks that it had, and all others are unchanged
pub record Finishes (old new : List Content) (index : ℕ) : Type 0 where
  pub in_range : index < length old
  pub usable : is_usable (content_at old index).usage ≡ true
  pub zones : new ≡ slice_set old index (finished (content_at old index))

-- a zone that was usable is empty, and all others are unchanged
pub record Resets (old new : List Content) (index : ℕ) : Type 0 where
  pub in_range : index < length old
  pub usable : is_usable (content_at old index).usage ≡ true
  pub zones : new ≡ slice_set old index emptied

-- the contents and the geometry are the same
pub record SameContents (old new : DriveState) : Type 0 where
  pub geometry : new.geometry ≡ old.geometry
  pub contents : contents new.zones ≡ contents old.zones

-- one more command was completed, with success, and that many more Appends, none or one
pub record Counts (old new : DriveState) (appends : ℕ) : Type 0 where
  pub completed : new.completed ≡ old.completed + 1
  pub refused : new.refused ≡ old.refused
  pub appended : new.appended ≡ old.appended + appends

-- the same counts
pub record SameCounts (old new : DriveState) : Type 0 where
  pub completed : new.completed ≡ old.completed
  pub refused : new.refused ≡ old.refused
  pub appended : new.appended ≡ old.appended

-- the block at an address
abbrev pub block_at : Geometry → List Content → ℕ → List ℕ
block_at geometry contents address = block_in geometry.block (content_at contents (address / geometry.size)).blocks (address % geometry.size)

-- the bytes of that many blocks from an address on, in one zone
abbrev pub bytes_at : Geometry → List Content → ℕ → ℕ → List ℕ
bytes_at geometry contents address count = bytes_from geometry.block (content_at contents (address / geometry.size)).blocks (address % geometry.size) count
