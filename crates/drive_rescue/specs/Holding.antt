-- What a search keeps while it runs.
use Rattle.std.specs.Prelude.{◌≡◌, ◌⊎◌, ℕ, ◌≤◌, ◌^◌, Bool, true, false, length, Option, IfSome}
use Rattle.drive_rescue.specs.declared.search.Search.{Search}
use Rattle.drive_rescue.specs.declared.search.SoughtZone.{SoughtZone}
use Rattle.drive_rescue.specs.Notes.{Notes}
use Rattle.batch_log.specs.Causes.{is_zero}
use Rattle.drive_rescue.specs.Rescue.{SourceView}
use Rattle.drive_rescue.specs.Searching.{Ends, Finding, Place, Reaches, SearchesZone, found_records, found_size}
use Rattle.drive_rescue.specs.Zones.{Damage, ReadZone, block_with, cut, read_zones, zone_with}

-- A zone as it is sought.
pub record IsSought (sought : SoughtZone) (zone : ReadZone) : Type 0 where
  pub offline : sought.offline ≡ zone.offline
  pub padded : sought.padded ≡ zone.padded
  pub open_ended : sought.open_ended ≡ zone.open_ended
  pub blocks : sought.blocks ≡ length zone.blocks

-- a size that a disk can have, if any
abbrev pub IsSmall : Option ℕ → Type 0
IsSmall size = IfSome size (λ n. n ≤ 2 ^ 31)

-- What was found is kept: the newest records of all blocks, and the greatest size.
pub record HoldsFinding (search : Search) (finding : Finding) : Type 0 where
  pub doubt : search.doubt ≡ finding.doubt
  pub size : search.size ≡ found_size finding.found
  pub small : IsSmall search.size
  pub notes : Notes (found_records finding.found) search.table.items

-- And so is the place in a zone.
pub record Holds (search : Search) (place : Place) : Type 0 where
  pub offset : search.offset ≡ place.offset
  pub trail : search.trail ≡ place.trail
  pub floor : search.floor ≡ place.floor
  pub finding : HoldsFinding search place.finding

-- The search of a zone got to a place, which is kept.
pub record Gets (damaged : Damage) (zone : ReadZone) (number : ℕ) (finding : Finding) (search : Search) : Type 0 where
  pub place : Place
  pub reaches : Reaches damaged zone number finding place
  pub holds : Holds search place

-- A zone as it is sought in a source: up to where it ends.
pub record IsSoughtIn (source : SourceView) (sought : SoughtZone) : Type 0 where
  pub end : ℕ
  pub ends : Ends source.damaged (zone_with (read_zones source.drive) sought.number) sought.number end
  pub is : IsSought sought (cut (zone_with (read_zones source.drive) sought.number) end)

-- The search of a zone, up to a block, got to a place.
abbrev pub GetsIn : SourceView → ℕ → ℕ → Finding → Search → Type 0
GetsIn source number end finding search =
    Gets source.damaged (cut (zone_with (read_zones source.drive) number) end) number finding search

-- A zone was searched, and what was found is kept.
pub record HoldsZone (source : SourceView) (number : ℕ) (before : Finding) (search : Search) : Type 0 where
  pub after : Finding
  pub searches : SearchesZone source.damaged (zone_with (read_zones source.drive) number) number before after
  pub holds : HoldsFinding search after

-- What one Read tells of a block: it is zeros; or not, or it cannot be read.
abbrev pub SaysZero : SourceView → ℕ → ℕ → Bool → Type 0
SaysZero source number offset true = is_zero (block_with (read_zones source.drive) number offset) ≡ true
SaysZero source number offset false =
    (source.damaged number offset ≡ true) ⊎ (is_zero (block_with (read_zones source.drive) number offset) ≡ false)
