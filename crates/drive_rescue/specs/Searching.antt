-- Which batches a rescue finds on a drive, of which some blocks cannot be read.
use Rattle.std.specs.Prelude.{◌≡◌, ◌⊎◌, ℕ, suc, ◌+◌, ◌<◌, ◌≤◌, ◌^◌, nat_lt, nat_le, ◌&&◌, ◌||◌, slice_index_or, if◌then◌else◌, max, Bool, true, false, List, [], ◌∷◌, ◌++◌, length, take, drop, Option, Some, None}
use Rattle.std.specs.List.{flat_map}
use Rattle.batch_log.specs.Causes.{header_fault, is_zero}
use Rattle.batch_log.specs.Header.{Heading}
use Rattle.batch_log.specs.Log.{Batch, data_count}
use Rattle.batch_log.specs.Reading.{heading_in}
use Rattle.batch_log.specs.declared.fault.LogFault.{LogFault}
use Rattle.drive_array.specs.Records.{Record, batch_records}
use Rattle.drive_array.specs.Sizes.{larger}
use Rattle.drive_rescue.specs.declared.search.Trail.{Trail}
use Rattle.drive_rescue.specs.declared.search.Trail.TheVariants.{Whole, Zeros, Lost}
use Rattle.drive_rescue.specs.Zones.{Damage, ReadZone, cut, zone_with}

-- A batch that was found: its zone, and the block of it where its header is.
pub record Found : Type 0 where
  pub zone : ℕ
  pub offset : ℕ
  pub batch : Batch

-- What a search gives: the batches that it found, in the order in which it met them; and the sequence from which on no
-- batch can be missing.
pub record Finding : Type 0 where
  pub found : List Found
  pub doubt : ℕ

-- How far a zone is searched: up to a block; what is between the last batch and this block; a sequence that is above
-- those met in the zone; and what was found so far.
pub record Place : Type 0 where
  pub offset : ℕ
  pub trail : Trail
  pub floor : ℕ
  pub finding : Finding

-- ---- one block

abbrev pub is_whole : Trail → Bool
is_whole Whole = true
is_whole trail = false

abbrev pub is_lost : Trail → Bool
is_lost Lost = true
is_lost trail = false

-- After a gap a header counts only if its sequence is above those that were met in its zone.
abbrev pub follows : Place → Heading → Bool
follows place heading = is_whole place.trail || nat_le place.floor heading.sequence

-- its data can be read, as far as the zone goes
abbrev pub fits : ReadZone → ℕ → Heading → Bool
fits zone offset heading = nat_le (offset + 1 + data_count heading.entries) (length zone.blocks)

-- What is missing in a gap is older than the batch after it.
abbrev pub doubt_before : Trail → ℕ → ℕ → ℕ
doubt_before trail doubt sequence = if is_whole trail then doubt else max doubt sequence

abbrev pub batch_at : ReadZone → ℕ → Heading → Batch
batch_at zone offset heading = record { heading = heading; body = take (data_count heading.entries) (drop (offset + 1) zone.blocks) }

-- a batch is found, and the search goes on after it
abbrev pub with_batch : ReadZone → ℕ → Place → Heading → Place
with_batch zone number place heading = record {
  offset = place.offset + 1 + data_count heading.entries;
  trail = Whole;
  floor = max place.floor (heading.sequence + 1);
  finding = record {
    found = place.finding.found ++ record { zone = number; offset = place.offset; batch = batch_at zone place.offset heading } ∷ [];
    doubt = doubt_before place.trail place.finding.doubt heading.sequence;
  };
}

-- a block is lost: it belongs to no batch that is found
abbrev pub with_gap : Place → Place
with_gap place = record { offset = place.offset + 1; trail = Lost; floor = place.floor; finding = place.finding }

-- a zero block, which is padding if only such blocks follow
abbrev pub with_zeros : Place → Place
with_zeros place =
    record { offset = place.offset + 1; trail = if is_lost place.trail then Lost else Zeros; floor = place.floor; finding = place.finding }

-- In an open-ended zone it may be a whole batch whose last data are zeros, so something newer may be missing.
abbrev pub tail_doubt : ReadZone → ℕ → Heading → ℕ
tail_doubt zone doubt heading = if zone.open_ended then max doubt heading.sequence else doubt

-- A torn tail ends the zone. It is never searched.
abbrev pub with_tail : ReadZone → Place → Heading → Place
with_tail zone place heading = record {
  offset = length zone.blocks;
  trail = if is_whole place.trail then Whole else Lost;
  floor = place.floor;
  finding = record { found = place.finding.found; doubt = tail_doubt zone place.finding.doubt heading };
}

-- a header that counts, if its data do not fit
abbrev pub short_of : ReadZone → Place → Heading → Place
short_of zone place heading = if zone.padded then with_gap place else with_tail zone place heading

-- and if they fit: no batch of a disk has a sequence of 2 ^ 63 or more
abbrev pub after_batch : ReadZone → ℕ → Place → Heading → Place
after_batch zone number place heading =
    if nat_lt heading.sequence (2 ^ 63) then with_batch zone number place heading else with_gap place

abbrev pub after_header : ReadZone → ℕ → Place → Heading → Place
after_header zone number place heading =
    if follows place heading
    then (if fits zone place.offset heading then after_batch zone number place heading else short_of zone place heading)
    else with_gap place

abbrev pub after_other : ReadZone → Place → Bool → Place
after_other zone place is_zero = if zone.padded && is_zero then with_zeros place else with_gap place

abbrev pub after_block : ReadZone → ℕ → Place → Option LogFault → List ℕ → Place
after_block zone number place None block = after_header zone number place (heading_in block)
after_block zone number place (Some fault) block = after_other zone place (is_zero block)

-- what is read at a block: nothing, or the block that is there
abbrev pub after_reading : ReadZone → ℕ → Place → Option (List ℕ) → Place
after_reading zone number place None = with_gap place
after_reading zone number place (Some block) = after_block zone number place (header_fault block) block

-- ---- one zone

abbrev pub Reads : Bool → List (List ℕ) → ℕ → Option (List ℕ) → Type 0
Reads may_fail blocks offset None = may_fail ≡ true
Reads may_fail blocks offset (Some block) = block ≡ slice_index_or blocks offset []

-- An Offline zone is one gap.
abbrev pub begun : ReadZone → Finding → Place
begun zone finding = record { offset = 0; trail = if zone.offline then Lost else Whole; floor = 0; finding = finding }

-- The search of a zone gets there, by looking at one block after the other.
pub data Reaches (damaged : Damage) (zone : ReadZone) (number : ℕ) (finding : Finding) : Place → Type 0 where
  begins : Reaches damaged zone number finding (begun zone finding)
  looks : {place : Place} (reading : Option (List ℕ)) → Reaches damaged zone number finding place → place.offset < length zone.blocks
      → Reads (damaged number place.offset) zone.blocks place.offset reading
      → Reaches damaged zone number finding (after_reading zone number place reading)

-- A gap at the end of a zone: nothing tells how new the batches are that are missing there.
abbrev pub unbounded : ℕ
unbounded = 2 ^ 63

abbrev pub ended : Place → Finding
ended place = record { found = place.finding.found; doubt = if is_lost place.trail then unbounded else place.finding.doubt }

-- ---- all zones

-- An open-ended zone ends after its last block that is not zeros, or that cannot be read.
pub record EndsAt (damaged : Damage) (zone : ReadZone) (number end : ℕ) : Type 0 where
  pub within : end ≤ length zone.blocks
  pub zeros : (offset : ℕ) → end ≤ offset → offset < length zone.blocks → is_zero (slice_index_or zone.blocks offset []) ≡ true
  pub last : (offset : ℕ) → end ≡ suc offset → (damaged number offset ≡ true) ⊎ (is_zero (slice_index_or zone.blocks offset []) ≡ false)

abbrev pub Ends : Damage → ReadZone → ℕ → ℕ → Type 0
Ends damaged zone number end = zone.open_ended ≡ true → EndsAt damaged zone number end

-- A zone is searched, up to where it ends.
pub record SearchesZone (damaged : Damage) (zone : ReadZone) (number : ℕ) (before after : Finding) : Type 0 where
  pub end : ℕ
  pub ends : Ends damaged zone number end
  pub place : Place
  pub reaches : Reaches damaged (cut zone end) number before place
  pub far : length (cut zone end).blocks ≤ place.offset
  pub after_is : after ≡ ended place

abbrev pub nothing_found : Finding
nothing_found = record { found = []; doubt = 0 }

-- The first zones are searched, as many as n, and this is found.
pub data Searched (damaged : Damage) (zones : List ReadZone) : ℕ → Finding → Type 0 where
  at_first : Searched damaged zones 0 nothing_found
  one_more : {n : ℕ} {finding after : Finding} → Searched damaged zones n finding → SearchesZone damaged (zone_with zones n) n finding after
      → Searched damaged zones (suc n) after

-- ---- what is found

-- the records of these batches
abbrev pub found_records : List Found → List Record
found_records found = flat_map (λ (f : Found). batch_records f.zone f.offset f.batch) found

-- the greatest size that they say
abbrev pub found_size : List Found → Option ℕ
found_size [] = None
found_size (first ∷ others) = larger first.batch.heading.size (found_size others)
