-- The logs of a drive's zones, and the array that the drive encodes.
use Rattle.std.specs.Prelude.{ℕ, ◌-◌, ◌&&◌, not, Bool, true, false, List, [], ◌++◌, map, length, replicate, slice_index_or}
use Rattle.std.specs.List.{flat_map}
use Rattle.zone_states.specs.declared.geometry.Geometry.{Geometry}
use Rattle.drive_port.specs.Contents.{Content, contents, is_full}
use Rattle.drive_port.specs.Drive.{DriveState}
use Rattle.batch_log.specs.Log.{Batch, IsLog, has_tail, log_of, zero_block}
use Rattle.drive_array.specs.Sizes.{array_of}

-- what follows the written blocks of a zone, as a host can tell: in a full zone zero blocks up to the capacity, since a
-- report doesn't tell how far a finished zone was written
abbrev pub padding : Geometry → Bool → ℕ → List (List ℕ)
padding geometry true written = replicate (geometry.capacity - written) (zero_block geometry.block)
padding geometry false written = []

-- the readable blocks of a zone
abbrev pub readable : Geometry → Content → List (List ℕ)
readable geometry content = content.blocks ++ padding geometry (is_full content.usage) (length content.blocks)

-- the log of a zone, where its readable blocks are one
unfoldable pub zone_log : Geometry → Content → List Batch
zone_log geometry content = log_of (readable geometry content)

-- they are the batches of a log and its tail: in a full zone zeros, elsewhere nothing, or what an Append left that was stopped midway
abbrev pub HasLog : Geometry → Content → Type 0
HasLog geometry content = IsLog geometry.block (is_full content.usage) (readable geometry content) (zone_log geometry content)

abbrev pub zone_logs : Geometry → List Content → List (List Batch)
zone_logs geometry zones = map (zone_log geometry) zones

-- the log of the zone with a number
abbrev pub log_at : List (List Batch) → ℕ → List Batch
log_at logs zone = slice_index_or logs zone []

-- the sequences of the batches of a log, and of all logs
abbrev pub log_sequences : List Batch → List ℕ
log_sequences log = map (λ (batch : Batch). batch.heading.sequence) log

abbrev pub sequences : List (List Batch) → List ℕ
sequences logs = flat_map log_sequences logs

-- a torn tail is after the zone's batches
unfoldable pub has_torn_tail : Content → Bool
has_torn_tail content = not (is_full content.usage) && has_tail content.blocks

abbrev pub zone_tails : List Content → List Bool
zone_tails zones = map has_torn_tail zones

-- the array that the zones encode, of n blocks if no header has a size
unfoldable pub encoded_array : Geometry → List Content → ℕ → List (List ℕ)
encoded_array geometry zones n = array_of geometry.block n (zone_logs geometry zones)

-- ---- of a drive

abbrev pub drive_logs : DriveState → List (List Batch)
drive_logs drive = zone_logs drive.geometry (contents drive.zones)

-- the array that a drive encodes, of n blocks if no header has a size
abbrev pub encoded : DriveState → ℕ → List (List ℕ)
encoded drive n = encoded_array drive.geometry (contents drive.zones) n
