-- What a rescue gives of a drive, of which some blocks cannot be read.
use Rattle.std.specs.Prelude.{◌≡◌, ◌⊎◌, ℕ, suc, ◌≤◌, ◌^◌, nat_lt, Bool, true, List, [], ◌∷◌, ◌++◌, length, replicate, filter, Option, Some, None, IsSome, Result, Ok, Err}
use Rattle.std.specs.Io.KnownBytes.{Appends, Keeps}
use Rattle.std.specs.List.{range_with_len}
use Rattle.drive_port.specs.Drive.{DriveState}
use Rattle.drive_port.specs.declared.device.Halt.{Halt}
use Rattle.disk_files.specs.Output.{AppendsFront}
use Rattle.zone_states.specs.Geometry.{IsInRange}
use Rattle.drive_array.specs.Records.{Record, newest, shown}
use Rattle.drive_array.specs.Sizes.{size_or}
use Rattle.drive_survey.specs.Reported.{KeepsZones}
use Rattle.drive_rescue.specs.declared.fault.RescueFault.{RescueFault}
use Rattle.drive_rescue.specs.declared.fault.RescueFault.TheVariants as faults
use Rattle.drive_rescue.specs.declared.giving.Rescued.{Rescued}
use Rattle.drive_rescue.specs.declared.source.Reading.{Reading}
use Rattle.drive_rescue.specs.declared.source.Reading.TheVariants.{Held, Unreadable}
use Rattle.drive_rescue.specs.Ranges.{blocks_in}
use Rattle.drive_rescue.specs.Searching.{Finding, Searched, found_records, found_size}
use Rattle.drive_rescue.specs.Zones.{Damage, Lasts, block_with, read_zones}

-- ---- what is read

-- a drive, and which of its blocks may be unreadable
pub record SourceView : Type 0 where
  pub drive : DriveState
  pub damaged : Damage

-- What Reads keep of a source: the controller may have closed zones, and a damaged block stays one. Nothing else is
-- changed.
pub record KeepsSource (old new : SourceView) : Type 0 where
  pub zones : KeepsZones old.drive new.drive
  pub damaged : Lasts old.damaged new.damaged

-- What a Read of one block answered, by the source after it: the block is there, in its full length; or it is told as
-- unreadable, which only damaged blocks are; or the source halted.
abbrev pub ReadSays : SourceView → ℕ → ℕ → Result Reading Halt → List ℕ → Type 0
ReadSays source number offset (Ok Held) bytes =
    (bytes ≡ block_with (read_zones source.drive) number offset) × (length bytes ≡ source.drive.geometry.block)
ReadSays source number offset (Ok Unreadable) bytes = source.damaged number offset ≡ true
ReadSays source number offset (Err halt) bytes = Unit {0}

-- ---- what is given

-- The data of the newest record of a block cannot be read.
pub record IsLost (damaged : Damage) (rs : List Record) (block : ℕ) : Type 0 where
  pub newest_one : Record
  pub is : newest block rs ≡ Some newest_one
  pub content : IsSome newest_one.content
  pub damaged_there : damaged newest_one.zone newest_one.offset ≡ true

-- The bytes of the first n blocks, one after the other: of each what its newest record shows, and zeros if it is lost;
-- and those that are lost.
pub data Gives (damaged : Damage) (block_bytes : ℕ) (rs : List Record) : ℕ → List ℕ → List ℕ → Type 0 where
  no_block : Gives damaged block_bytes rs 0 [] []
  shows : {n : ℕ} {bytes lost : List ℕ} → Gives damaged block_bytes rs n bytes lost
      → Gives damaged block_bytes rs (suc n) (bytes ++ shown block_bytes (newest n rs)) lost
  loses : {n : ℕ} {bytes lost : List ℕ} → Gives damaged block_bytes rs n bytes lost → IsLost damaged rs n
      → Gives damaged block_bytes rs (suc n) (bytes ++ replicate block_bytes 0) (lost ++ n ∷ [])

-- how new a block is: the sequence of its newest record, 0 if it has none
abbrev pub newness : Option Record → ℕ
newness None = 0
newness (Some r) = r.sequence

-- A block may be older than it should be: a batch that is newer than its newest record may be missing.
abbrev pub may_be_older : ℕ → List Record → ℕ → Bool
may_be_older doubt rs block = nat_lt (newness (newest block rs)) doubt

abbrev pub older_blocks : ℕ → List Record → ℕ → List ℕ
older_blocks doubt rs n = filter (may_be_older doubt rs) (range_with_len 0 n)

-- So many blocks are given by these bytes, with the lists of those that are lost, and that may be older.
pub record GivesBlocks (damaged : Damage) (block_bytes : ℕ) (finding : Finding) (rescued : Rescued) (bytes : List ℕ) : Type 0 where
  pub gives : Gives damaged block_bytes (found_records finding.found) rescued.blocks bytes (blocks_in rescued.lost.items)
  pub older : blocks_in rescued.older.items ≡ older_blocks finding.doubt (found_records finding.found) rescued.blocks

-- ---- a rescue

-- All zones are searched, and this is found.
abbrev pub Finds : SourceView → Finding → Type 0
Finds source finding = Searched source.damaged (read_zones source.drive) (length source.drive.zones) finding

-- The whole disk is given, in the size that the headers found say, or the given one.
pub record Rescues (source : SourceView) (given : ℕ) (written contents : Option (List ℕ)) (rescued : Rescued) : Type 0 where
  pub range : IsInRange source.drive.geometry
  pub finding : Finding
  pub finds : Finds source finding
  pub size_is : rescued.blocks ≡ size_or given (found_size finding.found)
  pub bytes : List ℕ
  pub gives : GivesBlocks source.damaged source.drive.geometry.block finding rescued bytes
  pub appends : Appends written contents bytes

-- The first blocks are given, as many as n, with some lists.
pub record GivesFront (source : SourceView) (n : ℕ) (bytes : List ℕ) : Type 0 where
  pub finding : Finding
  pub finds : Finds source finding
  pub lost : List ℕ
  pub gives : Gives source.damaged source.drive.geometry.block (found_records finding.found) n bytes lost

-- What was written until a fault: nothing, or the first blocks.
abbrev pub WritesFront : SourceView → Option (List ℕ) → Option (List ℕ) → Type 0
WritesFront source written contents =
    Keeps written contents ⊎ ((n : ℕ) × (bytes : List ℕ) × GivesFront source n bytes × Appends written contents bytes)

-- Why nothing more is given. If the writer fails, it has a beginning of the first blocks, and not all of them.
abbrev pub RescueFails : SourceView → ℕ → Option (List ℕ) → Option (List ℕ) → RescueFault → Type 0
RescueFails source given written contents faults.Limits =
    Keeps written contents × (IsInRange source.drive.geometry → given ≤ 2 ^ 31 → ⊥)
RescueFails source given written contents (faults.Halted halt) = WritesFront source written contents
RescueFails source given written contents faults.Output =
    (n : ℕ) × (bytes : List ℕ) × GivesFront source n bytes × AppendsFront written contents bytes
