-- The batches that a disk writes: of blocks that follow one another.
use Rattle.std.specs.List.{Contains, list_any}
use Rattle.std.specs.Prelude.{◌≡◌, ◌⊎◌, ◌==◌, ℕ, ◌+◌, ◌-◌, ◌*◌, ◌<◌, ◌≤◌, min, if◌then◌else◌, Bool, true, false}
use Rattle.std.specs.Prelude.{List, [], ◌∷◌, ◌++◌, length, replicate, take, drop, Option, Some, Result}
use Rattle.zone_states.specs.declared.geometry.Geometry.{Geometry}
use Rattle.zone_states.specs.Zone.{cut_blocks}
use Rattle.drive_port.specs.Drive.{DriveState}
use Rattle.batch_log.specs.declared.header.Entry.{Entry}
use Rattle.batch_log.specs.declared.header.Kind.TheVariants.{Host}
use Rattle.batch_log.specs.Header.{Heading, header_block}
use Rattle.batch_log.specs.Log.{Batch, batch_size, zero_block}
use Rattle.zone_choice.specs.declared.roles.Filling.{Filling}
use Rattle.zone_choice.specs.Agreement.{MountedView, mounted_array}
use Rattle.drive_array.specs.ZoneLogs.{drive_logs, log_at}
use Rattle.zone_choice.specs.Builder.{BuilderView, IsBuilt, built, entries_from}
use Rattle.zone_choice.specs.Changes.{CanPlace, sequence_end, told_over}
use Rattle.drive_array.specs.Reserve.{batch_most}
use Rattle.zone_choice.specs.Tables.{size_of}
use Rattle.zone_cleaner.specs.Clean.{CleanView}
use Rattle.zone_cleaner.specs.Turns.{IsMove}
use Rattle.zone_translator.specs.declared.write.Content.{Content}
use Rattle.zone_translator.specs.declared.write.Content.TheVariants.{Byte, Bytes, Trim}
use Rattle.zone_translator.specs.declared.write.Rest.{Rest}
use Rattle.zone_translator.specs.declared.fault.DiskFault.{DiskFault}
use Rattle.zone_translator.specs.Changes.{HasRoom, WriteLeaves}
use Rattle.zone_translator.specs.Flat.{replaced}

-- ---- what is written

abbrev pub is_trim : Content → Bool
is_trim Trim = true
is_trim content = false

-- the blocks that it is: n blocks of a byte, the blocks of the bytes, or n blocks of zeros
abbrev pub blocks_of : ℕ → ℕ → Content → List (List ℕ)
blocks_of block_bytes n (Byte byte) = replicate n (replicate block_bytes byte)
blocks_of block_bytes n (Bytes bytes) = cut_blocks block_bytes n bytes.now
blocks_of block_bytes n Trim = replicate n (zero_block block_bytes)

-- the bytes are n whole blocks
abbrev pub HasBlocks : ℕ → ℕ → Content → Type 0
HasBlocks block_bytes n (Bytes bytes) = length bytes.now ≡ n * block_bytes
HasBlocks block_bytes n content = Unit {0}

-- there are that many bytes at least
abbrev pub HasBytes : ℕ → Content → Type 0
HasBytes count (Bytes bytes) = count ≤ length bytes.now
HasBytes count content = Unit {0}

-- the first bytes of its data; a trim has none
abbrev pub bytes_of : ℕ → Content → List ℕ
bytes_of count (Byte byte) = replicate count byte
bytes_of count (Bytes bytes) = take count bytes.now
bytes_of count Trim = []

-- what is written after the first bytes
abbrev pub IsAfter : ℕ → Content → Content → Type 0
IsAfter count (Byte byte) (Byte same) = same ≡ byte
IsAfter count (Bytes bytes) (Bytes rest) = rest.now ≡ drop count bytes.now
IsAfter count Trim Trim = Unit {0}
IsAfter count content other = ⊥

-- ---- batches

-- the heading of a batch of the host, on a disk of this size
abbrev pub host_heading : ℕ → ℕ → Bool → ℕ → ℕ → Heading
host_heading size sequence trim first count = record { kind = Host; sequence = sequence; source = 0; size = Some size; entries = entries_from trim first count }

-- a heading that also names n blocks from a given one on
abbrev pub named_with : Heading → Bool → ℕ → ℕ → Heading
named_with heading trim first n = record heading { entries = heading.entries ++ entries_from trim first n }

-- How many of the blocks left a batch takes: no more than an Append moves and a header names and, if they have data,
-- than the host zone has room for after the header.
abbrev pub batch_count : Geometry → Filling → ℕ → Bool → ℕ
batch_count geometry host left trim =
    if trim then min left (batch_most geometry)
    else min (min left (batch_most geometry)) (geometry.capacity - host.written - 1)

-- of what is left of a write
abbrev pub next_count : Geometry → Filling → Rest → ℕ
next_count geometry host rest = batch_count geometry host rest.left (is_trim rest.content)

-- a batch of trims takes as many as a header can name, or all that are left, wherever it goes
abbrev pub IsBatchCount : Geometry → Bool → ℕ → ℕ → Type 0
IsBatchCount geometry true left count = count ≡ min left (batch_most geometry)
IsBatchCount geometry false left count = Unit {0}

-- a zone that the next batch goes to; and there is a sequence for it
pub record IsRoom (disk : MountedView) (host : Filling) : Type 0 where
  pub host_is : disk.tables.roles.host ≡ Some host
  pub free : HasRoom disk.drive host
  pub next : disk.tables.next < sequence_end disk.drive.geometry

-- What is left of a write can be written: it is a block at least, all are in range, and its bytes are whole blocks.
pub record CanWrite (disk : MountedView) (rest : Rest) : Type 0 where
  pub some : 1 ≤ rest.left
  pub in_range : rest.first + rest.left ≤ size_of disk.tables
  pub whole : HasBlocks disk.drive.geometry.block rest.left rest.content

-- the blocks that are left
abbrev pub rest_blocks : Geometry → Rest → List (List ℕ)
rest_blocks geometry rest = blocks_of geometry.block rest.left rest.content

-- how many of them a batch took
abbrev pub IsTaken : Geometry → Rest → ℕ → Type 0
IsTaken geometry rest count = (1 ≤ count) × (count ≤ rest.left) × IsBatchCount geometry (is_trim rest.content) rest.left count

-- what a batch of them leaves, by its answer
abbrev pub WritesRest : MountedView → Rest → Result ℕ DiskFault → MountedView → Option CleanView → Type 0
WritesRest before rest result after clean =
    WriteLeaves (is_trim rest.content) before after clean rest.first (rest_blocks before.drive.geometry rest) result

-- the heading of the next batch of the host
abbrev pub next_heading : MountedView → Bool → ℕ → ℕ → Heading
next_heading disk trim first count = host_heading (size_of disk.tables) disk.tables.next trim first count

-- and its header block
abbrev pub header_of : MountedView → Bool → ℕ → ℕ → List ℕ
header_of disk trim first count = header_block disk.drive.geometry.block (next_heading disk trim first count)

-- The next batch of a write: it can be appended to the host zone, and says the first blocks of what is left.
pub record IsNextBatch (disk : MountedView) (host : Filling) (rest : Rest) (builder : BuilderView) (count : ℕ) : Type 0 where
  pub built_is : IsBuilt disk.drive.geometry.block builder
  pub can : CanPlace disk host.zone (built disk.drive.geometry.block builder)
  pub some : 1 ≤ count
  pub few : count ≤ length (rest_blocks disk.drive.geometry rest)
  pub size : builder.heading.size ≡ Some (size_of disk.tables)
  pub entries : builder.heading.entries ≡ entries_from (is_trim rest.content) rest.first count
  pub tells : told_over disk.drive.geometry.block (built disk.drive.geometry.block builder) (mounted_array disk)
      ≡ replaced (mounted_array disk) rest.first (take count (rest_blocks disk.drive.geometry rest))

-- ---- into which batches a write is cut

-- an entry names the block
abbrev pub names : ℕ → List Entry → Bool
names block entries = list_any (λ e. e.block == block) entries

-- a batch is in one of these logs
abbrev pub Stands : List (List Batch) → Batch → Type 0
Stands logs batch = (zone : ℕ) × Contains (log_at logs zone) batch

-- How a batch is cut that begins at this offset of its zone, of a write whose last block this is: it has as many
-- entries as a batch can have, or names the last block, or ends its zone. Nothing is asked of Moves, nor of the
-- batches that stood on the drive before the write.
abbrev pub IsCut : Geometry → List (List Batch) → ℕ → ℕ → Batch → Type 0
IsCut geometry old last offset batch =
    Stands old batch ⊎ IsMove batch ⊎ (length batch.heading.entries ≡ batch_most geometry) ⊎ (names last batch.heading.entries ≡ true)
    ⊎ (offset + batch_size batch ≡ geometry.capacity)

-- each batch of a log whose first batch begins at this offset
abbrev pub AreCut : Geometry → List (List Batch) → ℕ → ℕ → List Batch → Type 0
AreCut geometry old last offset [] = Unit {0}
AreCut geometry old last offset (batch ∷ log) = IsCut geometry old last offset batch × AreCut geometry old last (offset + batch_size batch) log

-- each batch of all logs, after a write whose last block this is, where the logs were `old` before it
abbrev pub LogsAreCut : Geometry → List (List Batch) → ℕ → List (List Batch) → Type 0
LogsAreCut geometry old last logs = (zone : ℕ) → AreCut geometry old last 0 (log_at logs zone)

-- one batch of a write whose last block this is keeps them so, whatever the logs were at the beginning of the write
abbrev pub KeepsCutTo : ℕ → DriveState → DriveState → Type 0
KeepsCutTo last old new = (start : List (List Batch)) → LogsAreCut old.geometry start last (drive_logs old) → LogsAreCut old.geometry start last (drive_logs new)

-- and so does one batch of what is left
abbrev pub KeepsCut : DriveState → Rest → DriveState → Type 0
KeepsCut old rest new = KeepsCutTo (rest.first + rest.left - 1) old new
