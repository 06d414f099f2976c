-- The Moves that repair a torn zone, and what the drive holds between two of them.
use Rattle.std.specs.Prelude.{◌≡◌, ◌≢◌, ◌⊎◌, ℕ, zero, suc, ◌+◌, ◌-◌, ◌*◌, ◌<◌, ◌≤◌, ◌^◌, ◌==◌, nat_eq}
use Rattle.std.specs.Prelude.{if◌then◌else◌, Bool, true, false, List, [], ◌∷◌, ◌++◌, Contains, length, map, take, drop}
use Rattle.std.specs.Prelude.{slice_index_or, slice_set, IsTrue, Option, Some, None, IfSome}
use Rattle.std.specs.List.{AllByRecursion, IsDistinct, concat, flat_map, list_any}
use Rattle.zone_states.specs.declared.geometry.Geometry.{Geometry}
use Rattle.zone_states.specs.Geometry.{IsInRange}
use Rattle.drive_port.specs.Calls.{CanAppend}
use Rattle.drive_port.specs.Contents.{Appends, Content, Usage, active, content_at, contents, emptied, empty, full, is_active_usage}
use Rattle.drive_port.specs.Drive.{DriveState, IsLawful}
use Rattle.batch_log.specs.declared.header.Entry.{Entry}
use Rattle.batch_log.specs.declared.header.Kind.TheVariants.{Move}
use Rattle.batch_log.specs.Header.{Heading, IsHeading, IsSize}
use Rattle.batch_log.specs.Log.{Batch, batch_blocks, batch_size, log_size}
use Rattle.logical_map.specs.declared.place.Place.{Place}
use Rattle.logical_map.specs.declared.place.Place.TheVariants as places
use Rattle.zone_choice.specs.Agreement.{IsShut}
use Rattle.drive_array.specs.ZoneLogs.{drive_logs, has_torn_tail, log_at, sequences, encoded, zone_log, zone_tails}
use Rattle.zone_choice.specs.Builder.{BuilderView, IsBuilt, built}
use Rattle.drive_array.specs.Mountable.{IsMountable}
use Rattle.drive_array.specs.Records.{Record, newest, records}
use Rattle.drive_array.specs.Repair.{live_records, moves}
use Rattle.drive_array.specs.Repairing.{IsOnRepair, IsStillNeeded, LiesIn}
use Rattle.drive_array.specs.Reserve.{batch_most}
use Rattle.drive_array.specs.Sizes.{encoded_size, log_greatest}
use Rattle.zone_choice.specs.Tables.{TablesView, size_of}
use Rattle.drive_survey.specs.declared.clearing.Finding.{Finding}
use Rattle.drive_survey.specs.declared.clearing.Finding.TheVariants.{NeedsBlock, NeedsSize}
use Rattle.remount.specs.declared.repair.moves.MovePlan.{MovePlan}
use Rattle.remount.specs.declared.repair.Repair.{Repair}
use Rattle.drive_survey.specs.declared.survey.Survey.{Survey}
use Rattle.drive_survey.specs.Heads.{HeadsView, greatest_sequence, heads_of}
use Rattle.remount.specs.Kept.{AreVacantEmpty, KeepsMountable}
use Rattle.drive_survey.specs.Known.{Knows}
use Rattle.drive_survey.specs.Reported.{IsKnown}
use Rattle.drive_survey.specs.Scan.{readable_at}
use Rattle.remount.specs.Resets.{OpensNoZone, finished_if_active}
use Rattle.remount.specs.TornRepair.{HoldsSize}

-- ---- commands of a repair

-- The contents stay, no zone is opened, and no command is refused.
pub record KeepsShut (old new : DriveState) : Type 0 where
  pub geometry : new.geometry ≡ old.geometry
  pub contents_are : contents new.zones ≡ contents old.zones
  pub lawful : IsLawful new
  pub refused : new.refused ≡ old.refused
  pub durable : new.durable ≡ old.durable
  pub opens : (zone : ℕ) → IsShut old.zones zone → IsShut new.zones zone
  pub trusted : IsTrue new.clean → IsTrue old.clean
  pub unfailing : IsTrue new.unfailing → IsTrue old.unfailing

-- A zone without a torn tail was finished: all logs and tails stay.
pub record FinishesZone (n : ℕ) (old new : DriveState) (before after : Survey) (zone : ℕ) : Type 0 where
  pub known : Knows new n (drive_logs new) after
  pub logs : drive_logs new ≡ drive_logs old
  pub tails : zone_tails (contents new.zones) ≡ zone_tails (contents old.zones)
  pub vacant : AreVacantEmpty before.zones.items (drive_logs old) → AreVacantEmpty after.zones.items (drive_logs new)
  pub settled : is_active_usage (content_at (contents new.zones) zone).usage ≡ false
  pub own : content_at (contents new.zones) zone ≡ finished_if_active (content_at (contents old.zones) zone)
  pub others : (other : ℕ) → other ≢ zone → content_at (contents new.zones) other ≡ content_at (contents old.zones) other
  pub opens : OpensNoZone old new

-- A zone is finished if it is opened or Closed, unless it is the torn one: all logs and tails stay, all other zones hold what they held, and none is opened.
pub record SettlesZone (n : ℕ) (old new : DriveState) (before after : Survey) (torn zone : ℕ) : Type 0 where
  pub known : Knows new n (drive_logs new) after
  pub logs : drive_logs new ≡ drive_logs old
  pub tails : zone_tails (contents new.zones) ≡ zone_tails (contents old.zones)
  pub vacant : AreVacantEmpty before.zones.items (drive_logs old) → AreVacantEmpty after.zones.items (drive_logs new)
  pub settled : zone ≢ torn → is_active_usage (content_at (contents new.zones) zone).usage ≡ false
  pub own : zone ≢ torn → content_at (contents new.zones) zone ≡ finished_if_active (content_at (contents old.zones) zone)
  pub others : (other : ℕ) → other ≢ zone → content_at (contents new.zones) other ≡ content_at (contents old.zones) other
  pub opens : OpensNoZone old new
  pub count : length after.zones.items ≡ length before.zones.items

-- no zone below this one is opened or Closed, except for the torn one
abbrev pub AreSettled : DriveState → ℕ → ℕ → Type 0
AreSettled drive torn limit = (zone : ℕ) → zone < limit → zone ≢ torn → is_active_usage (content_at (contents drive.zones) zone).usage ≡ false

-- All zones but the torn one were finished that were opened or Closed: all logs and tails stay, all others hold what they held, and none was opened.
pub record SettlesOthers (old new : DriveState) (torn : ℕ) : Type 0 where
  pub logs : drive_logs new ≡ drive_logs old
  pub tails : zone_tails (contents new.zones) ≡ zone_tails (contents old.zones)
  pub settled : AreSettled new torn (length new.zones)
  pub others : (zone : ℕ) → zone < length new.zones → zone ≢ torn
      → content_at (contents new.zones) zone ≡ finished_if_active (content_at (contents old.zones) zone)
  pub opens : OpensNoZone old new

-- The drive takes a batch at the end of a zone.
pub record CanTake (drive : DriveState) (zone : ℕ) (builder : BuilderView) : Type 0 where
  pub range : IsInRange drive.geometry
  pub heading : IsHeading drive.geometry.block builder.heading
  pub whole : IsBuilt drive.geometry.block builder
  pub can : CanAppend drive (zone * drive.geometry.size) (batch_size (built drive.geometry.block builder))

-- It took the first j blocks of the batch.
pub record TakesFirst (old new : DriveState) (zone : ℕ) (batch : Batch) (j : ℕ) : Type 0 where
  pub geometry : new.geometry ≡ old.geometry
  pub lawful : IsLawful new
  pub refused : new.refused ≡ old.refused
  pub durable : new.durable ≡ old.durable
  pub few : j ≤ batch_size batch
  pub appends : Appends (contents old.zones) (contents new.zones) old.geometry.capacity zone (take j (batch_blocks old.geometry.block batch))
  pub opens : (other : ℕ) → other ≢ zone → IsShut old.zones other → IsShut new.zones other

-- nothing of it, or a front
abbrev pub TakesSome : DriveState → DriveState → ℕ → Batch → Type 0
TakesSome old new zone batch = ((n : ℕ) → KeepsMountable n old new) ⊎ ((j : ℕ) × TakesFirst old new zone batch j)

-- ---- one Move

-- Where the records are found that are moved: the readable blocks of the torn zone, the address of the first, and the places of all blocks.
pub record Source : Type 0 where
  pub blocks : List (List ℕ)
  pub start : ℕ
  pub places : List Place

abbrev pub source_of : DriveState → TablesView → ℕ → Source
source_of drive tables zone = record { blocks = readable_at drive zone; start = zone * drive.geometry.size; places = tables.map.places }

-- what is said of a block that is at a place: its data, or none for a trim
abbrev pub said_at : List (List ℕ) → ℕ → Place → Option (List ℕ)
said_at blocks start (places.At address) = Some (slice_index_or blocks (address - start) [])
said_at blocks start place = None

abbrev pub said : Source → ℕ → Option (List ℕ)
said source block = said_at source.blocks source.start (slice_index_or source.places block places.None)

abbrev pub blocks_listed : Option (List ℕ) → List (List ℕ)
blocks_listed None = []
blocks_listed (Some bytes) = bytes ∷ []

abbrev pub placed_entry : ℕ → Place → Entry
placed_entry block (places.At address) = record { block = block; trim = false }
placed_entry block place = record { block = block; trim = true }

abbrev pub moved_entries : List Place → List ℕ → List Entry
moved_entries all blocks = map (λ block. placed_entry block (slice_index_or all block places.None)) blocks

abbrev pub moved_data : Source → List ℕ → List (List ℕ)
moved_data source blocks = flat_map (λ block. blocks_listed (said source block)) blocks

-- the Move from a zone that says of these blocks what is said there
abbrev pub move_of : Source → ℕ → ℕ → Option ℕ → List ℕ → Batch
move_of source zone sequence size blocks = record {
  heading = record {
    kind = Move;
    sequence = sequence;
    source = zone;
    size = size;
    entries = moved_entries source.places blocks;
  };
  body = moved_data source blocks;
}

-- the bytes of a batch were built
pub record IsBuiltAs (block_bytes : ℕ) (batch : Batch) (builder : BuilderView) : Type 0 where
  pub whole : IsBuilt block_bytes builder
  pub is : built block_bytes builder ≡ batch

-- a place of data is that of a readable block
abbrev pub IsBlockAt : ℕ → ℕ → Place → Type 0
IsBlockAt start count (places.At address) = (start ≤ address) × (address < start + count)
IsBlockAt start count place = Unit {0}

-- a block of the tables, whose data is one of that many blocks from an address on
pub record IsReadableAt (tables : TablesView) (start count block : ℕ) : Type 0 where
  pub in_range : block < size_of tables
  pub few : block + 1 < 2 ^ 32
  pub place : IsBlockAt start count (slice_index_or tables.map.places block places.None)

-- ---- all Moves

-- how many there are
abbrev pub move_count : MovePlan → ℕ
move_count plan = moves plan.most (length plan.blocks.items)

-- the blocks that the Move with a number names
abbrev pub named_by : MovePlan → ℕ → List ℕ
named_by plan k = take plan.most (drop (k * plan.most) plan.blocks.items)

-- the size that it says: the last one may say another one
abbrev pub size_by : MovePlan → ℕ → Option ℕ
size_by plan k = if k + 1 == move_count plan then plan.size else plan.early

abbrev pub move_by : Source → MovePlan → ℕ → Batch
move_by source plan k = move_of source plan.torn (plan.next + k) (size_by plan k) (named_by plan k)

-- the first k of them
abbrev pub moves_before : Source → MovePlan → ℕ → List Batch
moves_before source plan zero = []
moves_before source plan (suc k) = moves_before source plan k ++ move_by source plan k ∷ []

-- The newest record of a block is in the torn zone, and says what is said of the block.
pub record IsMovable (n : ℕ) (logs : List (List Batch)) (source : Source) (torn block : ℕ) : Type 0 where
  pub in_range : block < encoded_size n logs
  pub newest_is : Record
  pub is : newest block (records 0 logs) ≡ Some newest_is
  pub zone : newest_is.zone ≡ torn
  pub content : newest_is.content ≡ said source block

-- The Moves of a cleared drive repair its torn zone: they name each block once whose newest record is there, and
-- are no more than that takes; their sequences follow the greatest, and last; there is room for them in one zone;
-- they say the size that the torn zone says, the last one at least; and while some are left, the torn zone is not
-- half clean.
pub record CanRepairBy (geometry : Geometry) (n : ℕ) (logs : List (List Batch)) (source : Source) (plan : MovePlan) : Type 0 where
  pub most : plan.most ≡ batch_most geometry
  pub movable : AllByRecursion (IsMovable n logs source plan.torn) plan.blocks.items
  pub all : (block : ℕ) → LiesIn plan.torn (newest block (records 0 logs)) → Contains plan.blocks.items block
  pub distinct : IsDistinct nat_eq plan.blocks.items
  pub count : move_count plan ≡ moves (batch_most geometry) (live_records (encoded_size n logs) logs plan.torn)
  pub next : plan.next ≡ 1 + greatest_sequence (sequences logs)
  pub later : AllByRecursion (λ sequence. sequence < plan.next) (sequences logs)
  pub last : plan.next + move_count plan ≤ 2 ^ 63
  pub room : log_size (moves_before source plan (move_count plan)) ≤ geometry.capacity
  pub size : plan.size ≡ log_greatest (log_at logs plan.torn)
  pub early : (plan.early ≡ plan.size) ⊎ (plan.early ≡ None)
  pub said : (HoldsSize n logs plan.torn → ⊥) → plan.early ≡ plan.size
  pub needed : (k : ℕ) → k < move_count plan → IsStillNeeded geometry.block n logs plan.torn plan.into (moves_before source plan k)

-- a block that the tables have
abbrev pub IsNamed : TablesView → ℕ → Type 0
IsNamed tables block = (block < size_of tables) × (block + 1 < 2 ^ 32)

-- What of a plan is needed to build and send its Moves, whatever the Reads of the mount returned: they name blocks of
-- the tables, each once, and no more than a Move takes; and their sequences, source and sizes are such as a header has.
pub record IsSafe (geometry : Geometry) (tables : TablesView) (plan : MovePlan) : Type 0 where
  pub range : IsInRange geometry
  pub most : plan.most ≡ batch_most geometry
  pub last : plan.next + move_count plan ≤ 2 ^ 63
  pub torn : plan.torn < geometry.zones
  pub size : IfSome plan.size IsSize
  pub early : IfSome plan.early IsSize
  pub named : AllByRecursion (IsNamed tables) plan.blocks.items
  pub distinct : IsDistinct nat_eq plan.blocks.items

-- as many bytes were added to some
pub record Extends (old new : List ℕ) (count : ℕ) : Type 0 where
  pub got : List ℕ
  pub joined : new ≡ old ++ got
  pub long : length got ≡ count

-- whole blocks were added to some bytes
pub record Adds (old : List ℕ) (block_bytes : ℕ) (blocks : List (List ℕ)) (new : List ℕ) : Type 0 where
  pub bytes : new ≡ old ++ concat blocks
  pub whole : AllByRecursion (λ block. length block ≡ block_bytes) blocks

-- the bytes of a batch with this heading
pub record IsShaped (block_bytes : ℕ) (heading : Heading) (builder : BuilderView) : Type 0 where
  pub whole : IsBuilt block_bytes builder
  pub heading_is : builder.heading ≡ heading

-- the data of the Move with a number can be read
pub record CanCopy (drive : DriveState) (tables : TablesView) (plan : MovePlan) (k : ℕ) : Type 0 where
  pub known : IsKnown drive plan.torn plan.reported
  pub places : AllByRecursion (IsReadableAt tables (plan.torn * drive.geometry.size) plan.reported.blocks) (named_by plan k)

-- a batch that fits in one transfer
pub record IsTakeable (geometry : Geometry) (builder : BuilderView) : Type 0 where
  pub range : IsInRange geometry
  pub heading : IsHeading geometry.block builder.heading
  pub whole : IsBuilt geometry.block builder
  pub few : batch_size (built geometry.block builder) ≤ geometry.transfer

-- ---- between two Moves

-- how far a zone is used that was empty, and has that many blocks now
abbrev pub usage_with : ℕ → ℕ → Usage
usage_with capacity zero = empty
usage_with capacity (suc written) = if suc written == capacity then full else active

-- Since the repair began, a zone that was empty was written to, and holds these Moves, and no torn tail; no other
-- zone was opened. The torn zone was not open then if only one zone may be.
pub record IsMoving (n : ℕ) (start now : DriveState) (torn into : ℕ) (made : List Batch) : Type 0 where
  pub range : IsInRange start.geometry
  pub geometry : now.geometry ≡ start.geometry
  pub lawful : IsLawful now
  pub refused : now.refused ≡ start.refused
  pub durable : now.durable ≡ start.durable
  pub count : length now.zones ≡ length start.zones
  pub repair : IsOnRepair start.geometry n (contents start.zones) (contents now.zones) torn into
  pub log : zone_log start.geometry (content_at (contents now.zones) into) ≡ made
  pub written : length (content_at (contents now.zones) into).blocks ≡ log_size made
  pub usage : (content_at (contents now.zones) into).usage ≡ usage_with start.geometry.capacity (log_size made)
  pub whole : has_torn_tail (content_at (contents now.zones) into) ≡ false
  pub opens : (zone : ℕ) → zone ≢ into → IsShut start.zones zone → IsShut now.zones zone
  pub settled : AreSettled start torn (length start.zones)
  pub shut : start.geometry.open < 2 → IsShut start.zones torn

-- The first k Moves are made, and their headers are known.
pub record IsAtMove (n : ℕ) (start now : DriveState) (tables : TablesView) (plan : MovePlan) (k : ℕ) (heads : HeadsView) : Type 0 where
  pub can : CanRepairBy start.geometry n (drive_logs start) (source_of start tables plan.torn) plan
  pub known : IsKnown start plan.torn plan.reported
  pub readable_blocks : AllByRecursion (IsReadableAt tables (plan.torn * start.geometry.size) plan.reported.blocks) plan.blocks.items
  pub moving : IsMoving n start now plan.torn plan.into (moves_before (source_of start tables plan.torn) plan k)
  pub heads_are : heads ≡ heads_of (moves_before (source_of start tables plan.torn) plan k)

-- the torn zone is empty, and the zone of the Moves holds them
pub record EmptiesTorn (n : ℕ) (start new : DriveState) (plan : MovePlan) (made : List Batch) : Type 0 where
  pub range : IsInRange start.geometry
  pub geometry : new.geometry ≡ start.geometry
  pub mountable : IsMountable new n
  pub array : encoded new n ≡ encoded start n
  pub apart : plan.into ≢ plan.torn
  pub there : Content
  pub zones : contents new.zones ≡ slice_set (slice_set (contents start.zones) plan.into there) plan.torn emptied
  pub log : zone_log start.geometry there ≡ made
  pub written : length there.blocks ≡ log_size made
  pub usage : there.usage ≡ usage_with start.geometry.capacity (log_size made)
  pub whole : has_torn_tail there ≡ false
  pub some : 1 ≤ log_size made
  pub opens : (zone : ℕ) → zone ≢ plan.into → IsShut start.zones zone → IsShut new.zones zone

-- ---- which Moves

-- these numbers except for one
abbrev pub others : ℕ → List ℕ → List ℕ
others last [] = []
others last (block ∷ blocks) = if block == last then others last blocks else block ∷ others last blocks

-- the block that the torn zone is needed for comes last
abbrev pub ordered : List ℕ → Finding → List ℕ
ordered blocks (NeedsBlock last) = others last blocks ++ last ∷ []
ordered blocks why = blocks

-- the block that the torn zone is needed for, if any, is one of these
abbrev pub is_last_in : List ℕ → Finding → Bool
is_last_in blocks (NeedsBlock last) = list_any (λ block. block == last) blocks
is_last_in blocks why = true

-- if the torn zone is needed for the size, only the last Move says it
abbrev pub early_size : Option ℕ → Finding → Option ℕ
early_size size NeedsSize = None
early_size size why = size

-- The plan of a repair, from what a survey knows.
pub record IsMovePlan (drive : DriveState) (n : ℕ) (survey : Survey) (repair : Repair) (into : ℕ) (plan : MovePlan) : Type 0 where
  pub torn : plan.torn ≡ repair.zone
  pub into_is : plan.into ≡ into
  pub known : IsKnown drive plan.torn plan.reported
  pub can : CanRepairBy drive.geometry n (drive_logs drive) (source_of drive repair.tables plan.torn) plan
  pub readable_blocks : AllByRecursion (IsReadableAt repair.tables (plan.torn * drive.geometry.size) plan.reported.blocks) plan.blocks.items
