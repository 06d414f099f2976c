-- A clean: the live records of one zone, the victim, are moved to another, the destination; then the victim is emptied.
use Rattle.std.specs.Prelude.{◌≡◌, ℕ, zero, suc, ◌+◌, ◌-◌, ◌==◌, ◌≤◌, max, Bool, true, false, ◌&&◌, nat_lt, List, [], ◌∷◌, count_by, drop, length, slice_index_or, take, Option, Some, None}
use Rattle.std.specs.Int.{div_ceil}
use Rattle.std.specs.List.{AllByRecursion, list_any}
use Rattle.batch_log.specs.declared.header.Entry.{Entry}
use Rattle.batch_log.specs.Log.{Batch}
use Rattle.logical_map.specs.Live.{lies_in, live}
use Rattle.logical_map.specs.declared.place.Place.{Place}
use Rattle.logical_map.specs.declared.place.Place.TheVariants as places
use Rattle.zone_states.specs.declared.geometry.Geometry.{Geometry}
use Rattle.zone_choice.specs.declared.roles.Filling.{Filling}
use Rattle.zone_choice.specs.declared.roles.Second.{Second}
use Rattle.zone_choice.specs.declared.roles.Second.TheVariants.{Destination, Next}
use Rattle.zone_choice.specs.Agreement.{MountedView, mounted_array}
use Rattle.drive_array.specs.ZoneLogs.{drive_logs, log_at}
use Rattle.drive_array.specs.Reserve.{batch_most}
use Rattle.zone_choice.specs.Roles.{empty_count}
use Rattle.drive_array.specs.Records.{without}
use Rattle.drive_array.specs.Sizes.{larger, log_greatest, map_of}
use Rattle.drive_array.specs.Spare.{IsBefore, IsMoveFrom, IsSpare, first_sequence}
use Rattle.zone_choice.specs.Tables.{TablesView, size_of}
use Rattle.zone_cleaner.specs.declared.moved.Moved.{Moved}
use Rattle.zone_cleaner.specs.LiveRecords.{LiveRecord, records_in, without_all}
use Rattle.zone_choice.specs.Roles.{is_sealed_at}

-- What a running clean knows: its victim; the first block that it has not looked at yet; the records gathered for the
-- next Move, of blocks before that one; and what was moved so far, with its place in the victim.
pub record CleanView : Type 0 where
  pub victim : ℕ
  pub cursor : ℕ
  pub gathered : List LiveRecord
  pub moved : List Moved

-- ---- what is left to do

-- how many blocks are written to the destination
abbrev pub destination_written : Option Second → ℕ
destination_written (Some (Destination filling)) = filling.written
destination_written second = 0

-- one Move is written in any case
abbrev pub moves_due : ℕ → ℕ
moves_due zero = 1
moves_due (suc written) = 0

-- how many live records of the victim were not taken yet
abbrev pub untaken : TablesView → CleanView → ℕ
untaken tables clean = count_by (lies_in tables.map.zone_size clean.victim) (drop clean.cursor tables.map.places)

-- how many Moves are left, of that many records at most
abbrev pub moves_left : ℕ → TablesView → CleanView → ℕ
moves_left most tables clean = max (moves_due (destination_written tables.roles.second)) (div_ceil (live tables.map clean.victim) most)

-- how many turns are left: one for each record to take and for each Move, and the last
abbrev pub turns_left : ℕ → TablesView → Option CleanView → ℕ
turns_left most tables None = 0
turns_left most tables (Some clean) = untaken tables clean + moves_left most tables clean + 1

-- how many are left of the clean of a disk
abbrev pub turns_of : MountedView → Option CleanView → ℕ
turns_of disk clean = turns_left (batch_most disk.drive.geometry) disk.tables clean

-- how many are left of the clean that runs, or at most of one that is started
abbrev pub turns_due : MountedView → Option CleanView → ℕ
turns_due disk None = disk.drive.geometry.capacity - 1
turns_due disk (Some clean) = turns_left (batch_most disk.drive.geometry) disk.tables (Some clean)

-- ---- what holds between two turns

-- The gathered records are the live records of the victim, of all blocks before the cursor: no more than one Move takes.
pub record Gathers (disk : MountedView) (clean : CleanView) : Type 0 where
  pub within : clean.cursor ≤ size_of disk.tables
  pub few : length clean.gathered ≤ batch_most disk.drive.geometry
  pub gathered : clean.gathered ≡ records_in (mounted_array disk) disk.tables.map.zone_size clean.victim 0 (take clean.cursor disk.tables.map.places)

-- a zone's first batch is older than another's, whose batches say no smaller size; a zone without a batch says nothing yet
abbrev pub Follows : List Batch → List Batch → Type 0
Follows old [] = Unit {0}
Follows old (batch ∷ log) =
    IsBefore (first_sequence old) (first_sequence (batch ∷ log)) × (larger (log_greatest old) (log_greatest (batch ∷ log)) ≡ log_greatest (batch ∷ log))

-- All batches of the destination are Moves from the victim, and come after its batches. Without them the array is the
-- same: so a mount can empty the destination at any moment of a clean.
pub record AreMoves (block_bytes n : ℕ) (logs : List (List Batch)) (victim destination : ℕ) : Type 0 where
  pub moves : AllByRecursion (IsMoveFrom victim) (log_at logs destination)
  pub follows : Follows (log_at logs victim) (log_at logs destination)
  pub spare : IsSpare block_bytes n logs destination

-- whether the newest record of a block is a trim, by its place
abbrev pub trims : Place → Option Bool
trims places.None = None
trims (places.Trimmed address) = Some true
trims (places.At address) = Some false

-- where a block is, by these places
abbrev pub place_among : List Place → ℕ → Place
place_among all block = slice_index_or all block places.None

-- whether a block's newest record is in a zone
abbrev pub is_in : TablesView → ℕ → ℕ → Bool
is_in tables zone block = lies_in tables.map.zone_size zone (place_among tables.map.places block)

-- where the blocks are without a zone's batches
abbrev pub places_without : MountedView → ℕ → List Place
places_without disk zone = map_of disk.drive.geometry.size disk.tables.given (without (drive_logs disk.drive) zone)

-- What was moved is known, with its place before: of each block that is in the destination, the place that it has without
-- the destination's batches. None is in the victim again.
pub record CanUndo (disk : MountedView) (clean : CleanView) (destination : ℕ) : Type 0 where
  pub all : (block : ℕ) → is_in disk.tables destination block ≡ true → list_any (λ (m : Moved). m.block == block) clean.moved ≡ true
  pub each : AllByRecursion
      (λ (m : Moved). is_in disk.tables destination m.block ≡ true → (place_among (places_without disk destination) m.block ≡ m.place)
      × (trims m.place ≡ trims (place_among disk.tables.map.places m.block))) clean.moved
  pub away : AllByRecursion (λ (m : Moved). is_in disk.tables clean.victim m.block ≡ false) clean.moved

-- with all records that are left, and a header for each Move, two blocks of the destination stay free
abbrev pub HasRoomFor : ℕ → ℕ → ℕ → ℕ → Type 0
HasRoomFor capacity most written records = written + max (moves_due written) (records + div_ceil records most) + 2 ≤ capacity

-- by the tables, a Move of the gathered records may be sent to the destination
pub record HasRoomForMove (geometry : Geometry) (tables : TablesView) (clean : CleanView) (destination : Filling) : Type 0 where
  pub second : tables.roles.second ≡ Some (Destination destination)
  pub some : 1 ≤ size_of tables
  pub few : length clean.gathered ≤ batch_most geometry
  pub room : destination.written + length clean.gathered + 1 ≤ geometry.capacity

abbrev pub is_placed : Place → Bool
is_placed places.None = false
is_placed (places.Trimmed address) = true
is_placed (places.At address) = true

-- a block is the disk's, and is at some place
abbrev pub has_place : TablesView → ℕ → Bool
has_place tables block = nat_lt block (size_of tables) && is_placed (slice_index_or tables.map.places block places.None)

-- a clean runs: its victim is sealed, and the second zone is its destination
pub record IsClean (disk : MountedView) (clean : CleanView) : Type 0 where
  pub destination : Filling
  pub second : disk.tables.roles.second ≡ Some (Destination destination)
  pub victim : is_sealed_at disk.tables.roles clean.victim ≡ true
  pub gathers : Gathers disk clean
  pub room : HasRoomFor disk.drive.geometry.capacity (batch_most disk.drive.geometry) destination.written (live disk.tables.map clean.victim)
  pub moves : AreMoves disk.drive.geometry.block disk.tables.given (drive_logs disk.drive) clean.victim destination.zone
  pub undo : CanUndo disk clean destination.zone

-- there is no destination, and the next zone, if any, has two free blocks
abbrev pub HasNoDestination : ℕ → Option Second → Type 0
HasNoDestination capacity None = Unit {0}
HasNoDestination capacity (Some (Next filling)) = filling.written + 2 ≤ capacity
HasNoDestination capacity (Some (Destination filling)) = ⊥

-- a clean runs; or none does, a zone is kept empty, and there is no destination
abbrev pub Cleans : MountedView → Option CleanView → Type 0
Cleans disk None = (1 ≤ empty_count disk.tables.roles) × HasNoDestination disk.drive.geometry.capacity disk.tables.roles.second
Cleans disk (Some clean) = IsClean disk clean

-- a clean that was just started
abbrev pub started : ℕ → CleanView
started victim = record { victim = victim; cursor = 0; gathered = []; moved = [] }

-- a clean that has forgotten the blocks that a batch names
abbrev pub forgotten : List Entry → CleanView → CleanView
forgotten entries clean = record { victim = clean.victim; cursor = clean.cursor; gathered = without_all entries clean.gathered; moved = clean.moved }
