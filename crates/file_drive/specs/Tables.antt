-- What the tables of a file say of its zones.
use Rattle.std.specs.Prelude.{ℕ, zero, suc, ◌+◌, ◌*◌, ◌/◌, ◌%◌, ◌^◌, ◌==◌, not, Bool, if◌then◌else◌, List, [], ◌∷◌, map, Option, Some, None, Result, Ok, Err}
use Rattle.std.specs.Option.{unwrap_or}
use Rattle.nvme_wire.specs.Descriptor.{state_code, state_of}
use Rattle.nvme_wire.specs.declared.command.Action.{Action}
use Rattle.nvme_wire.specs.declared.command.Action.TheVariants as actions
use Rattle.nvme_wire.specs.declared.status.Status.{Status}
use Rattle.nvme_wire.specs.declared.zone_state.ZoneState.{ZoneState}
use Rattle.nvme_wire.specs.declared.zone_state.ZoneState.TheVariants.{Empty, Full, Offline}
use Rattle.zone_states.specs.declared.geometry.Geometry.{Geometry}
use Rattle.zone_states.specs.Stored.{StoredZone}
use Rattle.zone_states.specs.Transition.{state_after}
use Rattle.zone_states.specs.Zone.{opened_by_write}
use Rattle.drive_port.specs.Run.{restarted_state}
use Rattle.drive_port.specs.Step.{is_selected, one_if}
use Rattle.file_drive.specs.Layout.{at_flushed, at_live, at_table, at_place, part, word_in}
use Rattle.file_drive.specs.declared.entry.Entry.{Entry}

-- ---- words

-- The number of a state in a table: the standard's, but 0 for an empty zone, so that a table of zeros has only these.
abbrev pub table_code : ZoneState → ℕ
table_code Empty = 0
table_code state = state_code state

-- the state with a number in a table; a number without a state is taken for Offline
abbrev pub state_from : ℕ → ZoneState
state_from zero = Empty
state_from code = unwrap_or (state_of code) Offline

-- the word of a zone: its sum, its state as a restart leaves it, whether it is in its second place, and its written blocks
abbrev pub word_of : Entry → ℕ
word_of entry = ((entry.sum % 2 ^ 27 * 16 + table_code (restarted_state entry.state)) * 2 + one_if entry.second) * 2 ^ 32 + entry.written

-- what a word says
abbrev pub entry_of : ℕ → Entry
entry_of word = record {
  state = state_from (word / 2 ^ 33 % 16);
  written = word % 2 ^ 32;
  second = word / 2 ^ 32 % 2 == 1;
  sum = word / 2 ^ 37 % 2 ^ 27;
}

-- the words of a table
abbrev pub words_in : List ℕ → ℕ → ℕ → List ℕ
words_in file at zero = []
words_in file at (suc count) = word_in file at ∷ words_in file (at + 8) count

-- ---- zones

-- the place of the zone with a number: the first or the second of its two
abbrev pub place_of : ℕ → Entry → ℕ
place_of number entry = 2 * number + one_if entry.second

-- a zone with a number has the blocks that are counted, and no more, whatever the file holds after them
abbrev pub zone_in : Geometry → List ℕ → ℕ → Entry → StoredZone
zone_in geometry file number entry =
    record { state = entry.state; bytes = part file (at_place geometry (place_of number entry)) (entry.written * geometry.block) }

-- the zones of these entries, the first of them with a number
abbrev pub zones_in : Geometry → List ℕ → ℕ → List Entry → List StoredZone
zones_in geometry file number [] = []
zones_in geometry file number (entry ∷ entries) = zone_in geometry file number entry ∷ zones_in geometry file (number + 1) entries

-- the zones as a table says
abbrev pub zones_by : Geometry → List ℕ → ℕ → List StoredZone
zones_by geometry file table = zones_in geometry file 0 (map entry_of (words_in file (at_table geometry table) geometry.zones))

-- The table after each command: one of the first two, by its word.
abbrev pub live_table : List ℕ → ℕ
live_table file = word_in file at_live % 2

-- The table of the last flush: one of the other two, by its word.
abbrev pub flushed_table : List ℕ → ℕ
flushed_table file = 2 + word_in file at_flushed % 2

-- what an open finds after a loss of power
abbrev pub flushed_zones : Geometry → List ℕ → List StoredZone
flushed_zones geometry file = zones_by geometry file (flushed_table file)

-- ---- actions

-- what an action leaves of a zone: a Reset leaves no block
abbrev pub written_after : Action → ℕ → ℕ
written_after actions.Reset written = 0
written_after action written = written

-- The sum of a zone after an action. A Reset leaves that of the last flush: no block was written since.
abbrev pub sum_left : Action → Entry → Entry → ℕ
sum_left actions.Reset flushed entry = flushed.sum
sum_left action flushed entry = entry.sum

-- Which place a zone is in after an action. A Reset leaves the place where the last flush has blocks of the zone.
abbrev pub second_after : Action → Entry → Entry → Bool
second_after actions.Reset flushed entry = if flushed.written == 0 then entry.second else not flushed.second
second_after action flushed entry = entry.second

abbrev pub entry_after : Action → Entry → Entry → Result ZoneState Status → Entry
entry_after action flushed entry (Ok state) = record {
  state = state;
  written = written_after action entry.written;
  second = second_after action flushed entry;
  sum = sum_left action flushed entry;
}
entry_after action flushed entry (Err status) = entry

-- an action on one zone, of which the last flush says this
abbrev pub acted : Action → Entry → Entry → Entry
acted action flushed entry = entry_after action flushed entry (state_after entry.state action)

-- an action on all zones
abbrev pub sent_entry : Action → Entry → Entry → Entry
sent_entry action flushed entry = if is_selected action entry.state then acted action flushed entry else entry

-- what an action on all zones leaves, if there is one
abbrev pub next_entry : Option Action → Entry → Entry → Entry
next_entry None flushed entry = entry
next_entry (Some action) flushed entry = sent_entry action flushed entry

-- the same of these zones, of which the last flush has these words
abbrev pub next_entries : Option Action → List ℕ → List Entry → List Entry
next_entries action [] entries = entries
next_entries action (word ∷ words) [] = []
next_entries action (word ∷ words) (entry ∷ entries) = next_entry action (entry_of word) entry ∷ next_entries action words entries

-- a zone of which more blocks are written, with the sum that it has then
abbrev pub appended : Geometry → Entry → ℕ → ℕ → Entry
appended geometry entry blocks sum =
    let written = entry.written + blocks in
    record { state = if written == geometry.capacity then Full else opened_by_write entry.state; written = written; second = entry.second; sum = sum }
