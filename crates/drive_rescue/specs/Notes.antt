-- The table of the newest records: of each block the sequence, and where its data is.
use Rattle.std.specs.Prelude.{◌≡◌, ℕ, ◌<◌, ◌^◌, nat_le, Bool, false, List, Option, Some, None, is_none, slice_index_or}
use Rattle.std.specs.Option.{option_map}
use Rattle.drive_array.specs.Records.{Record, newest}
use Rattle.drive_rescue.specs.declared.table.Slot.{Slot}

-- a record without its block and its data
abbrev pub slot_of : Record → Slot
slot_of r = record { sequence = r.sequence; zone = r.zone; offset = r.offset; trim = is_none r.content }

abbrev pub slot_at : List (Option Slot) → ℕ → Option Slot
slot_at table block = slice_index_or table block None

-- The table has the newest of these records of each block that a disk can have.
abbrev pub Notes : List Record → List (Option Slot) → Type 0
Notes rs table = (block : ℕ) → block < 2 ^ 31 → slot_at table block ≡ option_map slot_of (newest block rs)

-- a slot has a record that is as new as this one
abbrev pub is_as_new : Option Slot → Slot → Bool
is_as_new None found = false
is_as_new (Some taken) found = nat_le found.sequence taken.sequence
