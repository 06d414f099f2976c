-- Why a file is not opened as a drive.
use Rattle.std.specs.Prelude.{◌≡◌, ◌≢◌, ◌⊎◌, ℕ, ◌-◌, ◌%◌, ◌^◌, ◌<◌, List, length, map, min, slice_index, Some, ⊤}
use Rattle.zone_states.specs.declared.geometry.Geometry.{Geometry}
use Rattle.zone_states.specs.Checks.{first_failing}
use Rattle.zone_states.specs.Geometry.{IsInRange, geometry_checks}
use Rattle.file_drive.specs.Head.{magic, shape_words}
use Rattle.file_drive.specs.InFile.{entry_at}
use Rattle.file_drive.specs.Layout.{at_table, file_length, word_in}
use Rattle.file_drive.specs.Opening.{AreFew, Holds, IsWord}
use Rattle.file_drive.specs.Tables.{entry_of, flushed_table, words_in}
use Rattle.file_drive.specs.declared.entry.Entry.{Entry}
use Rattle.file_drive.specs.declared.fault.OpenFault.{OpenFault}
use Rattle.file_drive.specs.declared.fault.OpenFault.TheVariants as faults

-- a read may fail, or memory be missing
abbrev pub IsReadFault : OpenFault → Type 0
IsReadFault (faults.Input error) = ⊤
IsReadFault faults.OutOfMemory = ⊤
IsReadFault fault = ⊥

-- a sync failed
abbrev pub IsUnsynced : OpenFault → Type 0
IsUnsynced (faults.Unsynced error) = ⊤
IsUnsynced fault = ⊥

-- a read, a write or a sync may fail, or memory be missing
abbrev pub IsCallFault : OpenFault → Type 0
IsCallFault fault = IsUnsynced fault ⊎ IsReadFault fault

-- a word as a number of 32 bits: the largest of them where it is larger
abbrev pub narrow : ℕ → ℕ
narrow word = min word (2 ^ 32 - 1)

-- the shape that the words of a head say
abbrev pub shape_said : List ℕ → Geometry
shape_said words = record {
  block = narrow (slice_index words 1);
  zones = narrow (slice_index words 2);
  size = narrow (slice_index words 3);
  capacity = narrow (slice_index words 4);
  transfer = narrow (slice_index words 5);
  active = narrow (slice_index words 6);
  «open» = narrow (slice_index words 7);
}

abbrev pub shape_in : List ℕ → Geometry
shape_in file = shape_said (words_in file 0 10)

-- the first six bytes of a word
abbrev pub name_of : ℕ → ℕ
name_of word = word % 2 ^ 48

-- a first word of no drive, or of another version
abbrev pub IsMagicFault : ℕ → OpenFault → Type 0
IsMagicFault word faults.NotADrive = name_of word ≢ name_of magic
IsMagicFault word faults.Version = (name_of word ≡ name_of magic) × (word ≢ magic)
IsMagicFault word fault = ⊥

-- a length that a drive of this shape has not; the length that it has is told
abbrev pub IsLengthFault : Geometry → ℕ → OpenFault → Type 0
IsLengthFault geometry long (faults.Short wanted) = (wanted ≡ file_length geometry) × (long < file_length geometry)
IsLengthFault geometry long (faults.Long wanted) = (wanted ≡ file_length geometry) × (file_length geometry < long)
IsLengthFault geometry long fault = ⊥

-- Why a head is no drive's. The shape is looked at after the magic, and the length after the shape.
abbrev pub IsHeadFault : List ℕ → OpenFault → Type 0
IsHeadFault file (faults.Geometry fault) = (word_in file 0 ≡ magic) × (first_failing (geometry_checks (shape_in file)) ≡ Some fault)
IsHeadFault file fault =
    (length file < 80) × (fault ≡ faults.NotADrive)
    ⊎ IsMagicFault (word_in file 0) fault
    ⊎ (word_in file 0 ≡ magic) × IsInRange (shape_in file) × IsLengthFault (shape_in file) (length file) fault
    ⊎ IsReadFault fault

-- a word that a table may not have
abbrev pub IsWordFault : Geometry → List ℕ → OpenFault → Type 0
IsWordFault geometry words (faults.Table number) = (number < length words) × ¬ IsWord geometry (slice_index words number)
IsWordFault geometry words fault = ⊥

-- a zone that holds more blocks than its state allows
abbrev pub IsEntryFault : Geometry → List Entry → OpenFault → Type 0
IsEntryFault geometry entries (faults.Table number) = (number < length entries) × ¬ Holds geometry (entry_at entries number)
IsEntryFault geometry entries fault = ⊥

-- words that are no table of a drive of this shape
abbrev pub IsTableFault : Geometry → List ℕ → OpenFault → Type 0
IsTableFault geometry words (faults.Table number) =
    IsWordFault geometry words (faults.Table number) ⊎ IsEntryFault geometry (map entry_of words) (faults.Table number)
IsTableFault geometry words faults.Limits = ¬ AreFew geometry (map entry_of words)
IsTableFault geometry words faults.OutOfMemory = ⊤
IsTableFault geometry words fault = ⊥

-- what is wrong with the table of the last flush
abbrev pub AreTableFaults : List ℕ → OpenFault → Type 0
AreTableFaults file fault =
    (geometry : Geometry) × (words_in file 0 8 ≡ shape_words geometry)
    × IsTableFault geometry (words_in file (at_table geometry (flushed_table file)) geometry.zones) fault

-- why a system does not open a file, whatever its boot
abbrev pub IsOpenFault : List ℕ → OpenFault → Type 0
IsOpenFault file (faults.Table number) = AreTableFaults file (faults.Table number)
IsOpenFault file faults.Limits = AreTableFaults file faults.Limits
IsOpenFault file fault = IsHeadFault file fault
