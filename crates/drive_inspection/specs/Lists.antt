-- The faults of a drive in lists, by what was read of each zone.
use Rattle.std.specs.Prelude.{ℕ, ◌+◌, ◌==◌, ◌&&◌, not, nat_le, Bool, true, false, List, [], ◌∷◌, ◌++◌, Option, None}
use Rattle.std.specs.List.{list_any}
use Rattle.std.specs.Ordering.{nat_cmp}
use Rattle.std.specs.BTreeSet.{insert_key}
use Rattle.std.specs.BTreeMap.{is_at}
use Rattle.drive_port.specs.Contents.{Content, is_usable, usage_of}
use Rattle.drive_array.specs.Sizes.{larger, size_or}
use Rattle.drive_survey.specs.declared.heads.Head.{Head}
use Rattle.drive_survey.specs.declared.reported.ReportedZone.{ReportedZone}
use Rattle.drive_inspection.specs.declared.finding.PastEnd.{PastEnd}
use Rattle.drive_inspection.specs.declared.finding.Repeat.{Repeat}
use Rattle.drive_inspection.specs.declared.finding.ZoneFault.{ZoneFault}
use Rattle.drive_inspection.specs.declared.reading.ZoneReading.{ZoneReading}
use Rattle.drive_inspection.specs.declared.reading.ZoneReading.TheVariants.{Log, Fault, Unread}

-- what a function finds of each element and its number, one after the other
abbrev pub found_from : {X Y : Type 0} → (ℕ → X → List Y) → ℕ → List X → List Y
found_from find number [] = []
found_from find number (x ∷ xs) = find number x ++ found_from find (number + 1) xs

abbrev pub found_in : {X Y : Type 0} → (ℕ → X → List Y) → List X → List Y
found_in find xs = found_from find 0 xs

abbrev pub listed_if : {Y : Type 0} → Bool → Y → List Y
listed_if true y = y ∷ []
listed_if false y = []

-- ---- of one zone

-- the zone is Read Only or Offline
abbrev pub unusable_at : ℕ → Content → List ℕ
unusable_at zone content = listed_if (not (is_usable content.usage)) zone

abbrev pub is_unusable : ReportedZone → Bool
is_unusable reported = not (is_usable (usage_of reported.state))

abbrev pub unusable_reported : ℕ → ReportedZone → List ℕ
unusable_reported zone reported = listed_if (is_unusable reported) zone

-- its batches have a fault
abbrev pub fault_at : ℕ → ZoneReading → List ZoneFault
fault_at zone (Fault fault) = record { zone = zone; fault = fault } ∷ []
fault_at zone read = []

-- the drive failed at a command in it
abbrev pub unread_at : ℕ → ZoneReading → List ℕ
unread_at zone Unread = zone ∷ []
unread_at zone read = []

-- it was read, and its batches have no fault
abbrev pub is_log : ZoneReading → Bool
is_log (Log scanned) = true
is_log read = false

-- it names a block that is not below the size
abbrev pub names_past : ℕ → List ℕ → ℕ → Bool
names_past size [] highest = false
names_past size (entry ∷ entries) highest = nat_le size highest

abbrev pub past_end_at : ℕ → ℕ → ZoneReading → List PastEnd
past_end_at size zone (Log scanned) =
    listed_if (names_past size scanned.heads.entries scanned.heads.highest) (record { zone = zone; block = scanned.heads.highest })
past_end_at size zone read = []

-- it has a batch, and a torn tail after its batches
abbrev pub torn_read_at : ℕ → ZoneReading → List ℕ
torn_read_at zone (Log scanned) = listed_if (scanned.is_torn && not (scanned.heads.blocks == 0)) zone
torn_read_at zone read = []

-- ---- of all zones

-- the greatest size that the headers say
abbrev pub size_of_read : ZoneReading → Option ℕ
size_of_read (Log scanned) = scanned.heads.size
size_of_read read = None

abbrev pub greatest_read : List ZoneReading → Option ℕ
greatest_read [] = None
greatest_read (read ∷ reads) = larger (size_of_read read) (greatest_read reads)

abbrev pub size_read : ℕ → List ZoneReading → ℕ
size_read n reads = size_or n (greatest_read reads)

-- the sequences of these headers that were met before, and those that were met after them
abbrev pub was_met : List ℕ → ℕ → Bool
was_met seen sequence = list_any (is_at (nat_cmp sequence)) seen

abbrev pub repeat_at : ℕ → List ℕ → ℕ → List Repeat
repeat_at zone seen sequence = listed_if (was_met seen sequence) (record { zone = zone; sequence = sequence })

abbrev pub repeats_of : ℕ → List ℕ → List Head → List Repeat
repeats_of zone seen [] = []
repeats_of zone seen (head ∷ heads) =
    repeat_at zone seen head.sequence ++ repeats_of zone (insert_key nat_cmp seen head.sequence) heads

abbrev pub met_with : List ℕ → List Head → List ℕ
met_with seen [] = seen
met_with seen (head ∷ heads) = met_with (insert_key nat_cmp seen head.sequence) heads

abbrev pub heads_read : ZoneReading → List Head
heads_read (Log scanned) = scanned.heads.heads
heads_read read = []

abbrev pub repeats_from : ℕ → List ℕ → List ZoneReading → List Repeat
repeats_from zone seen [] = []
repeats_from zone seen (read ∷ reads) =
    repeats_of zone seen (heads_read read) ++ repeats_from (zone + 1) (met_with seen (heads_read read)) reads
