-- The records of some blocks, each found by its block and its sequence.
use Rattle.std.specs.Prelude.{◌≡◌, ◌≢◌, ◌≤◌, ◌++◌, ℕ, ◌==◌, ◌&&◌, if◌then◌else◌, List, [], ◌∷◌, Option, Some, None, IsSome, Contains, Vec}
use Rattle.std.specs.declared.alloc.Global.{Global}
use Rattle.std.specs.BTreeMap.{BTreeMap, get, IsEmpty}
use Rattle.std.specs.List.{AllByRecursion}
use Rattle.std.specs.Option.{option_map}
use Rattle.std.specs.Ordering.{nat_cmp}
use Rattle.batch_log.specs.Log.{Batch}
use Rattle.drive_array.specs.Records.{Record, records}
use Rattle.drive_survey.specs.declared.records.KeptRecord.{KeptRecord}
use Rattle.drive_survey.specs.declared.clearing.block_records.BlockRecords.{BlockRecords}
use Rattle.drive_survey.specs.Heads.{HeadsView}
use Rattle.drive_survey.specs.KeptRecords.{kept_of_zone, kept_record}
use Rattle.drive_survey.specs.NewestRecords.{AreNewest, AreNewestOfAll}

-- what a table holds of a block
abbrev pub held_of : BlockRecords → ℕ → Option (BTreeMap ℕ KeptRecord)
held_of table block = get nat_cmp table.blocks block

-- it holds the blocks of these records
abbrev pub HoldsEach : BlockRecords → List KeptRecord → Type 0
HoldsEach table own = AllByRecursion (λ (r : KeptRecord). IsSome (held_of table r.block)) own

-- these records, where there are some
abbrev pub own_list : Option (Vec KeptRecord Global) → List KeptRecord
own_list None = []
own_list (Some own) = own.items

-- those of a zone that are kept
abbrev pub own_of : BlockRecords → ℕ → List KeptRecord
own_of table zone = own_list (get nat_cmp table.own zone)

-- it has no record yet
abbrev pub HasNoRecord : BlockRecords → Type 0
HasNoRecord table = (block : ℕ) (held : BTreeMap ℕ KeptRecord) → held_of table block ≡ Some held → IsEmpty held

-- no record of a block is newer than this one in its zone
abbrev pub IsNewestInZone : List (List Batch) → Record → Type 0
IsNewestInZone logs r =
    (s : Record) → Contains (records 0 logs) s → s.block ≡ r.block → s.zone ≡ r.zone → s.sequence ≤ r.sequence

-- What is held of a block are its records in these logs that are the newest of their zones, each by its sequence.
pub record AreRecords (logs : List (List Batch)) (block : ℕ) (held : BTreeMap ℕ KeptRecord) : Type 0 where
  pub all_held : (r : Record) → Contains (records 0 logs) r → r.block ≡ block → IsNewestInZone logs r
      → get nat_cmp held r.sequence ≡ Some (kept_record r)
  pub no_other : (sequence : ℕ) (found : KeptRecord) → get nat_cmp held sequence ≡ Some found
      → (r : Record) × Contains (records 0 logs) r × (r.block ≡ block) × (r.sequence ≡ sequence) × (kept_record r ≡ found) × IsNewestInZone logs r

-- and so of all blocks that a table holds
abbrev pub HoldsRecords : List (List Batch) → BlockRecords → Type 0
HoldsRecords logs table = (block : ℕ) (held : BTreeMap ℕ KeptRecord) → held_of table block ≡ Some held → AreRecords logs block held

-- the blocks that a table holds are held by another one too
abbrev pub HoldsMore : BlockRecords → BlockRecords → Type 0
HoldsMore old new = (block : ℕ) → IsSome (held_of old block) → IsSome (held_of new block)

-- ---- a table changes

-- what these blocks have at a sequence, where the block is among them
abbrev pub slot_in : BTreeMap ℕ (BTreeMap ℕ KeptRecord) → ℕ → ℕ → Option (Option KeptRecord)
slot_in blocks block sequence = option_map (λ (held : BTreeMap ℕ KeptRecord). get nat_cmp held sequence) (get nat_cmp blocks block)

abbrev pub slot_of : BlockRecords → ℕ → ℕ → Option (Option KeptRecord)
slot_of table block sequence = slot_in table.blocks block sequence

-- what is there after these records were put in, or taken out, by what `put` makes of a record
abbrev pub slot_after : (KeptRecord → Option KeptRecord) → ℕ → ℕ → Option (Option KeptRecord) → List KeptRecord → Option (Option KeptRecord)
slot_after put block sequence slot [] = slot
slot_after put block sequence slot (r ∷ rs) =
    slot_after put block sequence (option_map (λ (found : Option KeptRecord). if r.block == block && r.sequence == sequence then put r else found) slot) rs

-- a record is put in
abbrev pub notes : KeptRecord → Option KeptRecord
notes r = Some r

-- the newest record of each block of a zone was put in
abbrev pub NotesZone : ℕ → HeadsView → BlockRecords → BlockRecords → Type 0
NotesZone zone view old new =
    (own : List KeptRecord) × AreNewest (kept_of_zone zone view) own
    × ((block sequence : ℕ) → slot_of new block sequence ≡ slot_after notes block sequence (slot_of old block sequence) own)

-- and that of each block of each zone
abbrev pub NotesNewest : List HeadsView → BlockRecords → BlockRecords → Type 0
NotesNewest views old new =
    (all : List KeptRecord) × AreNewestOfAll 0 views all
    × ((block sequence : ℕ) → slot_of new block sequence ≡ slot_after notes block sequence (slot_of old block sequence) all)

-- a record is taken out
abbrev pub forgets : KeptRecord → Option KeptRecord
forgets r = None

-- ---- the last record outside a zone

-- The entries of a block up to some sequence, where all that follow are in a zone.
pub record OthersIn (held : BTreeMap ℕ KeptRecord) (zone : ℕ) (rest : List (ℕ × KeptRecord)) : Type 0 where
  pub after : List (ℕ × KeptRecord)
  pub split : held.entries ≡ rest ++ after
  pub inside : AllByRecursion (λ (e : ℕ × KeptRecord). e.1.zone ≡ zone) after

-- the last one outside a zone, or that all are in it
abbrev pub IsLastOutside : BTreeMap ℕ KeptRecord → ℕ → Option KeptRecord → Type 0
IsLastOutside held zone None = OthersIn held zone []
IsLastOutside held zone (Some found) =
    (front : List (ℕ × KeptRecord)) × (sequence : ℕ) × (found.zone ≢ zone) × OthersIn held zone (front ++ (sequence, found) ∷ [])
