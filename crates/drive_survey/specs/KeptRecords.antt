-- The records of a zone's batches, read from the headers that are kept: all but their data.
use Rattle.std.specs.Prelude.{ℕ, suc, ◌+◌, ◌-◌, ◌^◌, nat_le, if◌then◌else◌, Bool, true, false, List, [], ◌∷◌, ◌++◌, take, drop, Option, Some, None}
use Rattle.batch_log.specs.Log.{one_unless}
use Rattle.drive_array.specs.Records.{Record, entry_offset}
use Rattle.drive_survey.specs.declared.heads.Head.{Head}
use Rattle.drive_survey.specs.declared.records.KeptRecord.{KeptRecord}
use Rattle.drive_survey.specs.Heads.{HeadsView}

-- an entry that is kept: bit 31 for a trim, and below it the block
abbrev pub is_kept_trim : ℕ → Bool
is_kept_trim entry = nat_le (2 ^ 31) entry

abbrev pub block_of_kept : ℕ → ℕ
block_of_kept entry = if nat_le (2 ^ 31) entry then entry - 2 ^ 31 else entry

abbrev pub entry_record : ℕ → ℕ → ℕ → ℕ → ℕ → KeptRecord
entry_record sequence zone header k entry =
    record { block = block_of_kept entry; sequence = sequence; zone = zone; offset = entry_offset (is_kept_trim entry) header k; trim = is_kept_trim entry }

-- of these entries of a batch, where k data blocks belong to the entries before them
abbrev pub kept_entries : ℕ → ℕ → ℕ → ℕ → List ℕ → List KeptRecord
kept_entries sequence zone header k [] = []
kept_entries sequence zone header k (entry ∷ entries) =
    entry_record sequence zone header k entry ∷ kept_entries sequence zone header (k + one_unless (is_kept_trim entry)) entries

-- of these batches of a zone, whose entries follow the first ones, as many as `from`
abbrev pub kept_batches : ℕ → ℕ → List Head → List ℕ → List KeptRecord
kept_batches zone from [] entries = []
kept_batches zone from (head ∷ heads) entries =
    kept_entries head.sequence zone head.offset 0 (take (head.end - from) entries) ++ kept_batches zone head.end heads (drop (head.end - from) entries)

-- of a zone's batches
abbrev pub kept_of_zone : ℕ → HeadsView → List KeptRecord
kept_of_zone zone view = kept_batches zone 0 view.heads view.entries

-- of the batches of all zones: `zone` is the number of the first
abbrev pub kept_records : ℕ → List HeadsView → List KeptRecord
kept_records zone [] = []
kept_records zone (view ∷ views) = kept_of_zone zone view ++ kept_records (suc zone) views

-- ---- a record as it is kept

abbrev pub is_absent : Option (List ℕ) → Bool
is_absent None = true
is_absent (Some bytes) = false

abbrev pub kept_record : Record → KeptRecord
kept_record r = record { block = r.block; sequence = r.sequence; zone = r.zone; offset = r.offset; trim = is_absent r.content }
