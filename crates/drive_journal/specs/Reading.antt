-- What reading one part of a file does to the bytes that a reader has left, where those are known.
use Rattle.std.specs.Prelude.{◌≡◌, ℕ, ◌+◌, true, false, List, [], ◌++◌, length, take, Option, IfSome, IsTrue, ◌↔◌}
use Rattle.std.specs.List.{AllByRecursion}
use Rattle.std.specs.Io.KnownBytes.{Consumes}
use Rattle.zone_states.specs.declared.geometry.Geometry.{Geometry}
use Rattle.zone_states.specs.Stored.{StoredZone}
use Rattle.zone_states.specs.Zone.{Zone}
use Rattle.drive_journal.specs.Change.{Change, HasNoChange, IsChange, IsEntry, Sum, change_bytes, earlier_mark}
use Rattle.drive_journal.specs.Change.{journal_bytes, last_sum, mark, next_sum, sealed_entry, start, sum_bytes}
use Rattle.drive_journal.specs.Change.{sum_over}
use Rattle.drive_journal.specs.Replay.{replayed, stored_replayed}
use Rattle.drive_journal.specs.Tail.{IsCutOff, begins_as_mark}
use Rattle.drive_journal.specs.declared.found.Found.{Found}
use Rattle.drive_journal.specs.declared.found.Found.TheVariants as found
use Rattle.drive_journal.specs.declared.replayed.Replayed.{Replayed}

-- Changes were read, and done again on the zones. What is left is a change that was cut off, or nothing.
pub record Replays (geometry : Geometry) (old : Option (List ℕ)) (from : ℕ) (before : List Zone) (end : Replayed)
    (after : List Zone) : Type 0 where
  pub changes : List Change
  pub left : Option (List ℕ)
  pub each : AllByRecursion (IsChange geometry) changes
  pub text : Consumes old left (journal_bytes start changes)
  pub cut_off : IfSome left (IsCutOff geometry (last_sum start changes))
  pub is_all : IfSome left (λ rest. IsTrue end.is_all ↔ (rest ≡ []))
  pub zones : after ≡ replayed geometry before changes
  pub end_is : end.whole ≡ from + length (journal_bytes start changes)
  pub sum_is : end.sum ≡ last_sum start changes

-- ---- one change

-- a change was read, which goes on from one sum to the next
pub record ReadsChange (geometry : Geometry) (sum : Sum) (old new : Option (List ℕ)) (change : Change)
    (next : Sum) : Type 0 where
  pub is : IsChange geometry change
  pub text : Consumes old new (change_bytes sum change)
  pub next_is : next ≡ next_sum sum change

-- what follows its mark was read
pub record ReadsBody (geometry : Geometry) (sum : Sum) (old new : Option (List ℕ)) (change : Change)
    (next : Sum) : Type 0 where
  pub is : IsChange geometry change
  pub text : Consumes old new (sealed_entry sum change.entry ++ (change.bytes ++ sum_bytes (next_sum sum change)))
  pub next_is : next ≡ next_sum sum change

-- a change begins here, and it is damaged
pub record IsDamaged (geometry : Geometry) (sum : Sum) (bytes : List ℕ) : Type 0 where
  pub begins : begins_as_mark bytes ≡ true
  pub none : HasNoChange geometry sum bytes
  pub not_cut : IsCutOff geometry sum bytes → ⊥

-- what was found where a change may be
abbrev pub FindsChange : Geometry → Sum → Option (List ℕ) → Option (List ℕ) → Change → Found → Type 0
FindsChange geometry sum old new change (found.Change next) = ReadsChange geometry sum old new change next
FindsChange geometry sum old new change found.End = IfSome old (λ bytes. bytes ≡ [])
FindsChange geometry sum old new change found.CutOff =
    IfSome old (λ bytes. IsCutOff geometry sum bytes × (bytes ≡ [] → ⊥))
FindsChange geometry sum old new change found.Damaged = IfSome old (IsDamaged geometry sum)
FindsChange geometry sum old new change found.Earlier = IfSome old (λ bytes. take 8 bytes ≡ earlier_mark)
FindsChange geometry sum old new change found.Other =
    IfSome old (λ bytes. (begins_as_mark bytes ≡ false) × (take 8 bytes ≡ earlier_mark → ⊥))

-- the same after a mark
abbrev pub FindsBody : Geometry → Sum → Option (List ℕ) → Option (List ℕ) → Change → Found → Type 0
FindsBody geometry sum old new change (found.Change next) = ReadsBody geometry sum old new change next
FindsBody geometry sum old new change found.CutOff = IfSome old (λ bytes. IsCutOff geometry sum (mark ++ bytes))
FindsBody geometry sum old new change found.Damaged = IfSome old (λ bytes. IsDamaged geometry sum (mark ++ bytes))
FindsBody geometry sum old new change found = ⊥

-- an entry of a change, and the sum after it
pub record IsSealedEntry (geometry : Geometry) (sum : Sum) (entry sealed : List ℕ) : Type 0 where
  pub is : IsEntry geometry entry
  pub sum_is : sealed ≡ sum_bytes (sum_over sum entry)

-- no byte is left after a change with a wrong sum, or some are
abbrev pub FindsEnd : Option (List ℕ) → Found → Type 0
FindsEnd old found.CutOff = IfSome old (λ bytes. bytes ≡ [])
FindsEnd old found.Damaged = IfSome old (λ bytes. bytes ≡ [] → ⊥)
FindsEnd old found = ⊥

-- what the first bytes are, up to 8, that are no front of the mark
abbrev pub IsOther : List ℕ → Found → Type 0
IsOther front found.Earlier = front ≡ earlier_mark
IsOther front found.Other = front ≡ earlier_mark → ⊥
IsOther front found = ⊥

-- ---- all changes

-- changes were read and done on the zones as they are stored, and more may follow
pub record SoFar (geometry : Geometry) (old new : Option (List ℕ)) (before after : List StoredZone) (from at : ℕ)
    (sum : Sum) : Type 0 where
  pub changes : List Change
  pub each : AllByRecursion (IsChange geometry) changes
  pub text : Consumes old new (journal_bytes start changes)
  pub zones : after ≡ stored_replayed geometry before changes
  pub at_is : at ≡ from + length (journal_bytes start changes)
  pub sum_is : sum ≡ last_sum start changes
