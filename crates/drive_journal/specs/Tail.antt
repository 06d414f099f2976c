-- What may be after the last whole change of a file, and what is a fault.
use Rattle.std.specs.Prelude.{◌≡◌, ◌⊎◌, ℕ, ◌+◌, ◌<◌, ◌≤◌, nat_eq, Bool, true, false, List, ◌++◌, length, take}
use Rattle.std.specs.List.{starts_with}
use Rattle.zone_states.specs.declared.geometry.Geometry.{Geometry}
use Rattle.drive_journal.specs.Change.{HasNoChange, IsEntry, Sum, data_length, earlier_mark, head_bytes, mark}
use Rattle.drive_journal.specs.declared.fault.ReadFault.{ReadFault}
use Rattle.drive_journal.specs.declared.fault.ReadFault.TheVariants.{Damaged, Earlier, Long}

-- these bytes begin as the mark does, as far as there are bytes
abbrev pub begins_as_mark : List ℕ → Bool
begins_as_mark bytes = starts_with nat_eq mark (take 8 bytes)

-- ---- a change that was cut off

-- the head of a change that goes on from this sum is at the front
pub record HasHead (geometry : Geometry) (sum : Sum) (bytes : List ℕ) : Type 0 where
  pub entry : List ℕ
  pub rest : List ℕ
  pub is : IsEntry geometry entry
  pub text : bytes ≡ head_bytes sum entry ++ rest

-- a head, and no more bytes after it than its data and a sum
abbrev pub IsWithinChange : Geometry → Sum → List ℕ → Type 0
IsWithinChange geometry sum bytes =
    (head : HasHead geometry sum bytes) × (length head.rest ≤ data_length geometry head.entry + 8)

-- A change that was cut off, or nothing: no whole change is at the front, the bytes begin as one does,
-- and they are fewer than a head has, or no more than their own head says.
pub record IsCutOff (geometry : Geometry) (sum : Sum) (bytes : List ℕ) : Type 0 where
  pub none : HasNoChange geometry sum bytes
  pub begins : begins_as_mark bytes ≡ true
  pub short : (length bytes < 80) ⊎ IsWithinChange geometry sum bytes

-- ---- a fault

-- What is wrong with bytes at a place of a file, whose changes would begin at `from`, if no whole change is at their
-- front. Directly after the image come changes of the version before, or other bytes. All else that was not cut off is
-- damaged.
abbrev pub IsTailFault : Geometry → Sum → ℕ → ℕ → List ℕ → ReadFault → Type 0
IsTailFault geometry sum from at bytes (Earlier place) = (place ≡ at) × (at ≡ from) × (take 8 bytes ≡ earlier_mark)
IsTailFault geometry sum from at bytes (Long place) =
    (place ≡ at) × (at ≡ from) × (begins_as_mark bytes ≡ false) × (take 8 bytes ≡ earlier_mark → ⊥)
IsTailFault geometry sum from at bytes (Damaged place) =
    (place ≡ at) × (IsCutOff geometry sum bytes → ⊥) × (at ≡ from → begins_as_mark bytes ≡ true)
IsTailFault geometry sum from at bytes fault = ⊥
