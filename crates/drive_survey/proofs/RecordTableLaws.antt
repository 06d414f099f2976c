-- A table of records changes, record by record.
use Rattle.std.proofs.Common.{◌≡◌, ◌⊎◌, inl, inr, ℕ, suc, ◌<◌, ◌≤◌, min, cond, eqb, ◌&&◌, List, [], ◌∷◌, ◌++◌, length, drop, get_or, Option, Some, None, refl, sym, ap, ◌∙◌, arith}
use Rattle.std.specs.BTreeMap.{BTreeMap, get, is_at}
use Rattle.std.specs.Option.{IsSome, option_map}
use Rattle.std.specs.Ordering.{nat_cmp}
use Rattle.std.proofs.lemmas.Bool.{cases_lt}
use Rattle.std.proofs.lemmas.Bool.Decides.{nat_tests}
use Rattle.std.proofs.lemmas.List.{drop_all}
use Rattle.std.proofs.Math.Seq.{drop-cons}
use Rattle.drive_survey.specs.declared.records.KeptRecord.{KeptRecord}
use Rattle.drive_survey.specs.declared.clearing.block_records.BlockRecords.{BlockRecords}
use Rattle.drive_survey.specs.BlockRecords.{held_of, slot_after, slot_of}

abbrev Put : Type 0
Put = KeptRecord → Option KeptRecord

abbrev Slot : Type 0
Slot = Option (Option KeptRecord)

-- ---- one record

-- a key is at a number exactly if the two are equal
pub at-is : (k q : ℕ) → is_at (nat_cmp k) q ≡ eqb k q
at-is k q = grind (arith, nat_tests)

-- ---- one part after the other

-- putting in two lists of records, one after the other, is putting in both at once
pub slot-append : (put : Put) (block sequence : ℕ) (slot : Slot) (xs ys : List KeptRecord) → slot_after put block sequence slot (xs ++ ys) ≡ slot_after put block sequence (slot_after put block sequence slot xs) ys
slot-append put block sequence slot [] ys = refl
slot-append put block sequence slot (x ∷ xs) ys =
    slot-append put block sequence (option_map (λ (found : Option KeptRecord). cond (eqb x.block block && eqb x.sequence sequence) (put x) found) slot) xs ys

-- to drop n elements is to drop as many of them as the list has
pub drop-min : {X : Type 0} (n : ℕ) (xs : List X) → drop (min n (length xs)) xs ≡ drop n xs
drop-min {X} n xs = by (cases_lt n (length xs))
  where
    by : (n < length xs) ⊎ (length xs ≤ n) → drop (min n (length xs)) xs ≡ drop n xs
    by (inl lt) = let same : min n (length xs) ≡ n = omega arith in ap (λ (k : ℕ). drop k xs) same
    by (inr le) = drop_all (min n (length xs)) xs (omega arith) ∙ sym (drop_all n xs le)

-- one of a list of records is taken
pub each-step : (put : Put) (block sequence i i' : ℕ) (own : List KeptRecord) (d : KeptRecord) (slot slot' all : Slot) → i < length own → i' ≡ suc i → slot' ≡ slot_after put block sequence slot (get_or own i d ∷ [])
    → slot_after put block sequence slot (drop i own) ≡ all → slot_after put block sequence slot' (drop i' own) ≡ all
each-step put block sequence i i' own d slot slot' all lt next taken before =
    let before' = rw (drop-cons own i d lt) at before in
    rw (next, taken) before'

-- ---- the blocks stay

slot-stays : (put : Put) (block sequence : ℕ) (slot : Slot) (rs : List KeptRecord) → IsSome slot → IsSome (slot_after put block sequence slot rs)
slot-stays put block sequence slot [] some = some
slot-stays put block sequence None (r ∷ rs) some = absurd (cc)
slot-stays put block sequence (Some found) (r ∷ rs) some = slot-stays put block sequence (Some (cond (eqb r.block block && eqb r.sequence sequence) (put r) found)) rs refl

slot-held : (held : Option (BTreeMap ℕ KeptRecord)) (sequence : ℕ) → IsSome held → IsSome (option_map (λ (h : BTreeMap ℕ KeptRecord). get nat_cmp h sequence) held)
slot-held None sequence some = absurd (cc)
slot-held (Some held) sequence some = refl

held-slot : (held : Option (BTreeMap ℕ KeptRecord)) (sequence : ℕ) → IsSome (option_map (λ (h : BTreeMap ℕ KeptRecord). get nat_cmp h sequence) held) → IsSome held
held-slot None sequence some = absurd (cc)
held-slot (Some held) sequence some = refl

-- a table that took records in or out
abbrev pub Changes : Put → BlockRecords → BlockRecords → List KeptRecord → Type 0
Changes put old new rs = (block sequence : ℕ) → slot_of new block sequence ≡ slot_after put block sequence (slot_of old block sequence) rs

-- a changed table still holds the blocks that it held before
pub changed-more : (put : Put) (old new : BlockRecords) (rs : List KeptRecord) → Changes put old new rs → (block : ℕ) → IsSome (held_of old block) → IsSome (held_of new block)
changed-more put old new rs changes block some =
    held-slot (held_of new block) 0 (rw (changes block 0) (slot-stays put block 0 (slot_of old block 0) rs (slot-held (held_of old block) 0 some)))
