-- The entries of a header block, one after the other.
use Rattle.std.proofs.Common.{◌≡◌, ℕ, zero, suc, ◌+◌, ◌-◌, ◌*◌, ◌<◌, ◌≤◌, Bool, true, false, ◌&&◌, ◌||◌, leb, List, [], ◌∷◌, length, drop, Some, refl, ap, ◌∙◌, arith}
use Rattle.std.specs.Prelude.{nat_eq, nat_le, slice_get}
use Rattle.std.specs.List.{list_any}
use Rattle.std.proofs.lemmas.Bool.{leb-true, ne_eqb}
use Rattle.std.proofs.lemmas.List.{drop-drop}
use Rattle.byteorder.specs.Endian.{little_from}
use Rattle.batch_log.specs.declared.header.Entry.{Entry}
use Rattle.batch_log.specs.Log.{data_count, one_unless}
use Rattle.batch_log.specs.Reading.{number_at, entry_of, entries_in}
use Rattle.batch_log.specs.Causes.{entry_blocks, repeats}

-- as many entries are read as the count says
pub entries_length : (count : ℕ) (bytes : List ℕ) → length (entries_in count bytes) ≡ count
entries_length zero bytes = refl
entries_length (suc n) bytes = let rest = entries_length n (drop 8 bytes) in omega (arith, rest)

-- the entries from one on are this one and those after it
pub entries_more : (count i : ℕ) (bytes : List ℕ) → i < count
    → entries_in (count - i) (drop (8 * i) bytes) ≡ entry_of (number_at (8 * i) 8 bytes) ∷ entries_in (count - (i + 1)) (drop (8 * (i + 1)) bytes)
entries_more count i bytes lt =
    let left : count - i ≡ suc (count - (i + 1)) = omega arith in
    let after : drop 8 (drop (8 * i) bytes) ≡ drop (8 * (i + 1)) bytes = drop-drop 8 (8 * i) bytes ∙ ap (λ (n : ℕ). drop n bytes) (omega arith) in
    rw (left, after) refl

-- one of the entries from one on names the block
abbrev pub named_from : ℕ → List ℕ → ℕ → ℕ → Bool
named_from block bytes count i = list_any (λ y. nat_eq block y) (entry_blocks (entries_in (count - i) (drop (8 * i) bytes)))

-- two of them name one block
abbrev pub repeats_from : List ℕ → ℕ → ℕ → Bool
repeats_from bytes count i = repeats (entry_blocks (entries_in (count - i) (drop (8 * i) bytes)))

-- a block is named from an entry on by this entry, or by a later one
pub named_more : (block count i : ℕ) (bytes : List ℕ) (e : Entry) → i < count → e ≡ entry_of (number_at (8 * i) 8 bytes)
    → named_from block bytes count i ≡ (nat_eq block e.block || named_from block bytes count (i + 1))
named_more block count i bytes e lt is = ap (λ (es : List Entry). list_any (λ y. nat_eq block y) (entry_blocks es)) (entries_more count i bytes lt) ∙ rw is refl

-- a block is named twice from an entry on if that of this one is, or a later one
pub repeats_more : (count i : ℕ) (bytes : List ℕ) (e : Entry) → i < count → e ≡ entry_of (number_at (8 * i) 8 bytes)
    → repeats_from bytes count i ≡ (named_from e.block bytes count (i + 1) || repeats_from bytes count (i + 1))
repeats_more count i bytes e lt is = ap (λ (es : List Entry). repeats (entry_blocks es)) (entries_more count i bytes lt) ∙ rw is refl

-- the entry with a number is where its bytes are
pub entry_there : (count i : ℕ) (bytes : List ℕ) → i < count → slice_get (entries_in count bytes) i ≡ Some (entry_of (number_at (8 * i) 8 bytes))
entry_there zero i bytes lt = absurd (omega arith)
entry_there (suc n) zero bytes lt = refl
entry_there (suc n) (suc i) bytes lt =
    let moved : drop (8 * i) (drop 8 bytes) ≡ drop (8 * suc i) bytes = drop-drop (8 * i) 8 bytes ∙ ap (λ (k : ℕ). drop k bytes) (omega arith) in
    entry_there n i (drop 8 bytes) (omega arith) ∙ ap (λ (xs : List ℕ). Some (entry_of (little_from 0 8 xs))) moved

-- how many of the entries from one on have data
abbrev pub data_from : List ℕ → ℕ → ℕ → ℕ
data_from bytes count i = data_count (entries_in (count - i) (drop (8 * i) bytes))

-- the data blocks from an entry on are its own and the later ones'
pub data_more : (count i : ℕ) (bytes : List ℕ) (e : Entry) → i < count → e ≡ entry_of (number_at (8 * i) 8 bytes) → data_from bytes count i ≡ one_unless e.trim + data_from bytes count (i + 1)
data_more count i bytes e lt is = ap data_count (entries_more count i bytes lt) ∙ rw is refl

-- an entry has one block of data, or none
pub few-data : (trim : Bool) → one_unless trim ≤ 1
few-data true = omega arith
few-data false = omega arith

-- ---- entries in ascending order

-- each number is above the one before it
abbrev pub ascends : ℕ → List ℕ → Bool
ascends least [] = true
ascends least (x ∷ xs) = nat_le least x && ascends (x + 1) xs

-- the blocks of the entries from one on ascend
abbrev pub ascends_from : List ℕ → ℕ → ℕ → ℕ → Bool
ascends_from bytes count least i = ascends least (entry_blocks (entries_in (count - i) (drop (8 * i) bytes)))

-- they do if this one is no less than the least, and those after it are above it
pub ascends_more : (count i least : ℕ) (bytes : List ℕ) (e : Entry) → i < count → e ≡ entry_of (number_at (8 * i) 8 bytes)
    → ascends_from bytes count least i ≡ (nat_le least e.block && ascends_from bytes count (e.block + 1) (i + 1))
ascends_more count i least bytes e lt is = ap (λ (es : List Entry). ascends least (entry_blocks es)) (entries_more count i bytes lt) ∙ rw is refl

-- numbers from one on, none of them twice
record AreApart (least : ℕ) (xs : List ℕ) : Type 0 where
  once : repeats xs ≡ false
  above : (y : ℕ) → y < least → list_any (λ z. nat_eq y z) xs ≡ false

apart : (least : ℕ) (xs : List ℕ) → ascends least xs ≡ true → AreApart least xs
apart least [] e = record { once = refl; above = λ y lt. refl }
apart least (x ∷ xs) e = by (leb least x) refl e (apart (x + 1) xs)
  where
    by : (b : Bool) → leb least x ≡ b → (b && ascends (x + 1) xs) ≡ true → (ascends (x + 1) xs ≡ true → AreApart (x + 1) xs) → AreApart least (x ∷ xs)
    by false h e rest = absurd (cc)
    by true h e rest =
        let le = leb-true least x h in
        let others = rest e in
        record {
          once = rw (others.above x (omega arith)) others.once;
          above = λ y lt. rw (ne_eqb y x (λ same. omega (arith, same, le, lt))) (others.above y (omega (arith, le, lt)));
        }

-- numbers that ascend do not repeat
pub ascending : (xs : List ℕ) → ascends 0 xs ≡ true → repeats xs ≡ false
ascending xs e = (apart 0 xs e).once
