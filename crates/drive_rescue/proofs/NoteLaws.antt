-- The table of the newest records, as records are taken.
use Rattle.std.proofs.Common.{◌≡◌, ◌≢◌, ℕ, zero, suc, ◌+◌, ◌<◌, ◌≤◌, ◌^◌, Bool, true, false, cond, eqb, ltb, leb, is_none, List, [], ◌∷◌, ◌++◌, length, drop, get_or, Option, Some, None, refl, sym, ap, ◌∙◌, arith, append_assoc, append-nil}
use Rattle.std.specs.Prelude.{slice_get, slice_set}
use Rattle.std.specs.Option.{option_map}
use Rattle.std.proofs.lemmas.Bool.{eq-eqb, eqb-true}
use Rattle.std.proofs.lemmas.Bool.Decides.{nat_tests}
use Rattle.std.proofs.lemmas.List.{drop_more, drop_all, get_or-set_same, get_or-set_other}
use Rattle.batch_log.specs.declared.header.Entry.{Entry}
use Rattle.batch_log.specs.Log.{data_count, one_unless}
use Rattle.drive_array.specs.Records.{Record, entry_content, entry_records, newer, newest, record_of}
use Rattle.drive_array.proofs.NewestLaws.{newer-none, newest-append}
use Rattle.drive_rescue.specs.declared.table.Slot.{Slot}
use Rattle.drive_rescue.specs.Notes.{Notes, is_as_new, slot_at, slot_of}

-- ---- one record

-- the slot after a record was taken
later : Option Slot → Slot → Option Slot
later taken found = cond (is_as_new taken found) taken (Some found)

later-newer : (x : Option Record) (r : Record) → option_map slot_of (newer x (Some r)) ≡ later (option_map slot_of x) (slot_of r)
unfolding later
later-newer None r = refl
later-newer (Some x) r = at x.sequence r.sequence
  where
    at : (a b : ℕ) → option_map slot_of (cond (ltb a b) (Some r) (Some x)) ≡ cond (leb b a) (Some (slot_of x)) (Some (slot_of r))
    at a b = grind (arith, nat_tests)

-- The slot of the record's block is the later one, and the others stay.
noted : (rs : List Record) (r : Record) (old new : List (Option Slot)) → Notes rs old → ((k : ℕ) → k < 2 ^ 31 → k ≢ r.block → slot_at new k ≡ slot_at old k)
    → (r.block < 2 ^ 31 → slot_at new r.block ≡ later (slot_at old r.block) (slot_of r)) → Notes (rs ++ r ∷ []) new
noted rs r old new notes apart here k lt = at (eqb r.block k) refl
  where
    at : (b : Bool) → eqb r.block k ≡ b → slot_at new k ≡ option_map slot_of (newest k (rs ++ r ∷ []))
    at false e =
        let ne : k ≢ r.block = λ same. let yes : eqb r.block k ≡ true = eq-eqb r.block k (sym same) in cc in
        let none : newest k (r ∷ []) ≡ None = rw e refl in
        apart k lt ne ∙ notes k lt ∙ ap (option_map slot_of) (sym (newest-append k rs (r ∷ []) ∙ ap (newer (newest k rs)) none ∙ newer-none (newest k rs)))
    at true e =
        let same : r.block ≡ k = eqb-true r.block k e in
        let one : newest k (r ∷ []) ≡ Some r = rw e refl in
        let spot : slot_at new k ≡ later (slot_at old k) (slot_of r) = rw (← same) (here (omega (arith, lt, same))) in
        spot ∙ ap (λ (s : Option Slot). later s (slot_of r)) (notes k lt) ∙ sym (later-newer (newest k rs) r) ∙ ap (option_map slot_of) (sym (newest-append k rs (r ∷ []) ∙ ap (newer (newest k rs)) one))

-- a record of no block that a disk can have is left out
pub noted-none : (rs : List Record) (r : Record) (table : List (Option Slot)) → Notes rs table → 2 ^ 31 ≤ r.block → Notes (rs ++ r ∷ []) table
noted-none rs r table notes far = noted rs r table table notes (λ k lt ne. refl) (λ lt. absurd (omega (arith, lt, far)))

-- one that is as new is there already
pub noted-old : (rs : List Record) (r : Record) (old new : List (Option Slot)) (block : ℕ) (found : Slot) → r.block ≡ block → slot_of r ≡ found → Notes rs old → ((k : ℕ) → slot_at new k ≡ slot_at old k)
    → is_as_new (slot_at new block) found ≡ true → Notes (rs ++ r ∷ []) new
unfolding later
noted-old rs r old new block found is of notes same taken = noted rs r old new notes (λ k lt ne. same k) here
  where
    here : r.block < 2 ^ 31 → slot_at new r.block ≡ later (slot_at old r.block) (slot_of r)
    here lt =
        let as_new : is_as_new (slot_at old r.block) (slot_of r) ≡ true = rw (is, of) (ap (λ (s : Option Slot). is_as_new s found) (sym (same block)) ∙ taken) in
        rw as_new (same r.block)

-- it is put there
pub noted-new : (rs : List Record) (r : Record) (old new : List (Option Slot)) (block : ℕ) (found : Slot) → r.block ≡ block → slot_of r ≡ found → Notes rs old → ((k : ℕ) → slot_at new k ≡ slot_at old k)
    → is_as_new (slot_at new block) found ≡ false → block < length new → Notes (rs ++ r ∷ []) (slice_set new block (Some found))
unfolding later
noted-new rs r old new block found is of notes same other there = noted rs r old (slice_set new block (Some found)) notes apart here
  where
    apart : (k : ℕ) → k < 2 ^ 31 → k ≢ r.block → slot_at (slice_set new block (Some found)) k ≡ slot_at old k
    apart k lt ne = let ne' : k ≢ block = λ e. ne (e ∙ sym is) in get_or-set_other new block k (Some found) None ne' ∙ same k

    here : r.block < 2 ^ 31 → slot_at (slice_set new block (Some found)) r.block ≡ later (slot_at old r.block) (slot_of r)
    here lt =
        let as_new : is_as_new (slot_at old r.block) (slot_of r) ≡ false = rw (is, of) (ap (λ (s : Option Slot). is_as_new s found) (sym (same block)) ∙ other) in
        rw as_new (rw (is, of) (get_or-set_same new block (Some found) None there))

-- ---- a batch

in-range : {X : Type 0} (xs : List X) (i : ℕ) (x : X) → slice_get xs i ≡ Some x → i < length xs
in-range [] i x is = absurd (cc)
in-range (y ∷ ys) zero x is = omega arith
in-range (y ∷ ys) (suc i) x is = let lt = in-range ys i x is in omega (arith, lt)

found-at : {X : Type 0} (xs : List X) (i : ℕ) (x : X) → slice_get xs i ≡ Some x → get_or xs i x ≡ x
found-at [] i x is = refl
found-at (y ∷ ys) zero x is = let same : Some y ≡ Some x = is in cc
found-at (y ∷ ys) (suc i) x is = found-at ys i x is

-- what is left of a list from an index on begins with the element there
next-at : {X : Type 0} (xs : List X) (i : ℕ) (x : X) → slice_get xs i ≡ Some x → drop i xs ≡ x ∷ drop (i + 1) xs
next-at xs i x is = drop_more xs i x (in-range xs i x is) ∙ ap (λ y. y ∷ drop (i + 1) xs) (found-at xs i x is)

-- Some records of a batch were taken; the others are those of the entries that are left.
pub record Noting (rs all rest : List Record) (table : List (Option Slot)) : Type 0 where
  pub done : List Record
  pub notes : Notes (rs ++ done) table
  pub split : done ++ rest ≡ all

pub noting-none : (rs all : List Record) (table : List (Option Slot)) → Notes rs table → Noting rs all all table
noting-none rs all table notes = record { done = []; notes = rw (append-nil rs) notes; split = refl }

pub noting-all : (rs all rest : List Record) (table : List (Option Slot)) → rest ≡ [] → Noting rs all rest table → Notes (rs ++ all) table
noting-all rs all rest table none noting =
    let same : noting.done ≡ all = sym (append-nil noting.done) ∙ ap (λ (xs : List Record). noting.done ++ xs) (sym none) ∙ noting.split in
    rw (← same) noting.notes

trim-is : (trim : Bool) (body : List (List ℕ)) (k : ℕ) → is_none (entry_content trim body k) ≡ trim
trim-is true body k = refl
trim-is false body k = refl

-- the records of the entries that are left
abbrev pub left_records : ℕ → List (List ℕ) → ℕ → ℕ → ℕ → List Entry → ℕ → List Record
left_records sequence body zone offset before entries i = entry_records sequence body zone offset before (drop i entries)

-- one entry more
pub noting-more : (rs : List Record) (body : List (List ℕ)) (entries : List Entry) (sequence zone offset before after i : ℕ) (e : Entry) (found : Slot) (old new : List (Option Slot))
    → slice_get entries i ≡ Some e → after ≡ before + one_unless e.trim
    → ((r : Record) → r.block ≡ e.block → slot_of r ≡ found → (done : List Record) → Notes (rs ++ done) old → Notes ((rs ++ done) ++ r ∷ []) new)
    → ((body : List (List ℕ)) → slot_of (record_of sequence body zone offset before e) ≡ found)
    → Noting rs (entry_records sequence body zone offset 0 entries) (left_records sequence body zone offset before entries i) old
    → Noting rs (entry_records sequence body zone offset 0 entries) (left_records sequence body zone offset after entries (i + 1)) new
noting-more rs body entries sequence zone offset before after i e found old new there count step slot noting =
    let one = record_of sequence body zone offset before e in
    let next : left_records sequence body zone offset before entries i ≡ one ∷ left_records sequence body zone offset after entries (i + 1) =
    ap (λ (es : List Entry). entry_records sequence body zone offset before es) (next-at entries i e there)
    ∙ ap (λ (n : ℕ). one ∷ entry_records sequence body zone offset n (drop (i + 1) entries)) (sym count) in
    let split' : noting.done ++ one ∷ left_records sequence body zone offset after entries (i + 1) ≡ entry_records sequence body zone offset 0 entries = rw next at noting.split in
    record {
      done = noting.done ++ one ∷ [];
      notes = rw (← append_assoc rs noting.done (one ∷ [])) (step one refl (slot body) noting.done noting.notes);
      split = append_assoc noting.done (one ∷ []) (left_records sequence body zone offset after entries (i + 1)) ∙ split';
    }

-- the slot that is made of an entry
pub slot-made : (sequence zone offset before : ℕ) (e : Entry) (at : ℕ) (body : List (List ℕ)) → at ≡ (record_of sequence body zone offset before e).offset
    → slot_of (record_of sequence body zone offset before e) ≡ record { sequence = sequence; zone = zone; offset = at; trim = e.trim }
slot-made sequence zone offset before e at body is = rw (trim-is e.trim body before, is) refl

-- how many data blocks are left
pub count-more : (entries : List Entry) (i before after : ℕ) (e : Entry) → slice_get entries i ≡ Some e → after ≡ before + one_unless e.trim → before + data_count (drop i entries) ≡ data_count entries
    → after + data_count (drop (i + 1) entries) ≡ data_count entries
count-more entries i before after e there count all =
    let next : data_count (drop i entries) ≡ one_unless e.trim + data_count (drop (i + 1) entries) = ap data_count (next-at entries i e there) in
    omega (arith, next, count, all)

pub no-records : (sequence zone offset before : ℕ) (body : List (List ℕ)) (entries : List Entry) (i : ℕ) → length entries ≤ i → left_records sequence body zone offset before entries i ≡ []
no-records sequence zone offset before body entries i far = ap (λ (es : List Entry). entry_records sequence body zone offset before es) (drop_all i entries far)
