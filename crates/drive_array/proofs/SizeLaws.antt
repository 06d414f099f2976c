-- The greatest size, an array that grows, and zones that are emptied.
use Rattle.std.proofs.Common.{◌≡◌, ◌≢◌, ℕ, zero, suc, ◌+◌, ◌-◌, ◌<◌, ◌≤◌, max, false, eqb, List, [], ◌∷◌, ◌++◌, map, length, set, get_or, replicate, Option, Some, None, inl, inr, refl, sym, ap, ◌∙◌, arith}
use Rattle.std.specs.Prelude.{Contains, nat_eq}
use Rattle.std.specs.List.{AllByRecursion, IsDistinct, range_with_len}
use Rattle.std.proofs.lemmas.Bool.{cases_eq, cases_lt, ne_eqb}
use Rattle.std.proofs.lemmas.List.{get_or-set_other, get_or-set_same, length-set, set_comm}
use Rattle.std.proofs.lemmas.List.FromFn.{length-map-range_with_len}
use Rattle.logical_map.specs.declared.place.Place.{Place}
use Rattle.batch_log.specs.declared.header.Entry.{Entry}
use Rattle.batch_log.specs.Log.{Batch, batch_size, log_size, one_unless}
use Rattle.drive_array.specs.Records.{Record, append_log, batch_records, entry_records, log_records, new_records, newest, over, place, records, shown, told, without}
use Rattle.drive_array.specs.Sizes.{HasSize, IsGreatest, IsUpTo, array_of, greatest, extended, larger, log_greatest, encoded_size, size_or, told_of}
use Rattle.drive_array.specs.Mountable.{AreSound, IsInside}
use Rattle.drive_array.specs.ZoneLogs.{log_at, log_sequences, sequences}
use Rattle.drive_array.specs.Laws.{AppendKeepsSpare, AppendWrites, EmptySpare, GreatestIs, IsLast, IsNext, NextIsLast}
use Rattle.drive_array.specs.Spare.{IsBefore, IsHalfClean, IsSpare, first_sequence}
use Rattle.drive_array.proofs.AllLaws.{all-append, all-parts, all-set, all-weaker}
use Rattle.drive_array.proofs.NewestLaws.{told-append_log}
use Rattle.drive_array.proofs.SequenceLaws.{distinct-append_log, records-below}

-- ---- the greatest size

-- no size changes nothing
pub larger-none : (x : Option ℕ) → larger x None ≡ x
larger-none None = refl
larger-none (Some a) = refl

-- of three sizes the largest, however they are grouped
pub larger-assoc : (x y z : Option ℕ) → larger x (larger y z) ≡ larger (larger x y) z
larger-assoc None y z = refl
larger-assoc (Some a) None z = refl
larger-assoc (Some a) (Some b) None = refl
larger-assoc (Some a) (Some b) (Some c) = ap (λ (n : ℕ). Some n) (omega arith)

-- and in whichever order
pub larger-comm : (x y : Option ℕ) → larger x y ≡ larger y x
larger-comm None y = sym (larger-none y)
larger-comm (Some a) None = refl
larger-comm (Some a) (Some b) = ap (λ (n : ℕ). Some n) (omega arith)

-- a batch more has its size
pub log_greatest-more : (log : List Batch) (b : Batch) → log_greatest (log ++ b ∷ []) ≡ larger (log_greatest log) b.heading.size
log_greatest-more [] b = larger-none b.heading.size
log_greatest-more (x ∷ log) b = ap (larger x.heading.size) (log_greatest-more log b) ∙ larger-assoc x.heading.size (log_greatest log) b.heading.size

-- and so on a drive
pub greatest-append_log : (logs : List (List Batch)) (zone : ℕ) (b : Batch) → zone < length logs → greatest (append_log logs zone b) ≡ larger (greatest logs) b.heading.size
greatest-append_log [] zone b lt = absurd (omega arith)
greatest-append_log (log ∷ logs) zero b lt =
    let x = log_greatest log in
    let y = b.heading.size in
    let z = greatest logs in
    ap (λ (s : Option ℕ). larger s z) (log_greatest-more log b) ∙ sym (larger-assoc x y z) ∙ ap (larger x) (larger-comm y z) ∙ larger-assoc x z y
greatest-append_log (log ∷ logs) (suc zone) b lt =
    ap (larger (log_greatest log)) (greatest-append_log logs zone b (omega arith)) ∙ larger-assoc (log_greatest log) (greatest logs) b.heading.size

-- a batch that says a size makes the disk that size
size-append_log : (n zone size : ℕ) (logs : List (List Batch)) (b : Batch) → zone < length logs → b.heading.size ≡ Some size → encoded_size n logs ≤ size → encoded_size n (append_log logs zone b) ≡ size
size-append_log n zone size logs b lt has le = ap (size_or n) (greatest-append_log logs zone b lt ∙ ap (larger (greatest logs)) has) ∙ grows (greatest logs) le
  where
    grows : (g : Option ℕ) → size_or n g ≤ size → size_or n (larger g (Some size)) ≡ size
    grows None le = refl
    grows (Some a) le = omega arith

-- ---- in plain words

parts-up_to : (limit : ℕ) (x y : Option ℕ) → IsUpTo limit (larger x y) → IsUpTo limit x × IsUpTo limit y
parts-up_to limit None y h = (tt, h)
parts-up_to limit (Some a) None h = (h, tt)
parts-up_to limit (Some a) (Some b) h = (omega arith, omega arith)

log-up_to : (limit : ℕ) (log : List Batch) → IsUpTo limit (log_greatest log) → AllByRecursion (λ (b : Batch). IsUpTo limit b.heading.size) log
log-up_to limit [] h = tt
log-up_to limit (b ∷ log) h = let parts = parts-up_to limit b.heading.size (log_greatest log) h in (parts.0, log-up_to limit log parts.1)

all-up_to : (limit : ℕ) (logs : List (List Batch)) → IsUpTo limit (greatest logs) → AllByRecursion (AllByRecursion (λ (b : Batch). IsUpTo limit b.heading.size)) logs
all-up_to limit [] h = tt
all-up_to limit (log ∷ logs) h = let parts = parts-up_to limit (log_greatest log) (greatest logs) h in (log-up_to limit log parts.0, all-up_to limit logs parts.1)

abbrev LogHas : ℕ → List Batch → Type 0
LogHas size log = (b : Batch) × Contains log b × (b.heading.size ≡ Some size)

later : {X : Type 0} (x y : X) (xs : List X) → Contains xs y → Contains (x ∷ xs) y
later x y xs is = (suc is.0, omega (arith, is.1), is.2)

first : {X : Type 0} (x : X) (xs : List X) → Contains (x ∷ xs) x
first x xs = (0, omega arith, refl)

some-inj : (a b : ℕ) → Some a ≡ Some b → a ≡ b
some-inj a b e = cc

log-has : (size : ℕ) (log : List Batch) → log_greatest log ≡ Some size → LogHas size log
log-has size [] e = absurd (cc)
log-has size (b ∷ log) e = by (log-has size log) b.heading.size (log_greatest log) refl refl e
  where
    from_rest : LogHas size log → LogHas size (b ∷ log)
    from_rest rest = (rest.0, later b rest.0 log rest.1, rest.2)

    by : (log_greatest log ≡ Some size → LogHas size log) → (x y : Option ℕ) → b.heading.size ≡ x → log_greatest log ≡ y → larger x y ≡ Some size → LogHas size (b ∷ log)
    by more None y x-is y-is e = from_rest (more (y-is ∙ e))
    by more (Some a) None x-is y-is e = (b, first b log, x-is ∙ e)
    by more (Some a) (Some c) x-is y-is e =
        let m : max a c ≡ size = some-inj (max a c) size e in
        elim (cases_lt a c) as (λ _. LogHas size (b ∷ log)) [
          | inl lt ↦ from_rest (more (y-is ∙ ap (λ (k : ℕ). Some k) (omega arith)))
          | inr ge ↦ (b, first b log, x-is ∙ ap (λ (k : ℕ). Some k) (omega arith))
        ]

has-size : (size : ℕ) (logs : List (List Batch)) → greatest logs ≡ Some size → HasSize size logs
has-size size [] e = absurd (cc)
has-size size (log ∷ logs) e = by (has-size size logs) (log_greatest log) (greatest logs) refl refl e
  where
    here : log_greatest log ≡ Some size → HasSize size (log ∷ logs)
    here is = let one = log-has size log is in (log, one.0, first log logs, one.1, one.2)

    there : HasSize size logs → HasSize size (log ∷ logs)
    there rest = (rest.0, rest.1, later log rest.0 logs rest.2, rest.3, rest.4)

    by : (greatest logs ≡ Some size → HasSize size logs) → (x y : Option ℕ) → log_greatest log ≡ x → greatest logs ≡ y → larger x y ≡ Some size → HasSize size (log ∷ logs)
    by more None y x-is y-is e = there (more (y-is ∙ e))
    by more (Some a) None x-is y-is e = here (x-is ∙ e)
    by more (Some a) (Some c) x-is y-is e =
        let m : max a c ≡ size = some-inj (max a c) size e in
        elim (cases_lt a c) as (λ _. HasSize size (log ∷ logs)) [
          | inl lt ↦ there (more (y-is ∙ ap (λ (k : ℕ). Some k) (omega arith)))
          | inr ge ↦ here (x-is ∙ ap (λ (k : ℕ). Some k) (omega arith))
        ]

none-parts : (x y : Option ℕ) → larger x y ≡ None → (x ≡ None) × (y ≡ None)
none-parts None y e = (refl, e)
none-parts (Some a) None e = absurd (cc)
none-parts (Some a) (Some b) e = absurd (cc)

log-none : (log : List Batch) → log_greatest log ≡ None → AllByRecursion (λ (b : Batch). b.heading.size ≡ None) log
log-none [] e = tt
log-none (b ∷ log) e = let parts = none-parts b.heading.size (log_greatest log) e in (parts.0, log-none log parts.1)

all-none : (logs : List (List Batch)) → greatest logs ≡ None → AllByRecursion (AllByRecursion (λ (b : Batch). b.heading.size ≡ None)) logs
all-none [] e = tt
all-none (log ∷ logs) e = let parts = none-parts (log_greatest log) (greatest logs) e in (log-none log parts.0, all-none logs parts.1)

-- what the greatest size is
pub greatest_is : GreatestIs
greatest_is logs = by (greatest logs) refl
  where
    by : (g : Option ℕ) → greatest logs ≡ g → IsGreatest logs g
    by None e = all-none logs e
    by (Some size) e = (has-size size logs e, all-up_to size logs (rw e (omega arith)))

-- ---- the array grows

inside-entries : (size sequence zone header k : ℕ) (body : List (List ℕ)) (es : List Entry) → AllByRecursion (λ (e : Entry). e.block < size) es
    → AllByRecursion (λ r. r.block < size) (entry_records sequence body zone header k es)
inside-entries size sequence zone header k body [] all = tt
inside-entries size sequence zone header k body (e ∷ es) all = (all.0, inside-entries size sequence zone header (k + one_unless e.trim) body es all.1)

inside-log : (size zone offset : ℕ) (log : List Batch) → AllByRecursion (IsInside size) log → AllByRecursion (λ r. r.block < size) (log_records zone offset log)
inside-log size zone offset [] all = tt
inside-log size zone offset (b ∷ bs) all =
    all-append (λ r. r.block < size) (batch_records zone offset b) (log_records zone (offset + batch_size b) bs)
    (inside-entries size b.heading.sequence zone offset 0 b.body b.heading.entries all.0) (inside-log size zone (offset + batch_size b) bs all.1)

-- records of batches within a size name blocks below it
pub inside-records : (size first : ℕ) (logs : List (List Batch)) → AllByRecursion (AllByRecursion (IsInside size)) logs → AllByRecursion (λ r. r.block < size) (records first logs)
inside-records size first [] all = tt
inside-records size first (log ∷ logs) all =
    all-append (λ r. r.block < size) (log_records first 0 log) (records (suc first) logs) (inside-log size first 0 log all.0) (inside-records size (suc first) logs all.1)

-- of a block past all records there is none
newest-past : (size block : ℕ) (rs : List Record) → size ≤ block → AllByRecursion (λ r. r.block < size) rs → newest block rs ≡ None
newest-past size block [] le all = refl
newest-past size block (r ∷ rs) le all = rw (ne_eqb r.block block (λ e. let lt = all.0 in omega arith), newest-past size block rs le all.1) refl

told-past : {X : Type 0} (f : Option Record → X) (size a k : ℕ) (rs : List Record) → size ≤ a → AllByRecursion (λ r. r.block < size) rs
    → map (λ block. f (newest block rs)) (range_with_len a k) ≡ replicate k (f None)
told-past f size a zero rs le all = refl
told-past f size a (suc k) rs le all = rw (newest-past size a rs le all, told-past f size (a + 1) k rs (omega arith) all) refl

told-split : {X : Type 0} (g : ℕ → X) (a n k total start : ℕ) → total ≡ n + k → start ≡ a + n → map g (range_with_len a total) ≡ map g (range_with_len a n) ++ map g (range_with_len start k)
told-split g a zero k total start e e' = let same : total ≡ k = omega arith in let at : start ≡ a = omega arith in rw (same, at) refl
told-split {X} g a (suc n) k zero start e e' = absurd (omega arith)
told-split {X} g a (suc n) k (suc total) start e e' = ap (λ (xs : List X). g a ∷ xs) (told-split g (a + 1) n k total start (omega arith) (omega arith))

-- what is told of more blocks than the records have
told-grown : {X : Type 0} (f : Option Record → X) (old size : ℕ) (rs : List Record) → old ≤ size → AllByRecursion (λ r. r.block < old) rs
    → told f size rs ≡ extended (f None) size (told f old rs)
told-grown {X} f old size rs le all =
    let more = size - old in
    let g : ℕ → X = λ block. f (newest block rs) in
    let long : length (map g (range_with_len 0 old)) ≡ old = length-map-range_with_len g 0 old in
    let split : map g (range_with_len 0 size) ≡ map g (range_with_len 0 old) ++ map g (range_with_len old more) = told-split g 0 old more size old (omega arith) (omega arith) in
    split ∙ ap (λ (xs : List X). map g (range_with_len 0 old) ++ xs) (told-past f old old more rs (omega arith) all ∙ ap (λ (k : ℕ). replicate (size - k) (f None)) (sym long))

-- as much is told as there are blocks
pub told-length : {X : Type 0} (f : Option Record → X) (n : ℕ) (logs : List (List Batch)) → length (told_of f n logs) ≡ encoded_size n logs
told-length f n logs = length-map-range_with_len (λ block. f (newest block (records 0 logs))) 0 (encoded_size n logs)

-- an array has as many blocks as its size
pub array_length : (block_bytes n : ℕ) (logs : List (List Batch)) → length (array_of block_bytes n logs) ≡ encoded_size n logs
array_length block_bytes n logs = told-length (shown block_bytes) n logs

-- ---- an Append

-- what is told after a batch: what its records say, and else what was told before
append_tells : (X : Type 0) (f : Option Record → X) (limit n zone size : ℕ) (logs : List (List Batch)) (batch : Batch) → zone < length logs → AreSound limit n logs → IsLast limit n logs zone size batch
    → told_of f n (append_log logs zone batch) ≡ over f (new_records logs zone batch) (extended (f None) size (told_of f n logs))
append_tells X f limit n zone size logs batch lt sound last =
    let below = records-below batch.heading.sequence 0 logs last.greatest in
    ap (λ (k : ℕ). told f k (records 0 (append_log logs zone batch))) last.size_is
    ∙ told-append_log f size zone logs batch lt below
    ∙ ap (over f (new_records logs zone batch)) (told-grown f (encoded_size n logs) size (records 0 logs) last.grows (inside-records (encoded_size n logs) 0 logs sound.inside))

-- a batch with the next sequence is the last one
pub next_is_last : NextIsLast
next_is_last limit n zone size logs batch lt next = record {
  size_is = size-append_log n zone size logs batch lt next.has next.grows;
  grows = next.grows;
  inside = next.inside;
  number = next.number;
  greatest = next.greatest;
}

-- what is inside a size is inside a greater one
pub inside-more : (a b : ℕ) (logs : List (List Batch)) → a ≤ b → AllByRecursion (AllByRecursion (IsInside a)) logs → AllByRecursion (AllByRecursion (IsInside b)) logs
inside-more a b logs le all =
    all-weaker (AllByRecursion (IsInside a)) (AllByRecursion (IsInside b)) logs
    (λ log. all-weaker (IsInside a) (IsInside b) log (λ batch. all-weaker (λ (e : Entry). e.block < a) (λ (e : Entry). e.block < b) batch.heading.entries (λ e lt. omega arith))) all

all-more : {X : Type 0} (P : X → Type 0) (logs : List (List X)) (zone : ℕ) (x : X) → AllByRecursion (AllByRecursion P) logs → P x → AllByRecursion (AllByRecursion P) (set logs zone (get_or logs zone [] ++ x ∷ []))
all-more P [] zone x all one = tt
all-more P (log ∷ logs) zero x all one = (all-append P log (x ∷ []) all.0 (one, tt), all.1)
all-more P (log ∷ logs) (suc zone) x all one = (all.0, all-more P logs zone x all.1 one)

log-numbers : (P : ℕ → Type 0) (log : List Batch) (b : Batch) → AllByRecursion P (log_sequences log) → P b.heading.sequence → AllByRecursion P (log_sequences (log ++ b ∷ []))
log-numbers P [] b all one = (one, tt)
log-numbers P (x ∷ log) b all one = (all.0, log-numbers P log b all.1 one)

numbers-append_log : (P : ℕ → Type 0) (logs : List (List Batch)) (zone : ℕ) (b : Batch) → AllByRecursion P (sequences logs) → P b.heading.sequence → AllByRecursion P (sequences (append_log logs zone b))
numbers-append_log P [] zone b all one = tt
numbers-append_log P (log ∷ logs) zero b all one =
    let parts = all-parts P (log_sequences log) (sequences logs) all in
    all-append P (log_sequences (log ++ b ∷ [])) (sequences logs) (log-numbers P log b parts.0 one) parts.1
numbers-append_log P (log ∷ logs) (suc zone) b all one =
    let parts = all-parts P (log_sequences log) (sequences logs) all in
    all-append P (log_sequences log) (sequences (append_log logs zone b)) parts.0 (numbers-append_log P logs zone b parts.1 one)

-- an Append of the last batch writes its records over the array
pub append_writes : AppendWrites
append_writes block_bytes zone_size limit n zone size logs batch lt sound last = record {
  array_is = append_tells (List ℕ) (shown block_bytes) limit n zone size logs batch lt sound last;
  map_is = append_tells Place (place zone_size) limit n zone size logs batch lt sound last;
  sound = record {
    numbers = numbers-append_log (λ s. s < limit) logs zone batch sound.numbers last.number;
    inside = rw last.size_is (all-more (IsInside size) logs zone batch (inside-more (encoded_size n logs) size logs last.grows sound.inside) last.inside);
    distinct = distinct-append_log logs zone batch lt last.greatest sound.distinct;
  };
}

-- ---- a zone is emptied

-- what holds of all sequences holds of those that are left
pub without-numbers : (P : ℕ → Type 0) (logs : List (List Batch)) (zone : ℕ) → AllByRecursion P (sequences logs) → AllByRecursion P (sequences (without logs zone))
without-numbers P [] zone all = tt
without-numbers P (log ∷ logs) zero all = (all-parts P (log_sequences log) (sequences logs) all).1
without-numbers P (log ∷ logs) (suc zone) all =
    let parts = all-parts P (log_sequences log) (sequences logs) all in
    all-append P (log_sequences log) (sequences (without logs zone)) parts.0 (without-numbers P logs zone parts.1)

-- the rest of distinct numbers is distinct
pub drop-distinct : (front rest : List ℕ) → IsDistinct nat_eq (front ++ rest) → IsDistinct nat_eq rest
unfolding IsDistinct
drop-distinct [] rest d = d
drop-distinct (x ∷ xs) rest d = drop-distinct xs rest d.1

less-distinct : (front old new : List ℕ) → ((P : ℕ → Type 0) → AllByRecursion P old → AllByRecursion P new) → (IsDistinct nat_eq old → IsDistinct nat_eq new) → IsDistinct nat_eq (front ++ old) → IsDistinct nat_eq (front ++ new)
unfolding IsDistinct
less-distinct [] old new among then d = then d
less-distinct (x ∷ xs) old new among then d =
    let parts = all-parts (λ (y : ℕ). eqb x y ≡ false) xs old d.0 in
    (all-append (λ (y : ℕ). eqb x y ≡ false) xs new parts.0 (among (λ y. eqb x y ≡ false) parts.1), less-distinct xs old new among then d.1)

-- sequences that are left are distinct
without-distinct : (logs : List (List Batch)) (zone : ℕ) → IsDistinct nat_eq (sequences logs) → IsDistinct nat_eq (sequences (without logs zone))
without-distinct [] zone d = d
without-distinct (log ∷ logs) zero d = drop-distinct (log_sequences log) (sequences logs) d
without-distinct (log ∷ logs) (suc zone) d =
    less-distinct (log_sequences log) (sequences logs) (sequences (without logs zone)) (λ P. without-numbers P logs zone) (without-distinct logs zone) d

-- the same array has the same size
pub same-size : (block_bytes n : ℕ) (logs other : List (List Batch)) → array_of block_bytes n logs ≡ array_of block_bytes n other → encoded_size n logs ≡ encoded_size n other
same-size block_bytes n logs other e = sym (array_length block_bytes n logs) ∙ ap length e ∙ array_length block_bytes n other

-- an empty zone is spare
pub empty_spare : EmptySpare
empty_spare block_bytes limit n zone logs sound spare =
    let size = same-size block_bytes n (without logs zone) logs spare in
    record {
      array_is = spare;
      size_is = size;
      sound = record {
        numbers = without-numbers (λ s. s < limit) logs zone sound.numbers;
        inside = rw size (all-set (AllByRecursion (IsInside (encoded_size n logs))) logs zone [] sound.inside tt);
        distinct = without-distinct logs zone sound.distinct;
      };
    }

-- ---- what is spare stays spare

without-next : (limit n size zone : ℕ) (logs : List (List Batch)) (batch : Batch) → encoded_size n (without logs zone) ≡ encoded_size n logs → IsNext limit n logs size batch → IsNext limit n (without logs zone) size batch
without-next limit n size zone logs batch same next = record {
  has = next.has;
  grows = omega (arith, same, next.grows);
  inside = next.inside;
  number = next.number;
  greatest = without-numbers (λ s. s < batch.heading.sequence) logs zone next.greatest;
}

keeps-spare : (block_bytes limit n zone spare size : ℕ) (logs : List (List Batch)) (batch : Batch) → zone < length logs → zone ≢ spare → AreSound limit n logs → IsNext limit n logs size batch
    → IsSpare block_bytes n logs spare → IsSpare block_bytes n (append_log logs zone batch) spare
keeps-spare block_bytes limit n zone spare size logs batch lt apart sound next is =
    let less = without logs spare in
    let emptied = empty_spare block_bytes limit n spare logs sound is in
    let log = get_or logs zone [] in
    let here : get_or less zone [] ≡ log = get_or-set_other logs spare zone [] [] apart in
    let range : zone < length less = omega (arith, lt, length-set logs spare []) in
    let swapped : without (append_log logs zone batch) spare ≡ append_log less zone batch = set_comm logs zone spare (log ++ batch ∷ []) [] apart ∙ ap (λ (l : List Batch). set less zone (l ++ batch ∷ [])) (sym here) in
    let same : new_records less zone batch ≡ new_records logs zone batch = ap (λ (l : List Batch). batch_records zone (log_size l) batch) here in
    let a = append_tells (List ℕ) (shown block_bytes) limit n zone size less batch range emptied.sound (next_is_last limit n zone size less batch range (without-next limit n size spare logs batch emptied.size_is next)) in
    let b = append_tells (List ℕ) (shown block_bytes) limit n zone size logs batch lt sound (next_is_last limit n zone size logs batch lt next) in
    ap (array_of block_bytes n) swapped ∙ a ∙ ap (λ (rs : List Record). over (shown block_bytes) rs (extended (shown block_bytes None) size (array_of block_bytes n less))) same
    ∙ ap (λ (xs : List (List ℕ)). over (shown block_bytes) (new_records logs zone batch) (extended (shown block_bytes None) size xs)) is ∙ sym b

-- the first batch of a zone that has one stays the first
first-append : (log : List Batch) (b : Batch) (before : Option ℕ) → IsBefore (first_sequence log) before → first_sequence (log ++ b ∷ []) ≡ first_sequence log
first-append [] b before is = absurd is
first-append (x ∷ log) b before is = refl

-- an Append keeps another spare zone
pub append_keeps_spare : AppendKeepsSpare
append_keeps_spare block_bytes limit n zone spare size logs batch lt apart sound next = record {
  spare_is = kept;
  half_clean = λ half. (
      let other : log_at (append_log logs zone batch) spare ≡ log_at logs spare = get_or-set_other logs zone spare (log_at logs zone ++ batch ∷ []) [] (λ same. apart (sym same)) in
      record {
        victim = half.victim;
        apart = half.apart;
        moves = rw other half.moves;
        older = rw (other, victim half) half.older;
        spare = kept half.spare;
      }
      );
}
  where
    kept : IsSpare block_bytes n logs spare → IsSpare block_bytes n (append_log logs zone batch) spare
    kept = keeps-spare block_bytes limit n zone spare size logs batch lt apart sound next

    victim : (half : IsHalfClean block_bytes n logs spare) → first_sequence (log_at (append_log logs zone batch) half.victim) ≡ first_sequence (log_at logs half.victim)
    victim half = elim (cases_eq half.victim zone) as (λ _. first_sequence (log_at (append_log logs zone batch) half.victim) ≡ first_sequence (log_at logs half.victim)) [
      | inl same ↦ (
          let there : log_at (append_log logs zone batch) zone ≡ log_at logs zone ++ batch ∷ [] = get_or-set_same logs zone (log_at logs zone ++ batch ∷ []) [] lt in
          rw (same, there) (first-append (log_at logs zone) batch (first_sequence (log_at logs spare)) (rw same at half.older))
          )
      | inr ne ↦ ap first_sequence (get_or-set_other logs zone half.victim (log_at logs zone ++ batch ∷ []) [] ne)
    ]
