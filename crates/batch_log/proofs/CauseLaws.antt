-- A block has no cause exactly where it is a header block.
use Rattle.std.proofs.Common.{◌≡◌, ◌⊎◌, inl, inr, ℕ, zero, suc, ◌+◌, ◌-◌, ◌*◌, ◌<◌, ◌≤◌, ◌^◌, Bool, true, false, not, ◌||◌, eqb, ltb, List, [], ◌∷◌, ◌++◌, length, take, drop, replicate, Option, Some, None, refl, sym, ap, ◌∙◌, arith}
use Rattle.std.specs.Prelude.{nat_eq, nat_le, ◌==◌, IfSome}
use Rattle.std.specs.List.{flat_map, list_any, starts_with, AllByRecursion, IsDistinct}
use Rattle.std.specs.Cmp.Lexicographic.{same_text}
use Rattle.std.proofs.lemmas.Bool.{eqb-true, ltb-true, ltb-false, leb-true, le-ltb, le-leb, and_parts, not-false, or_cases}
use Rattle.std.proofs.lemmas.List.{drop_at, drop-drop, length-drop, take-append-drop}
use Rattle.byteorder.specs.Endian.{little_from, little_bytes}
use Rattle.byteorder.specs.Numbers.{little_number-reads_back}
use Rattle.batch_log.specs.declared.fault.LogFault.{LogFault}
use Rattle.batch_log.specs.declared.header.Kind.{Kind}
use Rattle.batch_log.specs.declared.header.Kind.TheVariants.{Host, Move}
use Rattle.batch_log.specs.declared.header.Entry.{Entry}
use Rattle.batch_log.specs.Header.{Heading, IsHeading, IsHeaderBlock, IsNoHeader, IsSize, entry_word_bytes, entry_room, entry_word, head_size, header_block, kind_code, header_magic, size_word, version_of}
use Rattle.batch_log.specs.Reading.{IsView, count_in, entries_in, entries_of, entry_of, heading_in, kind_in, kind_of, sequence_in, said_size, size_word_in, source_in, version_in}
use Rattle.batch_log.specs.Causes.{entry_blocks, first_cause, has_early_size, has_host_source, has_odd_size, header_checks, header_fault, is_kind, is_size, is_version, is_zero, repeats, rest_in}
use Rattle.batch_log.proofs.HeaderLaws.{header_again, version_again, word_small}
use Rattle.batch_log.proofs.EntryLaws.{entries_length}
use Rattle.batch_log.proofs.NumberLaws.{AreBytes, drop-bytes, number-below, number_in_front}
use Rattle.batch_log.proofs.Writing.{length-entries}

-- ---- tests

AllFail : List (Bool × LogFault) → Type 0
AllFail checks = AllByRecursion (λ (check : Bool × LogFault). check.0 ≡ false) checks

all_fail : (checks : List (Bool × LogFault)) → first_cause checks ≡ None → AllFail checks
unfolding AllFail
all_fail [] none = tt
all_fail (check ∷ checks) none = by check.0 refl (all_fail checks)
  where
    by : (b : Bool) → check.0 ≡ b → (first_cause checks ≡ None → AllByRecursion (λ (c : Bool × LogFault). c.0 ≡ false) checks) → AllByRecursion (λ (c : Bool × LogFault). c.0 ≡ false) (check ∷ checks)
    by true e others = let some : Some check.1 ≡ None = rw e at none in absurd (cc)
    by false e others = let rest : first_cause checks ≡ None = rw e at none in (e, others rest)

no_cause : (checks : List (Bool × LogFault)) → AllFail checks → first_cause checks ≡ None
unfolding AllFail
no_cause [] all = refl
no_cause (check ∷ checks) all = rw all.0 (no_cause checks all.1)

one_or_two : (n : ℕ) → not (n == 1 || n == 2) ≡ false → (n ≡ 1) ⊎ (n ≡ 2)
one_or_two n e = at (or_cases (eqb n 1) (eqb n 2) (not-false (eqb n 1 || eqb n 2) e))
  where
    at : (eqb n 1 ≡ true) ⊎ (eqb n 2 ≡ true) → (n ≡ 1) ⊎ (n ≡ 2)
    at (inl e) = inl (eqb-true n 1 e)
    at (inr e) = inr (eqb-true n 2 e)

-- ---- distinct numbers

differ : (x : ℕ) (xs : List ℕ) → list_any (λ y. nat_eq x y) xs ≡ false → AllByRecursion (λ y. eqb x y ≡ false) xs
differ x [] none = tt
differ x (y ∷ ys) none = by (eqb x y) refl none (differ x ys)
  where
    by : (b : Bool) → eqb x y ≡ b → (b || list_any (λ z. nat_eq x z) ys) ≡ false → (list_any (λ z. nat_eq x z) ys ≡ false → AllByRecursion (λ z. eqb x z ≡ false) ys) → AllByRecursion (λ z. eqb x z ≡ false) (y ∷ ys)
    by true e h others = absurd (cc)
    by false e h others = (e, others h)

differ-back : (x : ℕ) (xs : List ℕ) → AllByRecursion (λ y. eqb x y ≡ false) xs → list_any (λ y. nat_eq x y) xs ≡ false
differ-back x [] all = refl
differ-back x (y ∷ ys) all = rw all.0 (differ-back x ys all.1)

distinct : (xs : List ℕ) → repeats xs ≡ false → IsDistinct nat_eq xs
unfolding IsDistinct
distinct [] none = tt
distinct (x ∷ xs) none = by (list_any (λ y. nat_eq x y) xs) refl none (distinct xs)
  where
    by : (b : Bool) → list_any (λ y. nat_eq x y) xs ≡ b → (b || repeats xs) ≡ false → (repeats xs ≡ false → IsDistinct nat_eq xs) → AllByRecursion (λ y. eqb x y ≡ false) xs × IsDistinct nat_eq xs
    by true e h others = absurd (cc)
    by false e h others = (differ x xs e, others h)

distinct-back : (xs : List ℕ) → IsDistinct nat_eq xs → repeats xs ≡ false
unfolding IsDistinct
distinct-back [] all = refl
distinct-back (x ∷ xs) all = rw (differ-back x xs all.0) (distinct-back xs all.1)

-- ---- zeros

-- bytes that are found to be zeros are zeros
pub all_zeros : (xs : List ℕ) → is_zero xs ≡ true → xs ≡ replicate (length xs) 0
all_zeros [] e = refl
all_zeros (x ∷ xs) e =
    let both = and_parts (eqb x 0) (is_zero xs) e in
    rw (eqb-true x 0 both.0) (ap (λ (ys : List ℕ). 0 ∷ ys) (all_zeros xs both.1))

-- and zeros are found to be zeros
pub zeros_zero : (n : ℕ) → is_zero (replicate n 0) ≡ true
zeros_zero zero = refl
zeros_zero (suc n) = zeros_zero n

-- ---- entries

word_again : (w : ℕ) → entry_word (entry_of w) ≡ w
word_again w = by (ltb w (2 ^ 63)) refl
  where
    by : (b : Bool) → ltb w (2 ^ 63) ≡ b → entry_word (entry_of w) ≡ w
    by true e = rw e (omega arith)
    by false e = let le = ltb-false w (2 ^ 63) e in rw e (omega arith)

block_small : (w : ℕ) → w < 2 ^ 64 → (entry_of w).block < 2 ^ 63
block_small w lt = by (ltb w (2 ^ 63)) refl
  where
    by : (b : Bool) → ltb w (2 ^ 63) ≡ b → (entry_of w).block < 2 ^ 63
    by true e = let less = ltb-true w (2 ^ 63) e in rw e less
    by false e = let le = ltb-false w (2 ^ 63) e in rw e (omega arith)

entries_encoded : (count : ℕ) (bytes : List ℕ) → 8 * count ≤ length bytes → AreBytes bytes → bytes ≡ flat_map entry_word_bytes (entries_in count bytes) ++ drop (8 * count) bytes
entries_encoded zero bytes le all = refl
entries_encoded (suc n) bytes le all =
    let front : bytes ≡ little_bytes 8 (little_from 0 8 bytes) ++ drop 8 bytes = number_in_front 0 8 8 bytes refl (omega arith) all in
    let rest = entries_encoded n (drop 8 bytes) (omega (arith, length-drop 8 bytes)) (drop-bytes 8 bytes all) in
    let left : drop (8 * n) (drop 8 bytes) ≡ drop (8 * suc n) bytes = drop-drop (8 * n) 8 bytes ∙ ap (λ (k : ℕ). drop k bytes) (omega arith) in
    let word = word_again (little_from 0 8 bytes) in
    let tail : drop 8 bytes ≡ flat_map entry_word_bytes (entries_in n (drop 8 bytes)) ++ drop (8 * suc n) bytes = rw left at rest in
    front ∙ rw word (ap (λ (ys : List ℕ). little_bytes 8 (little_from 0 8 bytes) ++ ys) tail)

blocks_small : (count : ℕ) (bytes : List ℕ) → AreBytes bytes → AllByRecursion (λ (e : Entry). e.block < 2 ^ 63) (entries_in count bytes)
blocks_small zero bytes all = tt
blocks_small (suc n) bytes all =
    let word : little_from 0 8 bytes < 2 ^ 64 = number-below 8 bytes all in
    (block_small (little_from 0 8 bytes) word, blocks_small n (drop 8 bytes) (drop-bytes 8 bytes all))

-- ---- a block with no cause

-- the bytes of a header block, from its numbers
layout : ℕ → ℕ → ℕ → ℕ → ℕ → ℕ → List ℕ → List ℕ
layout version kind count sequence source word more =
    header_magic ++ (little_bytes 2 version ++ (little_bytes 2 kind ++ (little_bytes 4 count ++ (little_bytes 8 sequence ++ (little_bytes 4 source ++ (little_bytes 4 word ++ more))))))

header_layout : (size : ℕ) (h : Heading)
    → header_block size h ≡ layout (version_of h.size) (kind_code h.kind) (length h.entries) h.sequence h.source (size_word h.size) (flat_map entry_word_bytes h.entries ++ replicate (size - head_size - 8 * length h.entries) 0)
unfolding header_block layout
header_layout size h = refl

block_layout : (block : List ℕ) → head_size ≤ length block → AreBytes block → take 8 block ≡ header_magic
    → block ≡ layout (version_in block) (kind_in block) (count_in block) (sequence_in block) (source_in block) (size_word_in block) (drop head_size block)
unfolding layout
block_layout block le all front =
    let begin : block ≡ header_magic ++ drop 8 block = sym (take-append-drop 8 block) ∙ ap (λ (xs : List ℕ). xs ++ drop 8 block) front in
    let e1 = number_in_front 8 2 10 block refl (omega arith) all in
    let e2 = number_in_front 10 2 12 block refl (omega arith) all in
    let e3 = number_in_front 12 4 16 block refl (omega arith) all in
    let e4 = number_in_front 16 8 24 block refl (omega arith) all in
    let e5 = number_in_front 24 4 28 block refl (omega arith) all in
    let e6 = number_in_front 28 4 32 block refl (omega arith) all in
    begin
    ∙ ap (λ (xs : List ℕ). header_magic ++ xs) (e1
    ∙ ap (λ (xs : List ℕ). little_bytes 2 (version_in block) ++ xs) (e2
    ∙ ap (λ (xs : List ℕ). little_bytes 2 (kind_in block) ++ xs) (e3
    ∙ ap (λ (xs : List ℕ). little_bytes 4 (count_in block) ++ xs) (e4
    ∙ ap (λ (xs : List ℕ). little_bytes 8 (sequence_in block) ++ xs) (e5
    ∙ ap (λ (xs : List ℕ). little_bytes 4 (source_in block) ++ xs) e6)))))

same_layout : (v v' k k' c c' s s' o o' w w' : ℕ) (m m' : List ℕ) → v ≡ v' → k ≡ k' → c ≡ c' → s ≡ s' → o ≡ o' → w ≡ w' → m ≡ m' → layout v k c s o w m ≡ layout v' k' c' s' o' w' m'
same_layout v v' k k' c c' s s' o o' w w' m m' e1 e2 e3 e4 e5 e6 e7 = rw (e1, e2, e3, e4, e5, e6, e7) refl

kind_back : (n : ℕ) → (n ≡ 1) ⊎ (n ≡ 2) → kind_code (kind_of n) ≡ n
kind_back n (inl e) = rw e refl
kind_back n (inr e) = rw e refl

version_back : (version word : ℕ) → (version ≡ 1) ⊎ (version ≡ 2) → version_of (said_size version word) ≡ version
version_back version word (inl e) = rw e refl
version_back version word (inr e) = rw e refl

word_back : (version word : ℕ) → (version ≡ 1) ⊎ (version ≡ 2) → has_early_size version word ≡ false → size_word (said_size version word) ≡ word
word_back version word (inl e) early =
    let zero_word : not (eqb word 0) ≡ false = rw e at early in
    rw e (sym (eqb-true word 0 (not-false (eqb word 0) zero_word)))
word_back version word (inr e) early = rw e refl

size_back : (version word : ℕ) → (version ≡ 1) ⊎ (version ≡ 2) → has_odd_size version word ≡ false → IfSome (said_size version word) IsSize
size_back version word (inl e) odd = rw e tt
size_back version word (inr e) odd =
    let sized : not (is_size word) ≡ false = rw e at odd in
    let both = and_parts (nat_le 1 word) (nat_le word (2 ^ 31)) (not-false (is_size word) sized) in
    let size : IsSize word = (leb-true 1 word both.0, leb-true word (2 ^ 31) both.1) in
    rw e size

host_back : (kind source : ℕ) → (kind ≡ 1) ⊎ (kind ≡ 2) → has_host_source kind source ≡ false → kind_of kind ≡ Host → source ≡ 0
host_back kind source (inl e) none host =
    let zero_source : not (eqb source 0) ≡ false = rw e at none in
    eqb-true source 0 (not-false (eqb source 0) zero_source)
host_back kind source (inr e) none host = let move : Move ≡ Host = rw e at host in absurd (cc)

-- a block with no fault is the header of a view
pub accepted : (block : List ℕ) → head_size ≤ length block → AreBytes block → header_fault block ≡ None → IsView block
unfolding header_fault heading_in AllFail
accepted block le all none =
    let passes : AllFail (header_checks block) = all_fail (header_checks block) none in
    let begins : take 8 block ≡ header_magic = sym (same_text header_magic (take 8 block) (sym (not-false (starts_with nat_eq block header_magic) passes.0))) in
    let version = one_or_two (version_in block) passes.1.0 in
    let kind = one_or_two (kind_in block) passes.1.1.0 in
    let count : count_in block ≤ entry_room (length block) = ltb-false (entry_room (length block)) (count_in block) passes.1.1.1.0 in
    let long = entries_length (count_in block) (drop head_size block) in
    let room : head_size + 8 * count_in block ≤ length block = omega (arith, count, le) in
    let after = drop-bytes head_size block all in
    let zeros = all_zeros (rest_in block) (not-false (is_zero (rest_in block)) passes.1.1.1.1.1.1.1.0) in
    let left : length (rest_in block) ≡ length block - head_size - 8 * length (entries_of block) = omega (arith, long, room, length-drop (head_size + 8 * count_in block) block) in
    let rest : drop (8 * count_in block) (drop head_size block) ≡ replicate (length block - head_size - 8 * length (entries_of block)) 0 =
    drop-drop (8 * count_in block) head_size block ∙ zeros ∙ ap (λ (n : ℕ). replicate n 0) left in
    let more : drop head_size block ≡ flat_map entry_word_bytes (entries_of block) ++ replicate (length block - head_size - 8 * length (entries_of block)) 0 =
    entries_encoded (count_in block) (drop head_size block) (omega (arith, room, length-drop head_size block)) after ∙ ap (λ (xs : List ℕ). flat_map entry_word_bytes (entries_of block) ++ xs) rest in
    record {
      is = record {
        says = record {
          room = omega (arith, long, count);
          sequence = number-below 8 (drop 16 block) (drop-bytes 16 block all);
          source = number-below 4 (drop 24 block) (drop-bytes 24 block all);
          host = host_back (kind_in block) (source_in block) kind passes.1.1.1.1.1.1.0;
          size = size_back (version_in block) (size_word_in block) version passes.1.1.1.1.0;
          blocks = blocks_small (count_in block) (drop head_size block) after;
          distinct = distinct (entry_blocks (entries_of block)) passes.1.1.1.1.1.1.1.1.0;
        };
        encoded = block_layout block le all begins
            ∙ same_layout _ _ _ _ _ _ _ _ _ _ _ _ _ _ (sym (version_back (version_in block) (size_word_in block) version)) (sym (kind_back (kind_in block) kind)) (sym long) refl refl
            (sym (word_back (version_in block) (size_word_in block) version passes.1.1.1.1.1.0)) more
            ∙ sym (header_layout (length block) (heading_in block));
      };
      room = room;
    }

-- ---- a header block has no cause

version_there : (size : ℕ) (h : Heading) → version_in (header_block size h) ≡ version_of h.size
unfolding header_block
version_there size h = version_again h.size

kind_there : (size : ℕ) (h : Heading) → kind_in (header_block size h) ≡ kind_code h.kind
unfolding header_block
kind_there size h = code_again h.kind
  where
    code_again : (k : Kind) → little_from 0 2 (little_bytes 2 (kind_code k)) ≡ kind_code k
    code_again Host = refl
    code_again Move = refl

count_there : (size : ℕ) (h : Heading) → size < 2 ^ 32 → IsHeading size h → count_in (header_block size h) ≡ length h.entries
unfolding header_block
count_there size h small is =
    little_number-reads_back 4 (length h.entries)
    (little_bytes 8 h.sequence ++ (little_bytes 4 h.source ++ (little_bytes 4 (size_word h.size) ++ (flat_map entry_word_bytes h.entries ++ replicate (size - head_size - 8 * length h.entries) 0)))) (omega (arith, is.room))

source_there : (size : ℕ) (h : Heading) → IsHeading size h → source_in (header_block size h) ≡ h.source
unfolding header_block
source_there size h is =
    little_number-reads_back 4 h.source (little_bytes 4 (size_word h.size) ++ (flat_map entry_word_bytes h.entries ++ replicate (size - head_size - 8 * length h.entries) 0)) (omega (arith, is.source))

word_there : (size : ℕ) (h : Heading) → IsHeading size h → size_word_in (header_block size h) ≡ size_word h.size
unfolding header_block
word_there size h is = little_number-reads_back 4 (size_word h.size) (flat_map entry_word_bytes h.entries ++ replicate (size - head_size - 8 * length h.entries) 0) (word_small h.size is.size)

rest_there : (size : ℕ) (h : Heading) → drop (head_size + 8 * length h.entries) (header_block size h) ≡ replicate (size - head_size - 8 * length h.entries) 0
unfolding header_block
rest_there size h =
    sym (drop-drop (8 * length h.entries) head_size (header_block size h))
    ∙ drop_at (flat_map entry_word_bytes h.entries) (replicate (size - head_size - 8 * length h.entries) 0) (8 * length h.entries) (length-entries h.entries)

begins_there : (size : ℕ) (h : Heading) → starts_with nat_eq (header_block size h) header_magic ≡ true
unfolding header_block
begins_there size h = refl

entries_there : (size : ℕ) (h : Heading) → size < 2 ^ 32 → IsHeading size h → entries_of (header_block size h) ≡ h.entries
unfolding heading_in
entries_there size h small is = ap (λ (k : Heading). k.entries) (header_again size h small is)

version_passes : (size : Option ℕ) → not (is_version (version_of size)) ≡ false
version_passes None = refl
version_passes (Some n) = refl

kind_passes : (k : Kind) → not (is_kind (kind_code k)) ≡ false
kind_passes Host = refl
kind_passes Move = refl

size_passes : (size : Option ℕ) → IfSome size IsSize → has_odd_size (version_of size) (size_word size) ≡ false
size_passes None is = refl
size_passes (Some n) is = rw (le-leb 1 n is.0, le-leb n (2 ^ 31) is.1) refl

early_passes : (size : Option ℕ) → has_early_size (version_of size) (size_word size) ≡ false
early_passes None = refl
early_passes (Some n) = refl

host_passes : (k : Kind) (source : ℕ) → (k ≡ Host → source ≡ 0) → has_host_source (kind_code k) source ≡ false
host_passes Host source host = rw (host refl) refl
host_passes Move source host = refl

-- and a header has no fault
pub no_fault : (block : List ℕ) (h : Heading) → length block < 2 ^ 32 → IsHeaderBlock (length block) block h → header_fault block ≡ None
unfolding header_fault AllFail
no_fault block h small is =
    let size = length block in
    let made = is.encoded in
    let version : version_in block ≡ version_of h.size = ap version_in made ∙ version_there size h in
    let kind : kind_in block ≡ kind_code h.kind = ap kind_in made ∙ kind_there size h in
    let count : count_in block ≡ length h.entries = ap count_in made ∙ count_there size h small is.says in
    let source : source_in block ≡ h.source = ap source_in made ∙ source_there size h is.says in
    let word : size_word_in block ≡ size_word h.size = ap size_word_in made ∙ word_there size h is.says in
    let rest : rest_in block ≡ replicate (size - head_size - 8 * length h.entries) 0 =
    ap (λ (n : ℕ). drop (head_size + 8 * n) block) count ∙ ap (λ (xs : List ℕ). drop (head_size + 8 * length h.entries) xs) made ∙ rest_there size h in
    let entries : entries_of block ≡ h.entries = ap entries_of made ∙ entries_there size h small is.says in
    let begins : starts_with nat_eq block header_magic ≡ true = ap (λ (xs : List ℕ). starts_with nat_eq xs header_magic) made ∙ begins_there size h in
    no_cause (header_checks block) (
      ap not begins,
      (
        ap (λ (n : ℕ). not (is_version n)) version ∙ version_passes h.size,
        (
          ap (λ (n : ℕ). not (is_kind n)) kind ∙ kind_passes h.kind,
          (
            le-ltb (entry_room size) (count_in block) (omega (arith, count, is.says.room)),
            (
              rw (version, word) (size_passes h.size is.says.size),
              (
                rw (version, word) (early_passes h.size),
                (
                  rw (kind, source) (host_passes h.kind h.source is.says.host),
                  (
                    ap (λ (xs : List ℕ). not (is_zero xs)) rest ∙ ap not (zeros_zero (size - head_size - 8 * length h.entries)),
                    (
                      ap (λ (es : List Entry). repeats (entry_blocks es)) entries ∙ distinct-back (entry_blocks h.entries) is.says.distinct,
                      tt,
                    ),
                  ),
                ),
              ),
            ),
          ),
        ),
      ),
    )

-- a block with a cause is no header block
pub refused : (block : List ℕ) (f : LogFault) → length block < 2 ^ 32 → header_fault block ≡ Some f → IsNoHeader block
refused block f small some h is = let none = no_fault block h small is in absurd (cc)
