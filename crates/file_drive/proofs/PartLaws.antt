-- Parts of a file, and a change beside them.
use Rattle.std.proofs.Common.{◌≡◌, ◌⊎◌, ℕ, zero, suc, ◌+◌, ◌-◌, ◌*◌, ◌<◌, ◌≤◌, ◌/◌, ◌++◌, ◌^◌, List, [], ◌∷◌, length, slice_index, set, take, drop, min, refl, sym, ap, ◌∙◌, inl, inr, arith}
use Rattle.std.specs.Int.{w64, from_le_bytes, to_le_bytes}
use Rattle.std.proofs.lemmas.Grind.{same_number_lists}
use Rattle.std.proofs.lemmas.List.{drop-drop, drop-take, get_or-drop, get_or-set_same, get_or-take, length-drop, length-set, length-take, length-take-le, take-set, take-take, take_more}
use Rattle.std.proofs.lemmas.Nat.{from_le_bytes-to_le_bytes_8}
use Rattle.sqlite_disk.specs.Disk.{Follows, Holds}
use Rattle.file_bytes.specs.Changes.{SameBeside}
use Rattle.file_drive.specs.Layout.{part, word_in}
use Rattle.file_drive.specs.Tables.{words_in}

-- two ranges share no byte
abbrev pub Apart : ℕ → ℕ → ℕ → ℕ → Type 0
Apart at n from m = (from + m ≤ at) ⊎ (at + n ≤ from)

-- ---- changes

pub beside-refl : (at n : ℕ) (file : List ℕ) → SameBeside at n file file
beside-refl at n file = record { long = refl; below = λ i low. refl; above = λ i high. refl }

pub beside-both : (at n : ℕ) (old middle new : List ℕ) → SameBeside at n old middle → SameBeside at n middle new → SameBeside at n old new
beside-both at n old middle new first second = record {
  long = second.long ∙ first.long;
  below = λ i low. second.below i low ∙ first.below i low;
  above = λ i high. second.above i high ∙ first.above i high;
}

-- a change in a part of a range is one in the range
pub beside-wider : (at n from m : ℕ) (old new : List ℕ) → SameBeside at n old new → from ≤ at → at + n ≤ from + m → SameBeside from m old new
beside-wider at n from m old new beside low high = record {
  long = beside.long;
  below = λ i below. beside.below i (omega (arith, below, low));
  above = λ i above. beside.above i (omega (arith, above, high));
}

-- ---- parts

part-at : (file : List ℕ) (from n i : ℕ) → i < n → slice_index (part file from n) i ≡ slice_index file (from + i)
part-at file from n i low = get_or-take n (drop from file) i 0 low ∙ get_or-drop from file i 0

length-part : (file : List ℕ) (from n : ℕ) → length (part file from n) ≡ min n (length file - from)
length-part file from n = length-take n (drop from file) ∙ ap (min n) (length-drop from file)

-- a part apart from a change is the same
pub part-beside : (at n from m : ℕ) (old new : List ℕ) → SameBeside at n old new → Apart at n from m → part new from m ≡ part old from m
part-beside at n from m old new beside apart =
    let long : length (part new from m) ≡ length (part old from m) =
    length-part new from m ∙ ap (λ (k : ℕ). min m (k - from)) beside.long ∙ sym (length-part old from m) in
    same_number_lists (part new from m) (part old from m) long (λ k low.
    let within : k < m = omega (arith, low, length-part new from m) in
    let same : slice_index new (from + k) ≡ slice_index old (from + k) = elim apart [
      | inl before ↦ beside.below (from + k) (omega (arith, before, within))
      | inr after ↦ beside.above (from + k) (omega (arith, after))
    ] in
    part-at new from m k within ∙ same ∙ sym (part-at old from m k within))

-- a part that holds these bytes is these bytes
pub part-held : (file : List ℕ) (at : ℕ) (bytes : List ℕ) → Holds file at bytes → part file at (length bytes) ≡ bytes
part-held file at bytes holds =
    let long : length (part file at (length bytes)) ≡ length bytes =
    length-take-le (length bytes) (drop at file) (omega (arith, holds.within, length-drop at file)) in
    same_number_lists (part file at (length bytes)) bytes long (λ k low.
    let within : k < length bytes = omega (arith, low, long) in
    part-at file at (length bytes) k within ∙ holds.each k within)

-- ---- words

-- a word that was written
pub word-held : (file : List ℕ) (at word : ℕ) → word < 2 ^ 64 → Holds file at (to_le_bytes w64 word) → word_in file at ≡ word
unfolding word_in
word-held file at word fits holds = ap (from_le_bytes w64) (part-held file at (to_le_bytes w64 word) holds) ∙ from_le_bytes-to_le_bytes_8 word fits

-- a word beside a change
pub word-beside : (at n from : ℕ) (old new : List ℕ) → SameBeside at n old new → Apart at n from 8 → word_in new from ≡ word_in old from
unfolding word_in
word-beside at n from old new beside apart = ap (from_le_bytes w64) (part-beside at n from 8 old new beside apart)

pub length-words : (file : List ℕ) (at count : ℕ) → length (words_in file at count) ≡ count
length-words file at zero = refl
length-words file at (suc count) = let rest = length-words file (at + 8) count in omega (arith, rest)

-- a table beside a change
pub words-beside : (at n from count : ℕ) (old new : List ℕ) → SameBeside at n old new → Apart at n from (8 * count) → words_in new from count ≡ words_in old from count
words-beside at n from zero old new beside apart = refl
words-beside at n from (suc count) old new beside apart =
    let first : Apart at n from 8 = elim apart [ inl before ↦ inl (omega (arith, before)) | inr after ↦ inr after ] in
    let rest : Apart at n (from + 8) (8 * count) = elim apart [ inl before ↦ inl (omega (arith, before)) | inr after ↦ inr (omega (arith, after)) ] in
    rw (word-beside at n from old new beside first, words-beside at n (from + 8) count old new beside rest) refl

-- a table of which one word was written
pub words-put : (from count i word : ℕ) (old new : List ℕ) → i < count → SameBeside (from + 8 * i) 8 old new → word_in new (from + 8 * i) ≡ word
    → words_in new from count ≡ set (words_in old from count) i word
words-put from zero i word old new low beside is = absurd (omega (arith, low))
words-put from (suc count) zero word old new low beside is =
    let here : from + 8 * 0 ≡ from = omega arith in
    rw (ap (word_in new) (sym here) ∙ is, words-beside (from + 8 * 0) 8 (from + 8) count old new beside (inr (omega arith))) refl
words-put from (suc count) (suc i) word old new low beside is =
    let there : from + 8 * suc i ≡ from + 8 + 8 * i = omega arith in
    let beside' : SameBeside (from + 8 + 8 * i) 8 old new = rw there at beside in
    rw (word-beside (from + 8 * suc i) 8 from old new beside (inl (omega arith)), words-put (from + 8) count i word old new (omega (arith, low)) beside' (rw there at is)) refl

-- ---- words one after the other

-- words of which the next was put
pub put-next : (words wanted : List ℕ) (i : ℕ) → i < length words → i < length wanted → take i words ≡ take i wanted
    → take (i + 1) (set words i (slice_index wanted i)) ≡ take (i + 1) wanted
put-next words wanted i low low' same =
    let long : i < length (set words i (slice_index wanted i)) = omega (arith, low, length-set words i (slice_index wanted i)) in
    take_more (set words i (slice_index wanted i)) i 0 long
    ∙ rw (get_or-set_same words i (slice_index wanted i) 0 low, take-set words i (slice_index wanted i), same) refl
    ∙ sym (take_more wanted i 0 low')

-- all that follow changes in a range
pub follows-both : (at n : ℕ) (old middle new : List ℕ → Type 0) → Follows (SameBeside at n) old middle → Follows (SameBeside at n) middle new → Follows (SameBeside at n) old new
follows-both at n old middle new first second bytes may =
    let last = second bytes may in
    let before = first last.0 last.1 in
    (before.0, before.1, beside-both at n before.0 last.0 bytes before.2 last.2)

-- a word of a table
pub words-at : (file : List ℕ) (from count i : ℕ) → i < count → slice_index (words_in file from count) i ≡ word_in file (from + 8 * i)
words-at file from zero i low = absurd (omega (arith, low))
words-at file from (suc count) zero low = ap (word_in file) (omega arith)
words-at file from (suc count) (suc i) low = words-at file (from + 8) count i (omega (arith, low)) ∙ ap (word_in file) (omega arith)

-- ---- words that are read

-- the first words of a table, and the next
pub words-next : (file : List ℕ) (at count : ℕ) → words_in file at (suc count) ≡ words_in file at count ++ (word_in file (at + 8 * count) ∷ [])
words-next file at zero = let here : at + 8 * 0 ≡ at = omega arith in rw here refl
words-next file at (suc count) =
    let there : at + 8 + 8 * count ≡ at + 8 * suc count = omega arith in
    ap (λ (words : List ℕ). word_in file at ∷ words) (words-next file (at + 8) count ∙ rw there refl)

-- a word of a part is one of the file
word-of-part : (file : List ℕ) (at n from : ℕ) → from + 8 ≤ n → word_in (part file at n) from ≡ word_in file (at + from)
unfolding word_in
word-of-part file at n from low =
    let rest = n - from in
    let all : n ≡ from + rest = omega (arith, low) in
    let inner : drop from (part file at n) ≡ take rest (drop (at + from) file) =
    ap (λ (k : ℕ). drop from (take k (drop at file))) all ∙ drop-take from rest (drop at file) ∙ ap (take rest) (drop-drop from at file ∙ ap (λ (k : ℕ). drop k file) (omega arith)) in
    ap (from_le_bytes w64) (ap (take 8) inner ∙ take-take 8 rest (drop (at + from) file) (omega (arith, low)))

-- so the words of a part are those of the file
words-of-part : (file : List ℕ) (at n from count : ℕ) → from + 8 * count ≤ n → words_in (part file at n) from count ≡ words_in file (at + from) count
words-of-part file at n from zero low = refl
words-of-part file at n from (suc count) low =
    let there : at + (from + 8) ≡ at + from + 8 = omega arith in
    rw (word-of-part file at n from (omega (arith, low)), words-of-part file at n (from + 8) count (omega (arith, low)), there) refl

-- the words of bytes that were read
pub words-read : (file bytes : List ℕ) (at count : ℕ) → length bytes ≡ 8 * count → Holds file at bytes → words_in bytes 0 (length bytes / 8) ≡ words_in file at count
words-read file bytes at count long holds =
    let many : length bytes / 8 ≡ count = omega (arith, long) in
    let here : at + 0 ≡ at = omega arith in
    rw (many, sym (part-held file at bytes holds)) (words-of-part file at (length bytes) 0 count (omega (arith, long)) ∙ rw here refl)
