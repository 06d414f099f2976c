-- A running sum is known by what comes of it: over the same bytes, sums that differ give sums that differ.
use Rattle.std.proofs.Common.{◌≡◌, ℕ, zero, suc, ◌+◌, ◌<◌, ◌%◌, ◌^◌, false, List, [], ◌∷◌, ◌++◌, length, sym, ap, ◌∙◌, refl, arith}
use Rattle.std.proofs.lemmas.List.{drop_at, take_at}
use Rattle.std.specs.Prelude.{take, drop}
use Rattle.byteorder.specs.Endian.{little_bytes, little_from}
use Rattle.byteorder.specs.Numbers.{little_number-reads_back}
use Rattle.sqlite_wal.specs.Format.{checksum, sum_pairs, sum_step}
use Rattle.drive_journal.specs.Change.{Change, IsSum, Sum, last_sum, next_sum, sum_bytes, sum_over}

-- lists with fronts of one length that are the same have the same fronts and rests
pub same-front : (a b x y : List ℕ) → length a ≡ length b → a ++ x ≡ b ++ y → (a ≡ b) × (x ≡ y)
same-front a b x y long same = (
  sym (take_at a x (length b) long) ∙ ap (λ (l : List ℕ). take (length b) l) same ∙ take_at b y (length b) refl,
  sym (drop_at a x (length b) long) ∙ ap (λ (l : List ℕ). drop (length b) l) same ∙ drop_at b y (length b) refl,
)

-- ---- over bytes

-- numbers to which the same is added differ if they differed
same-rest : (a b c : ℕ) → a < 2 ^ 32 → b < 2 ^ 32 → (a + c) % 2 ^ 32 ≡ (b + c) % 2 ^ 32 → a ≡ b
same-rest a b c small_a small_b same = omega arith

same-pair : (s t : Sum) → s.0 ≡ t.0 → s.1 ≡ t.1 → s ≡ t
same-pair s t first second = ap (λ (n : ℕ). (n, s.1)) first ∙ ap (λ (n : ℕ). (t.0, n)) second

-- so it is after two words
step-one : (s t : Sum) (x y : ℕ) → IsSum s → IsSum t → sum_step s x y ≡ sum_step t x y → s ≡ t
step-one s t x y small_s small_t same =
    let first : (s.0 + x + s.1) % 2 ^ 32 ≡ (t.0 + x + t.1) % 2 ^ 32 = ap (λ (p : Sum). p.0) same in
    let last : (s.1 + y + (s.0 + x + s.1) % 2 ^ 32) % 2 ^ 32 ≡ (t.1 + y + (t.0 + x + t.1) % 2 ^ 32) % 2 ^ 32 = ap (λ (p : Sum). p.1) same in
    let second : s.1 ≡ t.1 = same-rest s.1 t.1 (y + (s.0 + x + s.1) % 2 ^ 32) small_s.1 small_t.1 (omega (arith, first, last)) in
    same-pair s t (same-rest s.0 t.0 (x + s.1) small_s.0 small_t.0 (omega (arith, first, second))) second

pairs-sum : (s : Sum) (bytes : List ℕ) (n : ℕ) → IsSum s → IsSum (sum_pairs false s bytes n)
unfolding sum_pairs
pairs-sum s bytes zero small = small
pairs-sum s bytes (suc n) small = (omega arith, omega arith)

pairs-one : (s t : Sum) (bytes : List ℕ) (n : ℕ) → IsSum s → IsSum t → sum_pairs false s bytes n ≡ sum_pairs false t bytes n → s ≡ t
unfolding sum_pairs
pairs-one s t bytes zero small_s small_t same = same
pairs-one s t bytes (suc n) small_s small_t same =
    pairs-one s t bytes n small_s small_t
    (step-one (sum_pairs false s bytes n) (sum_pairs false t bytes n) _ _ (pairs-sum s bytes n small_s) (pairs-sum t bytes n small_t) same)

-- sums that go on over the same bytes to the same sum are the same
pub over-one : (s t : Sum) (bytes : List ℕ) → IsSum s → IsSum t → sum_over s bytes ≡ sum_over t bytes → s ≡ t
unfolding checksum
over-one s t bytes small_s small_t same = pairs-one s t bytes _ small_s small_t same

-- a sum that goes on is one
pub over-sum : (s : Sum) (bytes : List ℕ) → IsSum s → IsSum (sum_over s bytes)
unfolding checksum
over-sum s bytes small = pairs-sum s bytes _ small

-- so is the sum after changes
pub last-sum : (s : Sum) (changes : List Change) → IsSum s → IsSum (last_sum s changes)
last-sum s [] small = small
last-sum s (change ∷ changes) small =
    last-sum (next_sum s change) changes (over-sum (sum_over s change.entry) change.bytes (over-sum s change.entry small))

-- ---- its bytes

-- a sum has 8 bytes
pub length-sum : (s : Sum) → length (sum_bytes s) ≡ 8
unfolding sum_bytes
length-sum s = refl

word-again : (a : ℕ) → a < 2 ^ 32 → little_from 0 4 (little_bytes 4 a ++ []) ≡ a
word-again a small = little_number-reads_back 4 a [] small

word-one : (a b : ℕ) → a < 2 ^ 32 → b < 2 ^ 32 → little_bytes 4 a ≡ little_bytes 4 b → a ≡ b
word-one a b small_a small_b same = sym (word-again a small_a) ∙ ap (λ (l : List ℕ). little_from 0 4 (l ++ [])) same ∙ word-again b small_b

-- sums with the same bytes are the same
pub bytes-one : (s t : Sum) → IsSum s → IsSum t → sum_bytes s ≡ sum_bytes t → s ≡ t
unfolding sum_bytes
bytes-one s t small_s small_t same =
    let words = same-front (little_bytes 4 s.0) (little_bytes 4 t.0) (little_bytes 4 s.1) (little_bytes 4 t.1) refl same in
    same-pair s t (word-one s.0 t.0 small_s.0 small_t.0 words.0) (word-one s.1 t.1 small_s.1 small_t.1 words.1)
