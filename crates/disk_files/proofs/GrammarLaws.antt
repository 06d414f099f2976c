-- Numbers and bytes that are written are read again.
use Rattle.std.proofs.Common.{◌≡◌, ℕ, ◌+◌, ◌-◌, ◌*◌, ◌/◌, ◌%◌, ◌^◌, ◌<◌, ◌≤◌, true, false, List, [], ◌∷◌, ◌++◌, length, Some, None, zero, suc, zero-add, refl, ap, ◌∙◌, arith, append_assoc, if◌then◌else◌}
use Rattle.std.specs.Prelude.{codes, decimal, nat_le, nat_lt, slice_index, ◌&&◌}
use Rattle.std.specs.Char.{is_ascii_digit}
use Rattle.std.specs.List.{All}
use Rattle.std.proofs.lemmas.Bool.Decides.{nat_tests}
use Rattle.std.proofs.lemmas.Fmt.{decimal_by_steps, decimal_nonempty, length-decimal-le}
use Rattle.std.proofs.lemmas.List.Elements.{All-append, All-cons, All-nil}
use Rattle.std.proofs.lemmas.List.Splits.{slice_split_at, slice_split_none}
use Rattle.hex.specs.Hex.{IsBytes, encode_lower, encode_with, hex_digit_value, lower_digits}
use Rattle.hex.proofs.HexLemmas.{IsDigits-lower_digits}
use Rattle.disk_files.specs.Words.{byte_of, digits_after, is_space, number_of, words_of, ◌>>=◌}

abbrev NoSpace : List ℕ → Type 0
NoSpace word = All (λ b. is_space b ≡ false) word

-- ---- numbers

digit_after : (v d : ℕ) → d < 10 → digits_after v ((48 + d) ∷ []) ≡ Some (10 * v + d)
digit_after v d small =
    let digit : is_ascii_digit (48 + d) ≡ true = grind (arith, nat_tests) in
    let value : 48 + d - 48 ≡ d = omega arith in
    rw (digit, value) refl

digits_after-push : (ds : List ℕ) (v c : ℕ) → digits_after v (ds ++ c ∷ []) ≡ (digits_after v ds >>= (λ m. digits_after m (c ∷ [])))
digits_after-push [] v c = refl
digits_after-push (d ∷ ds) v c = elim (is_ascii_digit d) as (λ b. (if b then digits_after (10 * v + (d - 48)) (ds ++ c ∷ []) else None) ≡ ((if b then digits_after (10 * v + (d - 48)) ds else None) >>= (λ m. digits_after m (c ∷ [])))) [
  | true ↦ digits_after-push ds (10 * v + (d - 48)) c
  | false ↦ refl
]

-- a word stands for a number
record IsWordOf (n : ℕ) (word : List ℕ) : Type 0 where
  no_space : NoSpace word
  value : digits_after 0 word ≡ Some n

no_space-digit : (d : ℕ) → NoSpace ((48 + d) ∷ [])
no_space-digit d = All-cons (λ b. is_space b ≡ false) (48 + d) [] (grind (arith, nat_tests)) (All-nil (λ b. is_space b ≡ false))

one_digit : (n : ℕ) → n < 10 → IsWordOf n ((48 + n) ∷ [])
one_digit n small = record { no_space = no_space-digit n; value = digit_after 0 n small ∙ ap (λ (m : ℕ). Some m) (zero-add n) }

one_more : (n : ℕ) (word : List ℕ) → 10 ≤ n → IsWordOf (n / 10) word → IsWordOf n (word ++ (48 + n % 10) ∷ [])
one_more n word large w =
    let whole : 10 * (n / 10) + n % 10 ≡ n = omega arith in
    record {
      no_space = All-append (λ b. is_space b ≡ false) word ((48 + n % 10) ∷ []) w.no_space (no_space-digit (n % 10));
      value = rw (digits_after-push word 0 (48 + n % 10), w.value, digit_after (n / 10) (n % 10) (omega arith), whole) refl;
    }

decimal-IsWordOf : (n : ℕ) → n < 2 ^ 64 → IsWordOf n (decimal n)
decimal-IsWordOf n small = decimal_by_steps IsWordOf one_digit one_more n small

-- a number is read back from its digits
pub number_of-decimal : (n : ℕ) → n < 2 ^ 64 → number_of (decimal n) ≡ Some n
number_of-decimal n small =
    let word = decimal n in
    let some = decimal_nonempty n small in
    let few = length-decimal-le 20 n (omega arith) (omega arith) small in
    let fits : (nat_le 1 (length word) && nat_le (length word) 20) ≡ true = grind (arith, nat_tests) in
    let below : nat_lt n (2 ^ 64) ≡ true = grind (arith, nat_tests) in
    rw (fits, (decimal-IsWordOf n small).value, below) refl

-- which have no space
pub NoSpace-decimal : (n : ℕ) → n < 2 ^ 64 → NoSpace (decimal n)
NoSpace-decimal n small = (decimal-IsWordOf n small).no_space

-- ---- bytes

-- a byte is read back from its digits
pub byte_of-encode_lower : (b : ℕ) → b < 2 ^ 8 → byte_of (encode_lower (b ∷ [])) ≡ Some b
unfolding encode_with
byte_of-encode_lower b small =
    let whole : b / 16 * 16 + b % 16 ≡ b = omega arith in
    rw (IsDigits-lower_digits (b / 16) (omega arith), IsDigits-lower_digits (b % 16) (omega arith), whole) refl

-- digits stand above the space and the line feed
abbrev AboveSpaces : List ℕ → Type 0
AboveSpaces word = All (λ b. 48 ≤ b) word

digit-large : (b d : ℕ) → hex_digit_value b ≡ Some d → 48 ≤ b
digit-large b d e = grind (arith)

-- which are above spaces
pub AboveSpaces-encode_lower : (bytes : List ℕ) → IsBytes bytes → AboveSpaces (encode_lower bytes)
unfolding encode_with
AboveSpaces-encode_lower [] fits = All-nil (λ b. 48 ≤ b)
AboveSpaces-encode_lower (b ∷ bytes) fits =
    let P : ℕ → Type 0 = λ c. 48 ≤ c in
    let small : b < 256 = fits 0 in
    let high = slice_index lower_digits (b / 16) in
    let low = slice_index lower_digits (b % 16) in
    let rest = encode_lower bytes in
    let after = AboveSpaces-encode_lower bytes (λ i. fits (suc i)) in
    All-cons P high (low ∷ rest) (digit-large high (b / 16) (IsDigits-lower_digits (b / 16) (omega arith)))
    (All-cons P low rest (digit-large low (b % 16) (IsDigits-lower_digits (b % 16) (omega arith))) after)

-- and have none
pub NoSpace-encode_lower : (bytes : List ℕ) → IsBytes bytes → NoSpace (encode_lower bytes)
NoSpace-encode_lower bytes fits = λ k d lt. let large = AboveSpaces-encode_lower bytes fits k d lt in grind (arith, nat_tests)

-- one byte is bytes
pub IsBytes-one : (b : ℕ) → b < 2 ^ 8 → IsBytes (b ∷ [])
IsBytes-one b small zero = small
IsBytes-one b small (suc i) = omega arith

-- ---- words

-- a text without a space is one word
pub one_word : (a : List ℕ) → NoSpace a → words_of a ≡ a ∷ []
one_word a p = slice_split_none is_space a p

-- two with a space between them are two
pub two_words : (a b : List ℕ) → NoSpace a → NoSpace b → words_of (a ++ codes " " ++ b) ≡ a ∷ b ∷ []
two_words a b p q = rw (append_assoc a (codes " ") b, slice_split_at is_space a 32 b p refl, slice_split_none is_space b q) refl

-- and three are three
pub three_words : (a b c : List ℕ) → NoSpace a → NoSpace b → NoSpace c → words_of (a ++ codes " " ++ b ++ codes " " ++ c) ≡ a ∷ b ∷ c ∷ []
three_words a b c p q r =
    rw (append_assoc (a ++ codes " ") b (codes " "), append_assoc (a ++ codes " ") (b ++ codes " ") c, append_assoc a (codes " ") (b ++ codes " " ++ c), slice_split_at is_space a 32 (b ++ codes " " ++ c) p refl, two_words b c q r) refl
