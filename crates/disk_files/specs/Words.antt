-- The words of a line, and the numbers and bytes that words stand for.
use Rattle.std.specs.Prelude.{◌≡◌, ℕ, ◌+◌, ◌-◌, ◌*◌, ◌^◌, ◌==◌, nat_lt, nat_le, ◌&&◌, if◌then◌else◌}
use Rattle.std.specs.Prelude.{Bool, List, [], ◌∷◌, length, Option, Some, None, option_and_then}
use Rattle.std.specs.Char.{is_ascii_digit}
use Rattle.std.specs.Option.{unwrap_or}
use Rattle.std.specs.List.{slice_split}
use Rattle.hex.specs.Hex.{hex_digit_value}

-- the ? of an option: the second step, if the first gave a value
infixl 10 ◌>>=◌
abbrev pub ◌>>=◌ : {A B : Type 0} → Option A → (A → Option B) → Option B
o >>= f = option_and_then f o

abbrev pub is_space : ℕ → Bool
is_space b = b == 32

-- the words of a line: one space is between each and the next
abbrev pub words_of : List ℕ → List (List ℕ)
words_of line = slice_split is_space line

-- the words of what follows a word, if a space does
abbrev pub words_after : Option (List ℕ) → List (List ℕ)
words_after None = []
words_after (Some line) = words_of line

-- more words than one
pub record HasMore (words : List (List ℕ)) : Type 0 where
  pub first : List ℕ
  pub second : List ℕ
  pub rest : List (List ℕ)
  pub are : words ≡ first ∷ second ∷ rest

-- the number of a value's digits and a word's
abbrev pub digits_after : ℕ → List ℕ → Option ℕ
digits_after value [] = Some value
digits_after value (b ∷ bs) = if is_ascii_digit b then digits_after (10 * value + (b - 48)) bs else None

abbrev pub below : ℕ → ℕ → Option ℕ
below limit n = if nat_lt n limit then Some n else None

-- a number has 1 to 20 decimal digits, and is below 2^64
abbrev pub number_of : List ℕ → Option ℕ
number_of word =
    if nat_le 1 (length word) && nat_le (length word) 20 then digits_after 0 word >>= below (2 ^ 64)
    else None

-- a byte has two hexadecimal digits, of either case
abbrev pub byte_of : List ℕ → Option ℕ
byte_of (high ∷ low ∷ []) = do
  h ← hex_digit_value high
  l ← hex_digit_value low
  Some (h * 16 + l)
byte_of [] = None
byte_of (high ∷ []) = None
byte_of (high ∷ low ∷ more ∷ rest) = None

-- the value of a hexadecimal digit, 16 of a byte that is none
abbrev pub value_or_none : ℕ → ℕ
value_or_none digit = unwrap_or (hex_digit_value digit) 16

-- the same where all values from 16 on stand for none
abbrev pub capped : ℕ → ℕ
capped value = if nat_lt value 16 then value else 16

-- the bytes of pairs of digits with these values
abbrev pub joined : List ℕ → List ℕ
joined [] = []
joined (high ∷ []) = []
joined (high ∷ low ∷ rest) = (high * 16 + low) ∷ joined rest

-- bytes have two hexadecimal digits each, of either case
abbrev pub hex_bytes : List ℕ → Option (List ℕ)
hex_bytes [] = Some []
hex_bytes (high ∷ []) = None
hex_bytes (high ∷ low ∷ rest) = do
  b ← byte_of (high ∷ low ∷ [])
  bs ← hex_bytes rest
  Some (b ∷ bs)

-- data is one byte at least
abbrev pub data_of : List ℕ → Option (List ℕ)
data_of [] = None
data_of (digit ∷ digits) = hex_bytes (digit ∷ digits)
