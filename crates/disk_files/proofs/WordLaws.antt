-- The words of a line and their lengths; a byte is what two digits decode to.
use Rattle.std.proofs.Common.{◌≡◌, ℕ, ◌+◌, ◌*◌, ◌/◌, ◌%◌, if◌then◌else◌, Bool, true, false, List, [], ◌∷◌, ◌++◌, length, slice_index, Option, Some, None, Result, Ok, Err, refl, sym, ap, ◌∙◌, arith}
use Rattle.std.specs.Prelude.{◌==◌}
use Rattle.std.specs.List.{join_with_byte, onto_first}
use Rattle.std.specs.Option.{option_map}
use Rattle.std.specs.Result.{result_ok}
use Rattle.std.proofs.lemmas.Bool.Decides.{nat_tests}
use Rattle.std.proofs.lemmas.List.{length-append}
use Rattle.std.proofs.lemmas.List.Splits.{join_with_byte-slice_split}
use Rattle.hex.specs.Hex.{decode_pairs, decode_sized, digit_or_error, hex_digit_value, ◌>>=◌ as ◌>>=?◌}
use Rattle.hex.specs.declared.error.FromHexError.{FromHexError}
use Rattle.hex.specs.declared.error.FromHexError.TheVariants.{InvalidStringLength, OddLength}
use Rattle.disk_files.specs.Words.{HasMore, byte_of, is_space, words_of, ◌>>=◌}

-- some list begins with an element
pub record IsCons (words : List (List ℕ)) : Type 0 where
  pub first : List ℕ
  pub rest : List (List ℕ)
  pub is : words ≡ first ∷ rest

onto_first-IsCons : (x : ℕ) (parts : List (List ℕ)) → IsCons (onto_first x parts)
onto_first-IsCons x [] = record { first = x ∷ []; rest = []; is = refl }
onto_first-IsCons x (part ∷ parts) = record { first = x ∷ part; rest = parts; is = refl }

-- a line has a word
pub words_of-IsCons : (line : List ℕ) → IsCons (words_of line)
words_of-IsCons [] = record { first = []; rest = []; is = refl }
words_of-IsCons (x ∷ xs) = elim (is_space x) as (λ b. IsCons (if b then [] ∷ words_of xs else onto_first x (words_of xs))) [
  | true ↦ record { first = []; rest = words_of xs; is = refl }
  | false ↦ onto_first-IsCons x (words_of xs)
]

-- a word with words after it is not the last
pub HasMore-rest : (line word rest : List ℕ) → words_of line ≡ word ∷ words_of rest → HasMore (words_of line)
HasMore-rest line word rest e = let more = words_of-IsCons rest in record { first = word; second = more.first; rest = more.rest; are = rw (e, more.is) refl }

-- ---- lengths

-- how long a line is, by its first word
pub length-rest : (line word rest : List ℕ) → words_of line ≡ word ∷ words_of rest → length line ≡ length word + 1 + length rest
length-rest line word rest e =
    let more = words_of-IsCons rest in
    let joined : join_with_byte 32 (word ∷ words_of rest) ≡ word ++ 32 ∷ join_with_byte 32 (words_of rest) = rw (more.is) refl in
    let text : line ≡ word ++ 32 ∷ rest = sym (join_with_byte-slice_split 32 line) ∙ ap (join_with_byte 32) e ∙ joined ∙ ap (λ (xs : List ℕ). word ++ 32 ∷ xs) (join_with_byte-slice_split 32 rest) in
    omega (arith, ap length text, length-append word (32 ∷ rest))

-- and by two words
pub length-two_words : (line word digits : List ℕ) → words_of line ≡ word ∷ digits ∷ [] → length line ≡ length word + 1 + length digits
length-two_words line word digits e =
    let text = sym (join_with_byte-slice_split 32 line) ∙ ap (join_with_byte 32) e in
    omega (arith, ap length text, length-append word (32 ∷ digits))

-- ---- bytes

-- the byte of decoded bytes, if they are one
abbrev byte_in : Option (List ℕ) → Option ℕ
byte_in bytes = option_map (λ bs. slice_index bs 0) bytes

-- two digits
pair_decoded : (high low : ℕ) (h l : Option ℕ)
    → (h >>= (λ x. l >>= (λ y. Some (x * 16 + y)))) ≡ byte_in (result_ok (digit_or_error high 0 h >>=? (λ (x : ℕ). digit_or_error low 1 l >>=? (λ (y : ℕ). Ok (x * 16 + y))) >>=? (λ (b : ℕ). Ok (b ∷ []))))
pair_decoded high low None l = refl
pair_decoded high low (Some x) None = refl
pair_decoded high low (Some x) (Some y) = refl

-- four digits and more are too many for a byte
too_many : (odd pair : Bool) (decoded : Result (List ℕ) FromHexError) → pair ≡ false
    → None ≡ byte_in (result_ok (if odd then Err OddLength else if pair then decoded else Err InvalidStringLength))
too_many true pair decoded e = refl
too_many false pair decoded e = rw e refl

-- a byte is decoded from its word
pub byte_of-decoded : (word : List ℕ) → byte_of word ≡ byte_in (result_ok (decode_sized word 1))
unfolding decode_pairs
byte_of-decoded [] = refl
byte_of-decoded (high ∷ []) = refl
byte_of-decoded (high ∷ low ∷ []) = pair_decoded high low (hex_digit_value high) (hex_digit_value low)
byte_of-decoded (high ∷ low ∷ more ∷ []) = refl
byte_of-decoded (high ∷ low ∷ more ∷ most ∷ rest) =
    let n = length (high ∷ low ∷ more ∷ most ∷ rest) in
    too_many (n % 2 == 1) (n / 2 == 1) (decode_pairs 0 (high ∷ low ∷ more ∷ most ∷ rest)) (grind (arith, nat_tests))
