-- Bytes are what their digits decode to, and bytes that are encoded are decoded again.
use Rattle.std.proofs.Common.{◌≡◌, ◌≢◌, ℕ, ◌+◌, ◌*◌, ◌%◌, ◌≤◌, List, [], ◌∷◌, length, Option, Some, None, Result, Ok, Err, refl, sym, ap, ◌∙◌, arith}
use Rattle.std.specs.Prelude.{MatchResult}
use Rattle.std.specs.Result.{result_ok}
use Rattle.hex.specs.Hex.{IsBytes, decode_pairs, decode_sized, digit_or_error, encode_lower, hex_digit_value, lower_digits, ◌>>=◌ as ◌>>=?◌}
use Rattle.hex.specs.declared.error.FromHexError.{FromHexError}
use Rattle.hex.proofs.HexLemmas.{IsDigits-lower_digits, decode_pairs-encode_with, length-encode_with}
use Rattle.hex.proofs.Pairs.{decode_sized-pairs}
use Rattle.disk_files.specs.Words.{byte_of, hex_bytes, data_of, ◌>>=◌}

-- two digits, and the bytes after them
pair_after : (high low i : ℕ) (h l : Option ℕ) (bytes : Option (List ℕ)) (decoded : Result (List ℕ) FromHexError) → bytes ≡ result_ok decoded
    → ((h >>= (λ x. l >>= (λ y. Some (x * 16 + y)))) >>= (λ b. bytes >>= (λ bs. Some (b ∷ bs))))
    ≡ result_ok ((digit_or_error high i h >>=? (λ (x : ℕ). digit_or_error low (i + 1) l >>=? (λ (y : ℕ). Ok (x * 16 + y)))) >>=? (λ (b : ℕ). decoded >>=? (λ (bs : List ℕ). Ok (b ∷ bs))))
pair_after high low i None l bytes decoded e = refl
pair_after high low i (Some x) None bytes decoded e = refl
pair_after high low i (Some x) (Some y) bytes (Ok bs) e = rw e refl
pair_after high low i (Some x) (Some y) bytes (Err error) e = rw e refl

-- bytes are what their digits decode to
pub bytes_of-decoded : (i : ℕ) (word : List ℕ) → hex_bytes word ≡ result_ok (decode_pairs i word)
unfolding decode_pairs
bytes_of-decoded i [] = refl
bytes_of-decoded i (high ∷ []) = refl
bytes_of-decoded i (high ∷ low ∷ rest) =
    pair_after high low i (hex_digit_value high) (hex_digit_value low) (hex_bytes rest) (decode_pairs (i + 2) rest) (bytes_of-decoded (i + 2) rest)

-- an odd number of digits stands for no bytes
none_after : (byte : Option ℕ) (bytes : Option (List ℕ)) → bytes ≡ None → (byte >>= (λ b. bytes >>= (λ bs. Some (b ∷ bs)))) ≡ None
none_after None bytes e = refl
none_after (Some b) bytes e = rw e refl

-- an odd number of digits is no bytes
pub bytes_of-odd : (word : List ℕ) → length word % 2 ≢ 0 → hex_bytes word ≡ None
bytes_of-odd [] odd = absurd (odd refl)
bytes_of-odd (high ∷ []) odd = refl
bytes_of-odd (high ∷ low ∷ rest) odd = none_after (byte_of (high ∷ low ∷ [])) (hex_bytes rest) (bytes_of-odd rest (λ even. odd (omega arith)))

-- ---- digits that were decoded into a slice, or were not

bytes_of-sized : (word : List ℕ) (count : ℕ) → length word ≡ 2 * count → hex_bytes word ≡ result_ok (decode_sized word count)
bytes_of-sized word count even = bytes_of-decoded 0 word ∙ rw (decode_sized-pairs word count (omega arith) (omega arith)) refl

decoded : (answer : Result (List ℕ) FromHexError) (result : Result (Unit {0}) FromHexError) (out : List ℕ)
    → MatchResult answer (λ bytes. (result ≡ Ok tt) × (out ≡ bytes)) (λ error. result ≡ Err error) → result ≡ Ok tt → result_ok answer ≡ Some out
decoded (Ok bytes) result out value e = ap (λ (bs : List ℕ). Some bs) (sym value.1)
decoded (Err error) result out value e = absurd cc

not_decoded : (answer : Result (List ℕ) FromHexError) (result : Result (Unit {0}) FromHexError) (out : List ℕ) (error : FromHexError)
    → MatchResult answer (λ bytes. (result ≡ Ok tt) × (out ≡ bytes)) (λ error. result ≡ Err error) → result ≡ Err error → result_ok answer ≡ None
not_decoded (Ok bytes) result out error value e = absurd cc
not_decoded (Err other) result out error value e = refl

module _ (word : List ℕ) (count : ℕ) (result : Result (Unit {0}) FromHexError) (out : List ℕ) (even : length word ≡ 2 * count)
    (value : MatchResult (decode_sized word count) (λ bytes. (result ≡ Ok tt) × (out ≡ bytes)) (λ error. result ≡ Err error)) where
  -- a word whose digits were decoded says the bytes that came out
  pub bytes_of-Ok : result ≡ Ok tt → hex_bytes word ≡ Some out
  bytes_of-Ok e = bytes_of-sized word count even ∙ decoded (decode_sized word count) result out value e

  -- a word whose decoding failed says no bytes
  pub bytes_of-Err : (error : FromHexError) → result ≡ Err error → hex_bytes word ≡ None
  bytes_of-Err error e = bytes_of-sized word count even ∙ not_decoded (decode_sized word count) result out error value e

-- ---- data

-- a word that is not empty is data by its digits
pub data_of-some : (word : List ℕ) → length word ≢ 0 → data_of word ≡ hex_bytes word
data_of-some [] some = absurd (some refl)
data_of-some (digit ∷ digits) some = refl

-- ---- bytes that are encoded

-- bytes are read back from their digits
pub bytes_of-encode_lower : (bytes : List ℕ) → IsBytes bytes → hex_bytes (encode_lower bytes) ≡ Some bytes
bytes_of-encode_lower bytes fits = bytes_of-decoded 0 (encode_lower bytes) ∙ rw (decode_pairs-encode_with lower_digits IsDigits-lower_digits 0 bytes fits) refl

-- and so are data
pub data_of-encode_lower : (bytes : List ℕ) → IsBytes bytes → 1 ≤ length bytes → data_of (encode_lower bytes) ≡ Some bytes
data_of-encode_lower bytes fits some =
    let digits : length (encode_lower bytes) ≢ 0 = λ none. absurd (omega (arith, some, none, length-encode_with lower_digits bytes)) in
    data_of-some (encode_lower bytes) digits ∙ bytes_of-encode_lower bytes fits
