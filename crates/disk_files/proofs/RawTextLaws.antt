-- Raw lines and replies that are written are read again.
use Rattle.std.proofs.Common.{◌≡◌, ℕ, ◌*◌, ◌==◌, true, false, List, [], ◌∷◌, length, Some, refl, arith}
use Rattle.std.proofs.lemmas.Bool.Decides.{nat_tests}
use Rattle.std.proofs.lemmas.List.{append-nil}
use Rattle.std.proofs.lemmas.List.Elements.{All-append, All-cons, All-nil}
use Rattle.std.proofs.lemmas.List.Splits.{slice_split_at, slice_split_none}
use Rattle.hex.specs.Hex.{IsBytes, encode_lower, lower_digits}
use Rattle.hex.proofs.HexLemmas.{length-encode_with}
use Rattle.disk_files.specs.Line.{NoFeed, first_line, is_feed}
use Rattle.disk_files.specs.RawLine.{beside_text, exact_bytes_of, raw_of, raw_reply_text, raw_text}
use Rattle.disk_files.specs.Words.{is_space, words_of}
use Rattle.disk_files.proofs.DataLaws.{bytes_of-encode_lower, data_of-encode_lower}
use Rattle.disk_files.proofs.GrammarLaws.{AboveSpaces-encode_lower, NoSpace-encode_lower}
use Rattle.disk_files.proofs.ReadingLaws.{first_line-feed}

-- ---- digits

NoFeed-encode_lower : (bytes : List ℕ) → IsBytes bytes → NoFeed (encode_lower bytes)
NoFeed-encode_lower bytes fits = λ k d lt. let large = AboveSpaces-encode_lower bytes fits k d lt in grind (arith, nat_tests)

exact_bytes_of-encode_lower : (bytes : List ℕ) → IsBytes bytes → exact_bytes_of (length bytes) (encode_lower bytes) ≡ Some bytes
exact_bytes_of-encode_lower bytes fits =
    let long : (length (encode_lower bytes) == 2 * length bytes) ≡ true = grind (arith, nat_tests, length-encode_with lower_digits bytes) in
    rw long (bytes_of-encode_lower bytes fits)

-- ---- lines

-- a raw text is read back
pub raw_of-raw_text : (head bytes : List ℕ) → IsBytes head → IsBytes bytes → raw_of (length head) (words_of (raw_text head bytes)) ≡ Some (head, bytes)
raw_of-raw_text head [] fits clean = rw (append-nil (encode_lower head), slice_split_none is_space (encode_lower head) (NoSpace-encode_lower head fits), exact_bytes_of-encode_lower head fits) refl
raw_of-raw_text head (b ∷ bytes) fits clean =
    let first = encode_lower head in
    let digits = encode_lower (b ∷ bytes) in
    rw (slice_split_at is_space first 32 digits (NoSpace-encode_lower head fits) refl, slice_split_none is_space digits (NoSpace-encode_lower (b ∷ bytes) clean), exact_bytes_of-encode_lower head fits, data_of-encode_lower (b ∷ bytes) clean (omega arith)) refl

NoFeed-beside_text : (bytes : List ℕ) → IsBytes bytes → NoFeed (beside_text bytes)
NoFeed-beside_text [] clean = All-nil (λ b. is_feed b ≡ false)
NoFeed-beside_text (b ∷ bytes) clean = All-cons (λ c. is_feed c ≡ false) 32 (encode_lower (b ∷ bytes)) refl (NoFeed-encode_lower (b ∷ bytes) clean)

-- a raw reply is one line
pub first_line-raw_reply : (completion bytes : List ℕ) → IsBytes completion → IsBytes bytes → first_line (raw_reply_text completion bytes) ≡ raw_text completion bytes
first_line-raw_reply completion bytes fits clean =
    let none = All-append (λ b. is_feed b ≡ false) (encode_lower completion) (beside_text bytes) (NoFeed-encode_lower completion fits) (NoFeed-beside_text bytes clean) in
    first_line-feed (raw_text completion bytes) none []
