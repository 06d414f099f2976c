-- Raw lines and the replies to them, in hexadecimal digits: an entry or a completion, and its data.
use Rattle.std.specs.Prelude.{ℕ, ◌*◌, ◌==◌, if◌then◌else◌, List, [], ◌∷◌, ◌++◌, length, codes, Option, Some, None}
use Rattle.hex.specs.Hex.{encode_lower}
use Rattle.disk_files.specs.Words.{hex_bytes, data_of, words_of, ◌>>=◌}

-- this many bytes
abbrev pub exact_bytes_of : ℕ → List ℕ → Option (List ℕ)
exact_bytes_of count word = if length word == 2 * count then hex_bytes word else None

-- this many bytes, and the data with them, if there is any
abbrev pub raw_of : ℕ → List (List ℕ) → Option (List ℕ × List ℕ)
raw_of count (word ∷ []) = do
  bytes ← exact_bytes_of count word
  Some (bytes, [])
raw_of count (word ∷ digits ∷ []) = do
  bytes ← exact_bytes_of count word
  beside ← data_of digits
  Some (bytes, beside)
raw_of count words = None

-- the entry of a raw line, and its data
abbrev pub raw_line : List ℕ → Option (List ℕ × List ℕ)
raw_line line = raw_of 64 (words_of line)

-- the completion of a reply, and the data that came back
abbrev pub raw_answer : List ℕ → Option (List ℕ × List ℕ)
raw_answer line = raw_of 16 (words_of line)

-- a space and data, or nothing
abbrev pub beside_text : List ℕ → List ℕ
beside_text [] = []
beside_text (b ∷ bs) = codes " " ++ encode_lower (b ∷ bs)

-- an entry or a completion, and its data, in lower case
abbrev pub raw_text : List ℕ → List ℕ → List ℕ
raw_text bytes beside = encode_lower bytes ++ beside_text beside

-- the reply to a raw line
abbrev pub raw_reply_text : List ℕ → List ℕ → List ℕ
raw_reply_text completion bytes = raw_text completion bytes ++ codes "\n"
