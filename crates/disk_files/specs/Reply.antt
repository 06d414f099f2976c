-- The replies to the lines of a trace.
use Rattle.std.specs.Prelude.{ℕ, zero, suc, ◌+◌, ◌==◌, if◌then◌else◌, List, [], ◌∷◌, ◌++◌, length, take, drop, codes, decimal, Option, Some, None}
use Rattle.std.specs.List.{list_all}
use Rattle.hex.specs.Hex.{encode_lower}

-- the byte that all bytes of a block are
abbrev pub same_byte : List ℕ → Option ℕ
same_byte [] = None
same_byte (b ∷ bs) = if list_all (λ x. x == b) bs then Some b else None

-- the data of a block: a byte and how often it stands, where all bytes are the same, else each byte
abbrev pub data_text : Option ℕ → List ℕ → List ℕ
data_text (Some byte) block = encode_lower (byte ∷ []) ++ codes "*" ++ decimal (length block)
data_text None block = encode_lower block

abbrev pub block_line : ℕ → List ℕ → List ℕ
block_line number block = decimal number ++ codes " " ++ data_text (same_byte block) block ++ codes "\n"

-- the lines of blocks, numbered from `first` on
abbrev pub block_lines : ℕ → List (List ℕ) → List ℕ
block_lines first [] = []
block_lines first (block ∷ blocks) = block_line first block ++ block_lines (first + 1) blocks

abbrev pub ok_text : List ℕ
ok_text = codes "ok\n"

abbrev pub out_of_range_text : List ℕ
out_of_range_text = codes "refused 1 OutOfRange\n"

-- the reply to a growth below the disk's size
abbrev pub smaller_text : List ℕ
smaller_text = codes "refused 7 Smaller\n"

-- the reply to a growth above the reserve
abbrev pub reserve_text : List ℕ
reserve_text = codes "refused 8 Reserve\n"

-- the reply to a read that shows blocks from a number on
abbrev pub read_text : ℕ → List (List ℕ) → List ℕ
read_text first blocks = block_lines first blocks ++ ok_text

-- bytes as `count` blocks of a size
abbrev pub as_blocks : ℕ → ℕ → List ℕ → List (List ℕ)
as_blocks size zero bytes = []
as_blocks size (suc count) bytes = take size bytes ∷ as_blocks size count (drop size bytes)
