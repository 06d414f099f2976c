-- The numbers and the header that are in a block's bytes. Where the block is a header block they are what it says; else they are some numbers.
use Rattle.std.specs.Prelude.{ℕ, zero, suc, ◌+◌, ◌-◌, ◌*◌, ◌≤◌, ◌^◌, ◌==◌, nat_lt, if◌then◌else◌, true, false, List, [], ◌∷◌, length, drop, Option, Some, None}
use Rattle.byteorder.specs.Endian.{little_from}
use Rattle.batch_log.specs.declared.header.Kind.{Kind}
use Rattle.batch_log.specs.declared.header.Kind.TheVariants.{Host, Move}
use Rattle.batch_log.specs.declared.header.Entry.{Entry}
use Rattle.batch_log.specs.Header.{Heading, IsHeaderBlock, head_size}

-- the number in n bytes from a place on, the lowest byte first
abbrev pub number_at : ℕ → ℕ → List ℕ → ℕ
number_at place n bytes = little_from 0 n (drop place bytes)

abbrev pub version_in : List ℕ → ℕ
version_in block = number_at 8 2 block

abbrev pub kind_in : List ℕ → ℕ
kind_in block = number_at 10 2 block

abbrev pub count_in : List ℕ → ℕ
count_in block = number_at 12 4 block

abbrev pub sequence_in : List ℕ → ℕ
sequence_in block = number_at 16 8 block

abbrev pub source_in : List ℕ → ℕ
source_in block = number_at 24 4 block

abbrev pub size_word_in : List ℕ → ℕ
size_word_in block = number_at 28 4 block

abbrev pub kind_of : ℕ → Kind
kind_of code = if code == 2 then Move else Host

abbrev pub said_size : ℕ → ℕ → Option ℕ
said_size version word = if version == 2 then Some word else None

abbrev pub entry_of : ℕ → Entry
entry_of word = if nat_lt word (2 ^ 63) then record { block = word; trim = false } else record { block = word - 2 ^ 63; trim = true }

-- the first n entries of these bytes
abbrev pub entries_in : ℕ → List ℕ → List Entry
entries_in zero bytes = []
entries_in (suc n) bytes = entry_of (little_from 0 8 bytes) ∷ entries_in n (drop 8 bytes)

-- the entries of a header block
abbrev pub entries_of : List ℕ → List Entry
entries_of block = entries_in (count_in block) (drop head_size block)

unfoldable pub heading_in : List ℕ → Heading
heading_in block = record {
  kind = kind_of (kind_in block);
  sequence = sequence_in block;
  source = source_in block;
  size = said_size (version_in block) (size_word_in block);
  entries = entries_of block;
}

-- a block that is a header block, with all its entries
pub record IsView (block : List ℕ) : Type 0 where
  pub is : IsHeaderBlock (length block) block (heading_in block)
  pub room : head_size + 8 * count_in block ≤ length block
