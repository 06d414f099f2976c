-- The header block of a batch: what it says, and the one block that says it.
use Rattle.std.specs.Prelude.{◌≡◌, ℕ, ◌+◌, ◌-◌, ◌*◌, ◌/◌, ◌<◌, ◌≤◌, ◌^◌, nat_eq, Bool, true, false, List}
use Rattle.std.specs.Prelude.{[], ◌∷◌, ◌++◌, map, length, replicate, Option, Some, None, IfSome}
use Rattle.std.specs.List.{flat_map, AllByRecursion, IsDistinct}
use Rattle.byteorder.specs.Endian.{little_bytes}
use Rattle.batch_log.specs.declared.header.Kind.{Kind}
use Rattle.batch_log.specs.declared.header.Kind.TheVariants.{Host, Move}
use Rattle.batch_log.specs.declared.header.Entry.{Entry}
use Rattle.batch_log.specs.declared.header.Header.{Header}

-- What a header says. The size is the number of logical blocks of the disk at that moment; a header of version 1 does not say it.
pub record Heading : Type 0 where
  pub kind : Kind
  pub sequence : ℕ
  pub source : ℕ
  pub size : Option ℕ
  pub entries : List Entry

abbrev pub heading_of : Header → Heading
heading_of header = record { kind = header.kind; sequence = header.sequence; source = header.source; size = header.size; entries = header.entries.items }

-- the bytes before the entries
abbrev pub head_size : ℕ
head_size = 32

-- how many entries a header block can hold, by its size in bytes
abbrev pub entry_room : ℕ → ℕ
entry_room block_bytes = (block_bytes - head_size) / 8

-- the numbers of logical blocks that a disk may have
abbrev pub IsSize : ℕ → Type 0
IsSize size = (1 ≤ size) × (size ≤ 2 ^ 31)

-- A header that a block of `block_bytes` bytes can hold: numbers in range, no source zone for a Host batch, and each block named at most once.
pub record IsHeading (block_bytes : ℕ) (heading : Heading) : Type 0 where
  pub room : length heading.entries ≤ entry_room block_bytes
  pub sequence : heading.sequence < 2 ^ 64
  pub source : heading.source < 2 ^ 32
  pub host : heading.kind ≡ Host → heading.source ≡ 0
  pub size : IfSome heading.size IsSize
  pub blocks : AllByRecursion (λ (e : Entry). e.block < 2 ^ 63) heading.entries
  pub distinct : IsDistinct nat_eq (map (λ (e : Entry). e.block) heading.entries)

-- ---- its bytes

-- `ZLOGBAT1`
abbrev pub header_magic : List ℕ
header_magic = 0x5a ∷ 0x4c ∷ 0x4f ∷ 0x47 ∷ 0x42 ∷ 0x41 ∷ 0x54 ∷ 0x31 ∷ []

-- version 2 has the size, version 1 four zero bytes in its place
abbrev pub version_of : Option ℕ → ℕ
version_of None = 1
version_of (Some size) = 2

abbrev pub size_word : Option ℕ → ℕ
size_word None = 0
size_word (Some size) = size

abbrev pub kind_code : Kind → ℕ
kind_code Host = 1
kind_code Move = 2

-- bit 63 of an entry is set for a trim
abbrev pub trim_bit : Bool → ℕ
trim_bit true = 2 ^ 63
trim_bit false = 0

abbrev pub entry_word : Entry → ℕ
entry_word entry = entry.block + trim_bit entry.trim

abbrev pub entry_word_bytes : Entry → List ℕ
entry_word_bytes entry = little_bytes 8 (entry_word entry)

-- magic, version, kind, number of entries, sequence, source zone, size
abbrev pub head_bytes : Kind → ℕ → ℕ → ℕ → Option ℕ → List ℕ
head_bytes kind count sequence source size =
    header_magic ++ little_bytes 2 (version_of size) ++ little_bytes 2 (kind_code kind) ++ little_bytes 4 count
    ++ little_bytes 8 sequence ++ little_bytes 4 source ++ little_bytes 4 (size_word size)

-- the head, the entries, and zeros up to the end of the block
unfoldable pub header_block : ℕ → Heading → List ℕ
header_block block_bytes heading =
    head_bytes heading.kind (length heading.entries) heading.sequence heading.source heading.size
    ++ flat_map entry_word_bytes heading.entries
    ++ replicate (block_bytes - head_size - 8 * length heading.entries) 0

-- a block of `block_bytes` bytes is the header block of this heading
pub record IsHeaderBlock (block_bytes : ℕ) (block : List ℕ) (heading : Heading) : Type 0 where
  pub says : IsHeading block_bytes heading
  pub encoded : block ≡ header_block block_bytes heading

-- the block is no header block
abbrev pub IsNoHeader : List ℕ → Type 0
IsNoHeader block = (heading : Heading) → IsHeaderBlock (length block) block heading → ⊥
