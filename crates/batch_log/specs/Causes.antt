-- Why a block is no header block, and the first cause of it.
use Rattle.std.specs.Prelude.{ℕ, ◌+◌, ◌*◌, ◌^◌, ◌==◌, ◌&&◌, ◌||◌, not, nat_eq, nat_lt, nat_le, if◌then◌else◌}
use Rattle.std.specs.Prelude.{is_none, Bool, false, List, [], ◌∷◌, map, length, drop, Option, Some, None}
use Rattle.std.specs.List.{list_any, list_all, starts_with}
use Rattle.batch_log.specs.declared.header.Entry.{Entry}
use Rattle.batch_log.specs.declared.fault.LogFault.{LogFault}
use Rattle.batch_log.specs.declared.fault.LogFault.TheVariants.{Magic, Version, Kind, Count, RestNotZero, BlockRepeated, Size}
use Rattle.batch_log.specs.Header.{header_magic, head_size, entry_room}
use Rattle.batch_log.specs.Reading.{version_in, kind_in, count_in, source_in, size_word_in, entries_of}

abbrev pub is_version : ℕ → Bool
is_version n = n == 1 || n == 2

abbrev pub is_kind : ℕ → Bool
is_kind n = n == 1 || n == 2

abbrev pub is_size : ℕ → Bool
is_size n = nat_le 1 n && nat_le n (2 ^ 31)

abbrev pub is_zero : List ℕ → Bool
is_zero bytes = list_all (λ byte. byte == 0) bytes

-- the size of version 2 is none that a disk may have
abbrev pub has_odd_size : ℕ → ℕ → Bool
has_odd_size version word = version == 2 && not (is_size word)

-- in version 1 zeros are in the size's place
abbrev pub has_early_size : ℕ → ℕ → Bool
has_early_size version word = version == 1 && not (word == 0)

-- a Host batch has no source zone
abbrev pub has_host_source : ℕ → ℕ → Bool
has_host_source kind source = kind == 1 && not (source == 0)

-- a number stands twice in a list
abbrev pub repeats : List ℕ → Bool
repeats [] = false
repeats (x ∷ xs) = list_any (λ y. nat_eq x y) xs || repeats xs

-- the bytes after the entries
abbrev pub rest_in : List ℕ → List ℕ
rest_in block = drop (head_size + 8 * count_in block) block

abbrev pub entry_blocks : List Entry → List ℕ
entry_blocks entries = map (λ (e : Entry). e.block) entries

-- the tests of a block in their order, each with the cause where it holds
abbrev pub header_checks : List ℕ → List (Bool × LogFault)
header_checks block =
    (not (starts_with nat_eq block header_magic), Magic)
    ∷ (not (is_version (version_in block)), Version)
    ∷ (not (is_kind (kind_in block)), Kind)
    ∷ (nat_lt (entry_room (length block)) (count_in block), Count)
    ∷ (has_odd_size (version_in block) (size_word_in block), Size)
    ∷ (has_early_size (version_in block) (size_word_in block), RestNotZero)
    ∷ (has_host_source (kind_in block) (source_in block), RestNotZero)
    ∷ (not (is_zero (rest_in block)), RestNotZero)
    ∷ (repeats (entry_blocks (entries_of block)), BlockRepeated)
    ∷ []

-- the cause of the first test that holds
abbrev pub first_cause : List (Bool × LogFault) → Option LogFault
first_cause [] = None
first_cause (check ∷ checks) = if check.0 then Some check.1 else first_cause checks

-- why the block is no header block; none where it is one
unfoldable pub header_fault : List ℕ → Option LogFault
header_fault block = first_cause (header_checks block)

abbrev pub is_header : List ℕ → Bool
is_header block = is_none (header_fault block)
