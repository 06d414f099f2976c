-- The entries of a header block, one after the other.
use Rattle.std.proofs.Common.{◌≡◌, ◌⊎◌, ℕ, suc, ◌+◌, ◌-◌, ◌*◌, ◌<◌, List, [], ◌∷◌, ◌++◌, length, take, drop, Option, refl, sym, ap, ◌∙◌, append_assoc, arith}
use Rattle.std.proofs.lemmas.List.{drop-drop, take_rest}
use Rattle.byteorder.specs.Endian.{little_from}
use Rattle.batch_log.specs.declared.header.Entry.{Entry}
use Rattle.batch_log.specs.declared.header.Kind.{Kind}
use Rattle.batch_log.specs.Header.{Heading, IsHeading, IsHeaderBlock, IsNoHeader, entry_room, header_block}
use Rattle.batch_log.specs.Reading.{kind_of, said_size, entry_of, entries_in, heading_in}
use Rattle.batch_log.proofs.HeaderLaws.{same_heading, header_again}
use Rattle.batch_log.proofs.EntryLaws.{entries_length}

-- one entry more was read
pub one_more_read : (count i : ℕ) (bytes : List ℕ) (done now whole : List Entry) (e : Entry) → i < count
    → done ++ entries_in (count - i) (drop (8 * i) bytes) ≡ whole
    → e ≡ entry_of (little_from 0 8 (drop (8 * i) bytes))
    → now ≡ done ++ e ∷ []
    → now ++ entries_in (count - (i + 1)) (drop (8 * (i + 1)) bytes) ≡ whole
one_more_read count i bytes done now whole e lt so_far is after =
    let left : count - i ≡ suc (count - (i + 1)) = omega arith in
    let behind : drop 8 (drop (8 * i) bytes) ≡ drop (8 * (i + 1)) bytes = drop-drop 8 (8 * i) bytes ∙ ap (λ (n : ℕ). drop n bytes) (omega arith) in
    let split : entries_in (count - i) (drop (8 * i) bytes) ≡ e ∷ entries_in (count - (i + 1)) (drop (8 * (i + 1)) bytes) = rw (left, behind, is) refl in
    rw (after, append_assoc) (ap (λ (es : List Entry). done ++ es) (sym split) ∙ so_far)

-- what `&bytes[n..]` holds
abbrev from_place : ℕ → List ℕ → List ℕ
from_place n bytes = take (length bytes - n) (drop n bytes)

-- what was read is the heading in the block
pub heading_read : (block : List ℕ) (kind : Kind) (count sequence source : ℕ) (size : Option ℕ) (entries : List Entry)
    → count ≡ little_from 0 4 (from_place 12 block)
    → kind ≡ kind_of (little_from 0 2 (from_place 10 block))
    → sequence ≡ little_from 0 8 (from_place 16 block)
    → source ≡ little_from 0 4 (from_place 24 block)
    → size ≡ said_size (little_from 0 2 (from_place 8 block)) (little_from 0 4 (from_place 28 block))
    → entries ≡ entries_in count (from_place 32 block)
    → record { kind = kind; sequence = sequence; source = source; size = size; entries = entries } ≡ heading_in block
unfolding heading_in
heading_read block kind count sequence source size entries e1 e2 e3 e4 e5 e6 =
    let count-is : count ≡ little_from 0 4 (drop 12 block) = e1 ∙ ap (λ (xs : List ℕ). little_from 0 4 xs) (take_rest block 12) in
    let kind-is : kind ≡ kind_of (little_from 0 2 (drop 10 block)) = e2 ∙ ap (λ (xs : List ℕ). kind_of (little_from 0 2 xs)) (take_rest block 10) in
    let sequence-is : sequence ≡ little_from 0 8 (drop 16 block) = e3 ∙ ap (λ (xs : List ℕ). little_from 0 8 xs) (take_rest block 16) in
    let source-is : source ≡ little_from 0 4 (drop 24 block) = e4 ∙ ap (λ (xs : List ℕ). little_from 0 4 xs) (take_rest block 24) in
    let size-is : size ≡ said_size (little_from 0 2 (drop 8 block)) (little_from 0 4 (drop 28 block)) =
    e5 ∙ ap (λ (xs : List ℕ). said_size (little_from 0 2 xs) (little_from 0 4 (from_place 28 block))) (take_rest block 8) ∙ ap (λ (xs : List ℕ). said_size (little_from 0 2 (drop 8 block)) (little_from 0 4 xs)) (take_rest block 28) in
    let entries-are : entries ≡ entries_in (little_from 0 4 (drop 12 block)) (drop 32 block) = e6 ∙ ap (λ (xs : List ℕ). entries_in count xs) (take_rest block 32) ∙ ap (λ (n : ℕ). entries_in n (drop 32 block)) count-is in
    same_heading _ _ _ _ _ _ _ _ _ _ kind-is sequence-is source-is size-is entries-are

-- which has so many entries
pub count_read : (block : List ℕ) (count : ℕ) → count ≡ little_from 0 4 (from_place 12 block) → length (heading_in block).entries ≡ count
unfolding heading_in
count_read block count is = entries_length (little_from 0 4 (drop 12 block)) (drop 32 block) ∙ sym (is ∙ ap (λ (xs : List ℕ). little_from 0 4 xs) (take_rest block 12))

-- a header block is the one of the heading that is read in it
header_in : (block : List ℕ) (h : Heading) → (length block ≡ 512) ⊎ (length block ≡ 4096) → IsHeaderBlock (length block) block h → heading_in block ≡ h
header_in block h size is = ap heading_in is.encoded ∙ header_again (length block) h (omega arith) is.says

-- more entries than there is room for make no header
pub no_room : (block : List ℕ) → (length block ≡ 512) ⊎ (length block ≡ 4096) → entry_room (length block) < length (heading_in block).entries → IsNoHeader block
no_room block size more h is =
    let count : length (heading_in block).entries ≡ length h.entries = ap (λ (k : Heading). length k.entries) (header_in block h size is) in
    omega (arith, is.says.room)

-- neither does what is no heading
pub no_heading : (block : List ℕ) (read : Heading) → (length block ≡ 512) ⊎ (length block ≡ 4096) → read ≡ heading_in block → (IsHeading (length block) read → ⊥) → IsNoHeader block
no_heading block read size e not h is = not (rw (e ∙ header_in block h size is) is.says)

-- nor a block that is not encoded so
pub no_spelling : (block : List ℕ) (read : Heading) → (length block ≡ 512) ⊎ (length block ≡ 4096) → read ≡ heading_in block → (block ≡ header_block (length block) read → ⊥) → IsNoHeader block
no_spelling block read size e not h is = not (rw (e ∙ header_in block h size is) is.encoded)
