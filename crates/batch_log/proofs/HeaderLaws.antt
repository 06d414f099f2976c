-- A header block is read again, so each heading has a block of its own.
use Rattle.std.proofs.Common.{◌≡◌, ℕ, ◌+◌, ◌-◌, ◌*◌, ◌<◌, ◌^◌, Bool, true, false, ltb, List, [], ◌∷◌, ◌++◌, length, replicate, Option, Some, None, refl, sym, ap, ◌∙◌, arith}
use Rattle.std.specs.Prelude.{IfSome}
use Rattle.std.specs.List.{flat_map, AllByRecursion}
use Rattle.std.proofs.lemmas.List.{length-append, length-replicate}
use Rattle.std.proofs.lemmas.Bool.{lt-ltb, le-ltb}
use Rattle.byteorder.specs.Endian.{little_from, little_bytes}
use Rattle.byteorder.specs.Numbers.{little_number-reads_back}
use Rattle.batch_log.specs.declared.header.Kind.{Kind}
use Rattle.batch_log.specs.declared.header.Kind.TheVariants.{Host, Move}
use Rattle.batch_log.specs.declared.header.Entry.{Entry}
use Rattle.batch_log.specs.Header.{Heading, IsSize, head_size, header_block, entry_word_bytes, entry_word, trim_bit, kind_code, version_of, size_word}
use Rattle.batch_log.specs.LogLaws.{HeaderAgain, OneHeader, HeaderLength}
use Rattle.batch_log.proofs.Writing.{length-entries}
use Rattle.batch_log.specs.Reading.{kind_of, said_size, entry_of, entries_in, heading_in}

entry_again : (e : Entry) → e.block < 2 ^ 63 → entry_of (entry_word e) ≡ e
entry_again e lt = again e.trim
  where
    again : (trim : Bool) → entry_of (e.block + trim_bit trim) ≡ record { block = e.block; trim = trim }
    again true =
        let test : ltb (e.block + 2 ^ 63) (2 ^ 63) ≡ false = le-ltb _ _ (omega arith) in
        let back : e.block + 2 ^ 63 - 2 ^ 63 ≡ e.block = omega arith in
        rw (test, back) refl
    again false =
        let same : e.block + 0 ≡ e.block = omega arith in
        let test : ltb e.block (2 ^ 63) ≡ true = lt-ltb _ _ lt in
        rw (same, test) refl

word_fits : (e : Entry) → e.block < 2 ^ 63 → entry_word e < 256 ^ 8
word_fits e lt = elim e.trim as (λ t. e.block + trim_bit t < 256 ^ 8) [ true ↦ omega arith | false ↦ omega arith ]

entries_again : (es : List Entry) (rest : List ℕ) → AllByRecursion (λ (e : Entry). e.block < 2 ^ 63) es → entries_in (length es) (flat_map entry_word_bytes es ++ rest) ≡ es
entries_again [] rest all = refl
entries_again (e ∷ es) rest all =
    let behind = flat_map entry_word_bytes es ++ rest in
    let word : little_from 0 8 (little_bytes 8 (entry_word e) ++ behind) ≡ entry_word e = little_number-reads_back 8 (entry_word e) behind (word_fits e all.0) in
    let others = entries_again es rest all.1 in
    ap (λ (w : ℕ). entry_of w ∷ entries_in (length es) behind) word ∙ rw (entry_again e all.0, others) refl

-- a kind is read back from its code
kind_again : (k : Kind) → kind_of (little_from 0 2 (little_bytes 2 (kind_code k))) ≡ k
kind_again Host = refl
kind_again Move = refl

-- and a version from its bytes
pub version_again : (size : Option ℕ) → little_from 0 2 (little_bytes 2 (version_of size)) ≡ version_of size
version_again None = refl
version_again (Some n) = refl

size_again : (size : Option ℕ) (version word : ℕ) → version ≡ version_of size → word ≡ size_word size → said_size version word ≡ size
size_again None version word e h = rw e refl
size_again (Some n) version word e h = rw (e, h) refl

-- the size of a disk fits its word
pub word_small : (size : Option ℕ) → IfSome size IsSize → size_word size < 256 ^ 4
word_small None is = omega arith
word_small (Some n) is = omega (arith, is.1)

-- a heading, and that it is given by its parts
abbrev pub made : Kind → ℕ → ℕ → Option ℕ → List Entry → Heading
made kind sequence source size entries = record { kind = kind; sequence = sequence; source = source; size = size; entries = entries }

-- headings with the same parts are the same
pub same_heading : (k k' : Kind) (s s' o o' : ℕ) (n n' : Option ℕ) (es es' : List Entry) → k ≡ k' → s ≡ s' → o ≡ o' → n ≡ n' → es ≡ es' → made k s o n es ≡ made k' s' o' n' es'
same_heading k k' s s' o o' n n' es es' e1 e2 e3 e4 e5 = rw (e1, e2, e3, e4, e5) refl

-- a header is read back from its block
pub header_again : HeaderAgain
unfolding heading_in header_block
header_again size h small is =
    let zeros : List ℕ = replicate (size - head_size - 8 * length h.entries) 0 in
    let more : List ℕ = flat_map entry_word_bytes h.entries ++ zeros in
    let after_source : List ℕ = little_bytes 4 (size_word h.size) ++ more in
    let after_sequence : List ℕ = little_bytes 4 h.source ++ after_source in
    let after_count : List ℕ = little_bytes 8 h.sequence ++ after_sequence in
    let count : little_from 0 4 (little_bytes 4 (length h.entries) ++ after_count) ≡ length h.entries = little_number-reads_back 4 (length h.entries) after_count (omega (arith, is.room)) in
    let sequence : little_from 0 8 (little_bytes 8 h.sequence ++ after_sequence) ≡ h.sequence = little_number-reads_back 8 h.sequence after_sequence (omega (arith, is.sequence)) in
    let source : little_from 0 4 (little_bytes 4 h.source ++ after_source) ≡ h.source = little_number-reads_back 4 h.source after_source (omega (arith, is.source)) in
    let word : little_from 0 4 (little_bytes 4 (size_word h.size) ++ more) ≡ size_word h.size = little_number-reads_back 4 (size_word h.size) more (word_small h.size is.size) in
    let entries = ap (λ (n : ℕ). entries_in n more) count ∙ entries_again h.entries zeros is.blocks in
    same_heading _ _ _ _ _ _ _ _ _ _ (kind_again h.kind) sequence source (size_again h.size _ _ (version_again h.size) word) entries

-- a block is the header of one heading at most
pub one_header : OneHeader
one_header size h k small is is' same = sym (header_again size h small is) ∙ ap heading_in same ∙ header_again size k small is'

-- a header has the length of a block
pub header_length : HeaderLength
unfolding header_block
header_length size h le is =
    let zeros : List ℕ = replicate (size - head_size - 8 * length h.entries) 0 in
    let both : length (flat_map entry_word_bytes h.entries ++ zeros) ≡ length (flat_map entry_word_bytes h.entries) + length zeros = length-append (flat_map entry_word_bytes h.entries) zeros in
    let rest : length zeros ≡ size - head_size - 8 * length h.entries = length-replicate (size - head_size - 8 * length h.entries) 0 in
    omega (arith, is.room, length-entries h.entries)
