-- The headers of a zone's batches, as a mount keeps them.
use Rattle.std.specs.Prelude.{ℕ, ◌+◌, ◌^◌, ◌==◌, nat_lt, ◌&&◌, max, if◌then◌else◌, Bool, true}
use Rattle.std.specs.Prelude.{false, List, [], ◌∷◌, ◌++◌, map, length, Option, None}
use Rattle.std.specs.List.{flat_map}
use Rattle.batch_log.specs.declared.header.Entry.{Entry}
use Rattle.batch_log.specs.declared.header.Kind.{Kind}
use Rattle.batch_log.specs.declared.header.Kind.TheVariants.{Host, Move}
use Rattle.batch_log.specs.Header.{Heading}
use Rattle.batch_log.specs.Log.{Batch, data_count}
use Rattle.drive_array.specs.Sizes.{larger}
use Rattle.drive_survey.specs.declared.heads.Head.{Head}

-- An entry as it is kept, in 32 bits: its block, of those that a disk can have, and bit 31 for a trim.
abbrev pub kept_block : ℕ → ℕ
kept_block block = if nat_lt block (2 ^ 31) then block else 0

abbrev pub kept_bit : Bool → ℕ
kept_bit true = 2 ^ 31
kept_bit false = 0

abbrev pub kept_entry : Entry → ℕ
kept_entry e = kept_block e.block + kept_bit e.trim

-- the greatest of a number and the blocks that the entries name
abbrev pub highest_of : ℕ → List Entry → ℕ
highest_of n [] = n
highest_of n (e ∷ es) = highest_of (max n e.block) es

-- The headers of the first batches of a zone: the sequence and the place of each; the entries of all, one after the
-- other; how many blocks the batches take; whether all are Moves from one zone, that of the first; the greatest size
-- that they say; the greatest number of entries that one has; and the greatest block that they name, 0 where they name
-- none.
pub record HeadsView : Type 0 where
  pub heads : List Head
  pub entries : List ℕ
  pub blocks : ℕ
  pub source : ℕ
  pub are_moves : Bool
  pub size : Option ℕ
  pub most : ℕ
  pub highest : ℕ

-- of no batch
abbrev pub no_heads : HeadsView
no_heads = record { heads = []; entries = []; blocks = 0; source = 0; are_moves = true; size = None; most = 0; highest = 0 }

abbrev pub source_with : List Head → ℕ → ℕ → ℕ
source_with [] source other = other
source_with (head ∷ heads) source other = source

abbrev pub is_move : Kind → Bool
is_move Move = true
is_move Host = false

-- one header more
abbrev pub with_heading : HeadsView → Heading → HeadsView
with_heading view heading =
    let source = source_with view.heads view.source heading.source in
    record {
      heads = view.heads ++ record { sequence = heading.sequence; offset = view.blocks; end = length view.entries + length heading.entries } ∷ [];
      entries = view.entries ++ map kept_entry heading.entries;
      blocks = view.blocks + 1 + data_count heading.entries;
      source = source;
      are_moves = view.are_moves && is_move heading.kind && (heading.source == source);
      size = larger view.size heading.size;
      most = max view.most (length heading.entries);
      highest = highest_of view.highest heading.entries;
    }

-- the headers of these batches
abbrev pub heads_after : HeadsView → List Batch → HeadsView
heads_after view [] = view
heads_after view (batch ∷ log) = heads_after (with_heading view batch.heading) log

abbrev pub heads_of : List Batch → HeadsView
heads_of log = heads_after no_heads log

-- the greatest sequence, 0 if none
abbrev pub greatest_sequence : List ℕ → ℕ
greatest_sequence [] = 0
greatest_sequence (sequence ∷ others) = max sequence (greatest_sequence others)

-- the sequences in headers
abbrev pub head_sequences : List Head → List ℕ
head_sequences heads = map (λ (head : Head). head.sequence) heads

abbrev pub sequences_in : List HeadsView → List ℕ
sequences_in views = flat_map (λ (view : HeadsView). head_sequences view.heads) views
