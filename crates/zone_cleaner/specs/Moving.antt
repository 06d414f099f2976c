-- The Move that gathered records are built to.
use Rattle.std.specs.Prelude.{◌≡◌, ℕ, List, ◌++◌, drop}
use Rattle.std.specs.List.{concat}
use Rattle.batch_log.specs.declared.header.Entry.{Entry}
use Rattle.batch_log.specs.Header.{Heading, header_block}
use Rattle.batch_log.specs.Log.{Batch}
use Rattle.zone_choice.specs.Builder.{BuilderView}
use Rattle.zone_cleaner.specs.declared.gathered.MoveHeader.{MoveHeader}
use Rattle.zone_cleaner.specs.Gathered.{move_heading}
use Rattle.zone_cleaner.specs.LiveRecords.{LiveRecord, gathered_move}

-- what it says, with these entries
abbrev pub heading_for : MoveHeader → List Entry → Heading
heading_for header entries = move_heading header.size header.sequence header.source entries

-- the Move of these records
abbrev pub move_with : MoveHeader → List LiveRecord → Batch
move_with header records = gathered_move header.size header.sequence header.source records

-- these bytes, with a header block in place of as many of them
abbrev pub headed_bytes : ℕ → Heading → List ℕ → List ℕ
headed_bytes block_bytes heading bytes = header_block block_bytes heading ++ drop block_bytes bytes

-- the Move was built: its header block, and the data of its records
pub record HoldsMove (builder : BuilderView) (block_bytes : ℕ) (move : Batch) : Type 0 where
  pub heading : builder.heading ≡ move.heading
  pub bytes : builder.bytes ≡ header_block block_bytes builder.heading ++ concat move.body
