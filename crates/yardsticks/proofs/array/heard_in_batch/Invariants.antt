use Rattle.std.proofs.Common.{◌≡◌, ◌≤◌, drop}
use Rattle.std.specs.Option.{option_map}
use Rattle.yardsticks.specs.Batches.{held_blocks}
use Rattle.drive_array.specs.Records.{entry_records}
use Rattle.yardsticks.specs.Zones.{heard, saying_of}
use Rattle.yardsticks.proofs.array.heard_in_batch.Given as goal

abbrev pub invariant-loop-entry : goal.invariant-loop-entry
invariant-loop-entry l =
    let sequence = l.batch.header.sequence in
    let body = held_blocks l.batch.body.items in
    record {
      found : heard l.block (option_map saying_of l.latest) (entry_records sequence body l.zone 0 l.number (drop l.entry-index l.batch.header.entries.items))
          ≡ heard l.block (option_map saying_of l.fn.found) (entry_records sequence body l.zone 0 0 l.batch.header.entries.items);
      small : l.number ≤ l.entry-index;
    }
