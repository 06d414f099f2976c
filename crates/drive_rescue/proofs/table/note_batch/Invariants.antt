use Rattle.std.proofs.Common.{◌≡◌, ℕ, ◌+◌, List, drop}
use Rattle.batch_log.specs.Log.{data_count}
use Rattle.drive_array.specs.Records.{Record, entry_records}
use Rattle.drive_rescue.specs.Notes.{Notes}
use Rattle.drive_rescue.proofs.NoteLaws.{Noting, left_records}
use Rattle.drive_rescue.proofs.table.note_batch.Given as goal

abbrev pub invariant-loop-i : goal.invariant-loop-i
invariant-loop-i l =
    ((rs : List Record) (body : List (List ℕ)) → Notes rs l.fn.table.items
    → Noting rs (entry_records l.sequence body l.place.zone l.place.offset 0 l.header.entries)
    (left_records l.sequence body l.place.zone l.place.offset l.before l.header.entries l.i) l.table.items)
    × (l.before + data_count (drop l.i l.header.entries) ≡ data_count l.header.entries)
