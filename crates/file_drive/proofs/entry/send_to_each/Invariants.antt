use Rattle.std.proofs.Common.{◌≡◌, take, Some}
use Rattle.file_drive.specs.Tables.{next_entries}
use Rattle.file_drive.proofs.entry.send_to_each.Given as goal

abbrev pub invariant-loop-index : goal.invariant-loop-index
invariant-loop-index l = l.entries.items ≡ next_entries (Some l.action) (take l.index l.flushed) l.fn.entries.items
