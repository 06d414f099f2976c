use Rattle.std.proofs.Common.{◌≡◌, ◌++◌, map, take}
use Rattle.zone_cleaner.specs.Undoing.{entry_moved}
use Rattle.zone_cleaner.proofs.moved.note_places.Given as goal

abbrev pub invariant-loop-entry : goal.invariant-loop-entry
invariant-loop-entry l = l.moved.items ≡ l.fn.moved.items ++ map (entry_moved l.fn.tables.map.places) (take l.entry-index l.fn.entries)
