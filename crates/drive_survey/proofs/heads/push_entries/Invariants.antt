use Rattle.std.proofs.Common.{◌≡◌, ◌++◌, map, drop}
use Rattle.drive_survey.specs.Heads.{kept_entry}
use Rattle.drive_survey.proofs.heads.push_entries.Given as goal

abbrev pub invariant-loop-i : goal.invariant-loop-i
invariant-loop-i l = l.entries.items ++ map kept_entry (drop l.i l.header.entries) ≡ l.fn.entries.items ++ map kept_entry l.header.entries
