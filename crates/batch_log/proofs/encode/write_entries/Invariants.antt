use Rattle.std.proofs.Common.{◌≡◌, ◌*◌, ◌++◌, take, drop}
use Rattle.std.specs.List.{flat_map}
use Rattle.batch_log.specs.Header.{entry_word_bytes}
use Rattle.batch_log.proofs.encode.write_entries.Given as goal

abbrev pub invariant-loop-i : goal.invariant-loop-i
invariant-loop-i l = l.out ≡ flat_map entry_word_bytes (take l.i l.entries) ++ drop (8 * l.i) l.fn.out
