use Rattle.std.proofs.Common.{◌≡◌, ◌^◌, ◌<◌, drop}
use Rattle.disk_files.specs.Words.{digits_after}
use Rattle.disk_files.proofs.words.number.Given as goal

abbrev pub invariant-loop-byte : goal.invariant-loop-byte
invariant-loop-byte l = (digits_after l.value (drop l.byte-index l.word) ≡ digits_after 0 l.word) × (l.value < 10 ^ l.byte-index)
