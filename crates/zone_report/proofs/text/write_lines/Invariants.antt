use Rattle.std.proofs.Common.{length}
use Rattle.std.specs.Prelude.{string_bytes}
use Rattle.zone_report.proofs.TextLaws.{Reads}
use Rattle.zone_report.proofs.text.write_lines.Given as goal

abbrev pub invariant-loop-front : goal.invariant-loop-front
invariant-loop-front l = Reads l.bytes (string_bytes l.fn.text) l.rest (string_bytes l.text)

abbrev pub decreases-loop-front : goal.decreases-loop-front
decreases-loop-front l = length l.rest
