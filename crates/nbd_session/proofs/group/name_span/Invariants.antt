use Rattle.std.proofs.Common.{◌≡◌, ◌++◌}
use Rattle.nbd_session.specs.Groups.{named}
use Rattle.nbd_session.proofs.group.name_span.Given as goal

abbrev pub invariant-loop-i : goal.invariant-loop-i
invariant-loop-i l = l.entries.items ≡ l.fn.entries.items ++ named l.span.first l.i l.span.trim
