use Rattle.std.proofs.Common.{◌≡◌}
use Rattle.zone_choice.specs.Tables.{FindsLeastSealed}
use Rattle.zone_choice.proofs.tables.Tables.least_readable.Given as goal

abbrev pub invariant-loop-zone : goal.invariant-loop-zone
invariant-loop-zone l = FindsLeastSealed l.self l.zone l.least
