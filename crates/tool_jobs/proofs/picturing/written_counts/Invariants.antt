use Rattle.std.proofs.Common.{◌≡◌, ◌++◌, drop}
use Rattle.tool_jobs.specs.Pictures.{written_counts}
use Rattle.tool_jobs.proofs.picturing.written_counts.Given as goal

abbrev pub invariant-loop-zone : goal.invariant-loop-zone
invariant-loop-zone l = l.counts.items ++ written_counts (drop l.zone-index l.zones) ≡ written_counts l.zones
