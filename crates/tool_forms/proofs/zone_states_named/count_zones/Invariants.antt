use Rattle.std.proofs.Common.{◌≡◌, ◌≤◌, ◌+◌, drop}
use Rattle.std.specs.List.{count_by}
use Rattle.zone_states.specs.Zone.{Zone}
use Rattle.tool_forms.specs.Counts.{is_in}
use Rattle.tool_forms.proofs.zone_states_named.count_zones.Given as goal

abbrev pub invariant-loop-number : goal.invariant-loop-number
invariant-loop-number g l = record {
  counted : l.found + count_by (λ (zone : Zone). is_in l.state zone.state) (drop l.number (g.Z.ReportedZones.zones l.zones)) ≡ count_by (λ (zone : Zone). is_in l.state zone.state) (g.Z.ReportedZones.zones l.zones);
  small : l.found ≤ l.number;
}
