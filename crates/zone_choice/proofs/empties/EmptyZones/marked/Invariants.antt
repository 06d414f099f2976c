use Rattle.std.proofs.Common.{◌≡◌, ◌≤◌, ◌+◌, drop}
use Rattle.std.specs.List.{count_by}
use Rattle.zone_choice.proofs.empties.EmptyZones.marked.Given as goal

abbrev pub invariant-loop-mark : goal.invariant-loop-mark
invariant-loop-mark l = record {
  counted : l.count + count_by (λ b. b) (drop l.mark-index l.mark-items) ≡ count_by (λ b. b) l.mark-items;
  small : l.count ≤ l.mark-index;
}
