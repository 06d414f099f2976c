use Rattle.std.proofs.Common.{◌≡◌, ℕ, Option}
use Rattle.std.specs.Prelude.{is_some}
use Rattle.std.specs.List.{list_any}
use Rattle.zone_cleaner.proofs.gathered.has_data.Given as goal

abbrev pub invariant-loop-position : goal.invariant-loop-position
invariant-loop-position l = list_any (λ (b : ℕ × Option ℕ). is_some b.1) l.fn.records.entries ≡ list_any is_some l.position-iterator
