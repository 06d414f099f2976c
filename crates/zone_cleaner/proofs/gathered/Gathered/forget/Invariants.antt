use Rattle.std.proofs.Common.{◌≡◌, drop}
use Rattle.zone_cleaner.specs.LiveRecords.{without_all}
use Rattle.zone_cleaner.proofs.gathered.Gathered.forget.Given as goal

abbrev pub invariant-loop-entry : goal.invariant-loop-entry
invariant-loop-entry l = without_all (drop l.entry-index l.fn.entries) l.self.records ≡ without_all l.fn.entries l.fn.self.records
