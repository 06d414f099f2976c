use Rattle.zone_cleaner.proofs.RecordLaws.{below-without}
use Rattle.zone_cleaner.proofs.clean.Clean.forget.Goals as goal

pub invariant_of-self : goal.invariant_of-self
invariant_of-self c = rw c.forget.ensures (below-without c.self.inside.cursor c.args.entries.now _ c.self.invariant)
