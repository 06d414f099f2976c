use Rattle.drive_journal.specs.Reading.{SoFar}
use Rattle.drive_journal.proofs.replaying.replay.Given as goal

abbrev pub invariant-loop : goal.invariant-loop
invariant-loop g l = SoFar l.geometry (g.R.Read.remaining l.fn.reader) (g.R.Read.remaining l.reader) l.fn.zones l.zones l.from l.at l.sum
