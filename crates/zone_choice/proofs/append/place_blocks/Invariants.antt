use Rattle.zone_choice.proofs.BuilderLaws.{Placing}
use Rattle.zone_choice.proofs.append.place_blocks.Given as goal

abbrev pub invariant-loop-entry : goal.invariant-loop-entry
invariant-loop-entry l = Placing l.fn.header l.fn.entries l.fn.tables l.tables l.address l.entry-index
