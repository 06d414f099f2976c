use Rattle.drive_survey.proofs.ShowLaws.{same-absent, same-apart}
use Rattle.drive_survey.proofs.clearing.shown.rivals_of.Goals as goal

pub returns-in_default-clause-none : goal.returns-in_default-clause-none
returns-in_default-clause-none c = λ block_bytes logs holds some. same-absent block_bytes logs c.args.table.now c.args.zone c.args.block (rw c.in_default.is at c.newest.ensures) holds some

pub returns-then-newest-zone-clause-none : goal.returns-then-newest-zone-clause-none
returns-then-newest-zone-clause-none c = λ block_bytes logs holds some. same-apart block_bytes logs c.args.table.now c.args.zone c.args.block c.in-Some.newest (rw c.in-Some.is at c.newest.ensures) c.if-newest-zone.true holds some
