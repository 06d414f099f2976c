use Rattle.std.proofs.Common.{refl}
use Rattle.drive_survey.proofs.FindLaws.{forgets-heads, forgets-tails}
use Rattle.drive_survey.proofs.clearing.moved.forget.Goals as goal

pub returns-in-Some-clause-heads : goal.returns-in-Some-clause-heads
returns-in-Some-clause-heads c = forgets-heads c.args.scanned.now.items c.args.zone _ c.new.ensures

pub returns-in-Some-clause-tails : goal.returns-in-Some-clause-tails
returns-in-Some-clause-tails c = forgets-tails c.args.scanned.now.items c.args.zone _ c.in-Some.found.now refl c.in-Some.ensures.item.1
