use Rattle.drive_survey.proofs.SizeCountLaws.{sized-more, sized-none}
use Rattle.drive_survey.proofs.clearing.sizes.lowest_sized.Goals as goal

pub loop-number-preserved : goal.loop-number-preserved
loop-number-preserved c =
    sized-more c.args.scanned.now c.loop-number.number c.index-scanned-number.result c.loop-number-test.true c.index-scanned-number.is (let e = c.size.ensures in let f = c.if-is_some.ensures in cc) c.loop-number.invariant

pub returns-clause-none : goal.returns-clause-none
returns-clause-none c = sized-none c.args.scanned.now c.loop-number.number c.loop-number-test.false c.loop-number.invariant
