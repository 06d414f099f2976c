use Rattle.drive_survey.proofs.SizeCountLaws.{keeps-none, keeps-other, keeps-said}
use Rattle.drive_survey.proofs.clearing.sizes.SizeCounts.keep_size.Goals as goal

pub returns-then-left-ne0 : goal.returns-then-left-ne0
returns-then-left-ne0 c = keeps-said c.args.survey.now.given c.args.zone c.args.survey.now c.args.self c.without-left.result c.without-left.ensures c.if-left-ne0.true

pub returns-then-left-ne0-2 : goal.returns-then-left-ne0-2
returns-then-left-ne0-2 c = keeps-other c.args.survey.now.given c.args.zone c.args.survey.now c.args.self c.without-left.result c.without-left.ensures c.if-left-ne0.false c.if-left-ne0-2.true

pub returns : goal.returns
returns c = keeps-none c.args.survey.now.given c.args.zone c.args.survey.now c.args.self c.without-left.result c.without-left.ensures c.if-left-ne0-2.false
