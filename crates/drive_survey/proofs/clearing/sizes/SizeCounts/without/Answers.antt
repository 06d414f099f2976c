use Rattle.drive_survey.proofs.FindLaws.{found-in}
use Rattle.drive_survey.proofs.SizeCountLaws.{counts-other, counts-own, counts-silent}
use Rattle.drive_survey.proofs.clearing.sizes.SizeCounts.without.Goals as goal

pub returns-in_default-size : goal.returns-in_default-size
returns-in_default-size c =
    counts-silent c.args.survey.now.size c.args.zone c.args.survey.now.scanned.items c.in-Some.found.now c.size.result c.args.self
    (found-in c.deref.result.now c.args.survey.now c.args.zone c.in-Some.found.now c.deref.ensures.value c.in-Some.ensures.lookup.3.0 c.in-Some.ensures.lookup.1) c.size.ensures c.in_default-size.is

pub returns-then-size-survey : goal.returns-then-size-survey
returns-then-size-survey c =
    counts-other c.args.survey.now.size c.args.zone c.in-Some-size.size c.saturating_sub-any.result c.args.survey.now.scanned.items c.in-Some.found.now c.size.result c.args.self
    (found-in c.deref.result.now c.args.survey.now c.args.zone c.in-Some.found.now c.deref.ensures.value c.in-Some.ensures.lookup.3.0 c.in-Some.ensures.lookup.1) c.size.ensures c.in-Some-size.is c.if-size-survey.true c.saturating_sub-any.ensures

pub returns : goal.returns
returns c =
    counts-own c.args.survey.now.size c.args.zone c.in-Some-size.size c.saturating_sub-any.result c.saturating_sub.result c.args.survey.now.scanned.items c.in-Some.found.now c.size.result c.args.self
    (found-in c.deref.result.now c.args.survey.now c.args.zone c.in-Some.found.now c.deref.ensures.value c.in-Some.ensures.lookup.3.0 c.in-Some.ensures.lookup.1) c.size.ensures c.in-Some-size.is c.if-size-survey.false c.saturating_sub-any.ensures c.saturating_sub.ensures
