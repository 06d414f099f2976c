use Rattle.std.proofs.Common.{refl, arith, ◌∙◌}
use Rattle.drive_survey.specs.declared.clearing.Candidates.{Candidates}
use Rattle.drive_survey.proofs.CountLaws.{looks-more, looks-none, looks-within}
use Rattle.drive_survey.proofs.FindLaws.{lowest-here, lowest-none, no-length, others-wait, sifts-more}
use Rattle.drive_survey.proofs.ReadLaws.{keeps-both, keeps-none}
use Rattle.drive_survey.proofs.SurveyLaws.{known-kept}
use Rattle.drive_survey.proofs.clearing.next_half_clean.Goals as goal

pub loop-zone-init : goal.loop-zone-init
loop-zone-init g c = (keeps-none _ c.requires.zones.lawful, refl, refl, λ clean logs are wait. wait, looks-none c.args.survey.now.scanned.items c.args.candidates.now.waiting _)

pub examine_by-requires-clause-zones : goal.examine_by-requires-clause-zones
examine_by-requires-clause-zones g c = known-kept _ _ c.args.survey.now.zones.items c.loop-zone.invariant.0 c.requires.zones

pub examine_by-requires-clause-few : goal.examine_by-requires-clause-few
examine_by-requires-clause-few g c = rw c.loop-zone.invariant.1 c.requires.few

pub returns-in_err-finding-clause-kept : goal.returns-in_err-finding-clause-kept
returns-in_err-finding-clause-kept g c = keeps-both _ _ _ c.loop-zone.invariant.0 c.examine_by.ensures.kept

pub returns-in-HalfClean-clause-ok : goal.returns-in-HalfClean-clause-ok
returns-in-HalfClean-clause-ok g c clean =
    lowest-here (g.D.Device.drive c.args.device.now) (g.D.Device.drive c.loop-zone.device) c.args.survey.now.given c.args.survey.now c.args.candidates.now c.loop-zone.candidates c.in-Some.zone c.in_ok-finding.finding
    c.loop-zone.invariant.0 c.loop-zone.invariant.1 c.in-Some.ensures.least c.in-HalfClean.is (c.in_ok-finding.ensures.ok clean) (c.loop-zone.invariant.3 (c.examine_by.ensures.kept.trusted clean))

pub returns-in-HalfClean-clause-others : goal.returns-in-HalfClean-clause-others
returns-in-HalfClean-clause-others g c clean =
    let new : Candidates = record { records = c.loop-zone.candidates.records; sizes = c.loop-zone.candidates.sizes; waiting = c.pop_first.new.self } in
    others-wait (g.D.Device.drive c.args.device.now) c.args.survey.now.given c.args.survey.now c.args.candidates.now c.loop-zone.candidates new c.in-Some.zone c.in-Some.ensures.updates (c.loop-zone.invariant.3 (c.examine_by.ensures.kept.trusted clean))

pub returns-in-HalfClean-clause-kept : goal.returns-in-HalfClean-clause-kept
returns-in-HalfClean-clause-kept g c = keeps-both _ _ _ c.loop-zone.invariant.0 c.examine_by.ensures.kept

pub loop-zone-preserved : goal.loop-zone-preserved
loop-zone-preserved g c =
    let new : Candidates = record { records = c.loop-zone.candidates.records; sizes = c.loop-zone.candidates.sizes; waiting = c.pop_first.new.self } in (
      keeps-both _ _ _ c.loop-zone.invariant.0 c.examine_by.ensures.kept,
      c.loop-zone.invariant.1,
      c.loop-zone.invariant.2,
      λ clean. sifts-more (g.D.Device.drive c.args.device.now) (g.D.Device.drive c.loop-zone.device) c.args.survey.now.given c.args.survey.now c.args.candidates.now c.loop-zone.candidates new c.in-Some.zone c.in_ok-finding.finding
          c.loop-zone.invariant.0 c.loop-zone.invariant.1 c.in-Some.ensures.updates c.in_default-finding.not-HalfClean (c.in_ok-finding.ensures.ok clean) (c.loop-zone.invariant.3 (c.examine_by.ensures.kept.trusted clean)),
      looks-more c.args.survey.now.scanned.items c.loop-zone.candidates.waiting c.pop_first.new.self c.in-Some.zone (g.D.Device.drive c.args.device.now) (g.D.Device.drive c.loop-zone.device) (g.D.Device.drive c.examine_by.new.device) c.loop-zone.invariant.4 c.in-Some.ensures.member c.in-Some.ensures.least c.in-Some.ensures.updates c.examine_by.ensures.completed,
    )

pub returns-clause-ok : goal.returns-clause-ok
returns-clause-ok g c clean =
    lowest-none (g.D.Device.drive c.args.device.now) c.args.survey.now.given c.args.survey.now c.args.candidates.now c.loop-zone.candidates (no-length _ (λ some. let bad = c.in_default.ensures.variant.1 some in absurd (cc))) (c.loop-zone.invariant.3 clean)

pub returns-in_err-finding-clause-completed : goal.returns-in_err-finding-clause-completed
returns-in_err-finding-clause-completed g c =
    let looks = looks-more c.args.survey.now.scanned.items c.loop-zone.candidates.waiting c.pop_first.new.self c.in-Some.zone (g.D.Device.drive c.args.device.now) (g.D.Device.drive c.loop-zone.device) (g.D.Device.drive c.examine_by.new.device) c.loop-zone.invariant.4 c.in-Some.ensures.member c.in-Some.ensures.least c.in-Some.ensures.updates c.examine_by.ensures.completed in
    omega (arith, looks.completed, looks-within c.args.survey.now.scanned.items looks.past)

pub returns-in-HalfClean-clause-completed : goal.returns-in-HalfClean-clause-completed
returns-in-HalfClean-clause-completed g c =
    let looks = looks-more c.args.survey.now.scanned.items c.loop-zone.candidates.waiting c.pop_first.new.self c.in-Some.zone (g.D.Device.drive c.args.device.now) (g.D.Device.drive c.loop-zone.device) (g.D.Device.drive c.examine_by.new.device) c.loop-zone.invariant.4 c.in-Some.ensures.member c.in-Some.ensures.least c.in-Some.ensures.updates c.examine_by.ensures.completed in
    omega (arith, looks.completed, looks-within c.args.survey.now.scanned.items looks.past)

pub returns-clause-completed : goal.returns-clause-completed
returns-clause-completed g c =
    omega (arith, c.loop-zone.invariant.4.completed, looks-within c.args.survey.now.scanned.items c.loop-zone.invariant.4.past)

pub examine_by-requires-clause-sizes : goal.examine_by-requires-clause-sizes
examine_by-requires-clause-sizes g c clean = c.loop-zone.invariant.2 ∙ c.requires.sizes (c.loop-zone.invariant.0.trusted clean)

pub returns-in-HalfClean-clause-some : goal.returns-in-HalfClean-clause-some
returns-in-HalfClean-clause-some g c = c.in_ok-finding.ensures.some c.in-HalfClean.is
