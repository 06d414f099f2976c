use Rattle.std.proofs.Common.{[], ◌∷◌, length, Some, None, refl, ap, ◌∙◌, arith}
use Rattle.std.proofs.lemmas.List.{length-append}
use Rattle.drive_array.specs.ZoneLogs.{drive_logs}
use Rattle.drive_survey.specs.declared.clearing.block_records.BlockRecords.{BlockRecords}
use Rattle.drive_survey.specs.declared.survey.Survey.{Survey}
use Rattle.drive_survey.proofs.ClearLaws.{clears-all, finds-given, leaves-given, next-known, searches-more, searches-none}
use Rattle.drive_survey.proofs.CountLaws.{fewer-batches, heads-count, inside-more, searches-next, searches-once}
use Rattle.drive_survey.proofs.ReadLaws.{keeps-both, keeps-none}
use Rattle.drive_survey.proofs.RecordHoldLaws.{few-same}
use Rattle.drive_survey.proofs.SpareLaws.{knows-kept}
use Rattle.drive_survey.proofs.SurveyLaws.{known-kept}
use Rattle.drive_survey.proofs.clearing.clear_moved.Goals as goal

pub returns-then-not-has_moved-clause-kept : goal.returns-then-not-has_moved-clause-kept
returns-then-not-has_moved-clause-kept g c = keeps-none _ c.requires.zones.lawful

pub returns-in_err-candidates-clause-kept : goal.returns-in_err-candidates-clause-kept
returns-in_err-candidates-clause-kept g c = keeps-none _ c.requires.zones.lawful

pub loop-candidates-init : goal.loop-candidates-init
loop-candidates-init g c =
    (keeps-none _ c.requires.zones.lawful, λ clean. rw c.new-resets.ensures.items (searches-none (g.D.Device.drive c.args.device.now) c.args.survey.now.given c.args.survey.now c.in_ok-candidates.candidates (c.requires.known clean) c.in_ok-candidates.ensures.are c.in_ok-candidates.ensures.wait), refl, rw c.new-resets.ensures.items (record { few = omega arith; completed = omega arith }), c.in_ok-candidates.ensures.own, refl, rw c.new-resets.ensures.items tt)

pub returns-in_err-zone-clause-kept : goal.returns-in_err-zone-clause-kept
returns-in_err-zone-clause-kept g c = keeps-both _ _ _ c.loop-candidates.invariant.0 c.next_half_clean.ensures.kept

pub returns-then-is_err-clause-kept : goal.returns-then-is_err-clause-kept
returns-then-is_err-clause-kept g c = keeps-both _ _ _ c.loop-candidates.invariant.0 c.next_half_clean.ensures.kept

pub loop-candidates-smaller : goal.loop-candidates-smaller
loop-candidates-smaller g c = fewer-batches c.give_up.new.survey.scanned.items c.loop-candidates.survey.scanned.items c.in-Some.zone c.in_ok-give_up.ensures.heads (rw c.in-Some.is at c.in_ok-zone.ensures.some)

pub returns-in_err-give_up-clause-kept : goal.returns-in_err-give_up-clause-kept
returns-in_err-give_up-clause-kept g c = keeps-both _ _ _ c.loop-candidates.invariant.0 c.next_half_clean.ensures.kept

pub loop-candidates-preserved : goal.loop-candidates-preserved
loop-candidates-preserved g c = (
  keeps-both _ _ _ c.loop-candidates.invariant.0 c.next_half_clean.ensures.kept,
  λ clean. let was = c.next_half_clean.ensures.kept.trusted clean in searches-more (g.D.Device.drive c.args.device.now) (g.D.Device.drive c.loop-candidates.device) (g.D.Device.drive c.next_half_clean.new.device) c.args.survey.now.given c.loop-candidates.survey c.give_up.new.survey
      c.loop-candidates.candidates c.next_half_clean.new.candidates c.give_up.new.candidates c.loop-candidates.resets.items c.push.new.self.items c.in-Some.zone (c.loop-candidates.invariant.1 was) c.next_half_clean.ensures.kept
      c.next_half_clean.ensures.tables.0 c.next_half_clean.ensures.tables.1 (finds-given (g.D.Device.drive c.loop-candidates.device) c.args.survey.now.given c.loop-candidates.survey.given c.loop-candidates.survey c.loop-candidates.candidates (Some c.in-Some.zone) (c.loop-candidates.invariant.1 was).are.known.given_is (rw c.in-Some.is at (c.in_ok-zone.ensures.ok clean))) (leaves-given (g.D.Device.drive c.loop-candidates.device) c.args.survey.now.given c.loop-candidates.survey.given c.loop-candidates.survey c.loop-candidates.candidates c.next_half_clean.new.candidates c.in-Some.zone (c.loop-candidates.invariant.1 was).are.known.given_is (rw c.in-Some.is at (c.in_ok-zone.ensures.others clean)))
      (record { heads = c.in_ok-give_up.ensures.heads; tails = c.give_up.ensures.tails; zones = ap (λ (s : Survey). s.zones) c.give_up.ensures.others; size = ap (λ (s : Survey). s.size) c.give_up.ensures.others; given = ap (λ (s : Survey). s.given) c.give_up.ensures.others })
      (record { are = c.in_ok-give_up.ensures.are; wait = c.in_ok-give_up.ensures.wait }) (rw c.if-is_err.ensures.negation at c.push.ensures.items),
  ap (λ (s : Survey). s.zones) c.give_up.ensures.others ∙ c.loop-candidates.invariant.2,
  searches-next _ (length c.loop-candidates.resets.items) _ c.loop-candidates.survey.scanned.items c.give_up.new.survey.scanned.items c.in-Some.zone (g.D.Device.drive c.args.device.now) (g.D.Device.drive c.loop-candidates.device) (g.D.Device.drive c.next_half_clean.new.device) (ap length (rw c.if-is_err.ensures.negation at c.push.ensures.items) ∙ length-append c.loop-candidates.resets.items (c.in-Some.zone ∷ [])) c.in_ok-give_up.ensures.heads c.loop-candidates.invariant.3 c.next_half_clean.ensures.completed,
  c.in_ok-give_up.ensures.few (few-same c.loop-candidates.survey.scanned.items c.loop-candidates.candidates.records c.next_half_clean.new.candidates.records (ap (λ (r : BlockRecords). r.own) c.next_half_clean.ensures.tables.0) c.loop-candidates.invariant.4),
  heads-count _ _ c.in-Some.zone c.in_ok-give_up.ensures.heads ∙ c.loop-candidates.invariant.5,
  inside-more _ c.loop-candidates.survey.scanned.items c.loop-candidates.resets.items c.push.new.self.items c.in-Some.zone c.loop-candidates.invariant.5 (rw c.in-Some.is at c.in_ok-zone.ensures.some) (rw c.if-is_err.ensures.negation at c.push.ensures.items) c.loop-candidates.invariant.6,
)

pub returns-clause-clearing : goal.returns-clause-clearing
returns-clause-clearing g c clean =
    let was = c.next_half_clean.ensures.kept.trusted clean in
    clears-all (g.D.Device.drive c.args.device.now) (g.D.Device.drive c.loop-candidates.device) c.args.survey.now.given c.loop-candidates.survey c.loop-candidates.resets.items (c.loop-candidates.invariant.1 was).clears
    (next-known (g.D.Device.drive c.args.device.now) (g.D.Device.drive c.loop-candidates.device) c.args.survey.now.given c.loop-candidates.survey c.loop-candidates.candidates c.loop-candidates.resets.items None (c.loop-candidates.invariant.1 was) (finds-given (g.D.Device.drive c.loop-candidates.device) c.args.survey.now.given c.loop-candidates.survey.given c.loop-candidates.survey c.loop-candidates.candidates None (c.loop-candidates.invariant.1 was).are.known.given_is (rw c.in_default.is at (c.in_ok-zone.ensures.ok clean))))

pub returns-clause-known : goal.returns-clause-known
returns-clause-known g c clean = knows-kept _ _ _ _ _ c.next_half_clean.ensures.kept (c.loop-candidates.invariant.1 (c.next_half_clean.ensures.kept.trusted clean)).are.known

pub returns-clause-kept : goal.returns-clause-kept
returns-clause-kept g c = keeps-both _ _ _ c.loop-candidates.invariant.0 c.next_half_clean.ensures.kept

pub returns-clause-completed : goal.returns-clause-completed
returns-clause-completed g c =
    searches-once _ (length c.loop-candidates.resets.items) c.loop-candidates.survey.scanned.items (g.D.Device.drive c.args.device.now) (g.D.Device.drive c.loop-candidates.device) (g.D.Device.drive c.next_half_clean.new.device) c.loop-candidates.invariant.3 c.next_half_clean.ensures.completed

pub next_half_clean-requires-clause-zones : goal.next_half_clean-requires-clause-zones
next_half_clean-requires-clause-zones g c = rw c.loop-candidates.invariant.2 (known-kept _ _ c.args.survey.now.zones.items c.loop-candidates.invariant.0 c.requires.zones)

pub next_half_clean-requires-clause-sizes : goal.next_half_clean-requires-clause-sizes
next_half_clean-requires-clause-sizes g c clean = (c.loop-candidates.invariant.1 clean).are.sizes

pub returns-clause-inside : goal.returns-clause-inside
returns-clause-inside g c = rw (← c.requires.scanned) c.loop-candidates.invariant.6
