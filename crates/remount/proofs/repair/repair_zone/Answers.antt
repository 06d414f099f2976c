use Rattle.std.proofs.Common.{◌≡◌, ◌≢◌, ◌<◌, ℕ, List, Some, sym, ap, subst, ◌∙◌}
use Rattle.std.specs.Prelude.{slice_get}
use Rattle.nvme_wire.specs.declared.zone_state.ZoneState.TheVariants as states
use Rattle.zone_states.specs.declared.geometry.Geometry.{Geometry}
use Rattle.drive_port.specs.Contents.{contents}
use Rattle.drive_array.specs.ZoneLogs.{drive_logs, zone_tails}
use Rattle.drive_survey.specs.declared.reported.ReportedZone.{ReportedZone}
use Rattle.remount.specs.Mount.{IsOnlyTorn}
use Rattle.remount.specs.Moving.{move_count, moves_before, source_of}
use Rattle.remount.proofs.BesideLaws.{beside-into, beside-repaired}
use Rattle.remount.proofs.NotedLaws.{filled-notes}
use Rattle.remount.proofs.BeginLaws.{has-empty, heads-some, is-finished, is-prepared, is-started, repaired-vacant, repaired-whole}
use Rattle.remount.proofs.CallLaws.{mountable-both, shut-both, shut-logs, shut-mountable, zones-shut}
use Rattle.remount.proofs.TornRepairLaws.{repaired-since, torn-repaired}
use Rattle.remount.proofs.StepLaws.{cleared-own, plan-given}
use Rattle.std.proofs.Common.{arith, length}
use Rattle.drive_survey.proofs.NextLaws.{if-fault}
use Rattle.remount.proofs.EmptyLaws.{looks-stay, stays-both}
use Rattle.remount.proofs.CallLaws.{shut-stays}
use Rattle.remount.proofs.repair.repair_zone.Goals as goal

pub returns-in_default-clause-err : goal.returns-in_default-clause-err
returns-in_default-clause-err g c = λ clean.
    let w0 = c.finish_beside.ensures.stays.trusted clean in
    let finished = is-finished _ _ c.args.survey.now _ c.args.repair.now (c.requires.cleared w0) (c.requires.plan w0) (c.finish_beside.ensures.kept clean) (c.in_ok-finish_beside.ensures.left clean) (c.in_ok-finish_beside.ensures.cleared clean) in
    absurd (has-empty _ _ c.finish_beside.new.survey finished.mountable finished.none_left finished.known finished.vacant (subst (λ (zs : List ReportedZone). (zone : ℕ) (r : ReportedZone) → slice_get zs zone ≡ Some r → r.state ≢ states.Empty) c.deref.ensures.value c.in_default.ensures.none))

pub plan_moves-requires : goal.plan_moves-requires
plan_moves-requires g c =
    let still = c.in_ok-finish_beside.ensures.fits in
    record {
      fits = still.fits;
      listed = rw still.count c.requires.listed;
      cleared = λ clean. cleared-own (g.D.Device.drive c.finish_beside.new.device) c.args.survey.now.given c.finish_beside.new.survey (c.in_ok-finish_beside.ensures.cleared clean);
      plan = λ clean.
          let n = c.args.survey.now.given in
          let old = g.D.Device.drive c.args.device.now in
          let one = g.D.Device.drive c.finish_beside.new.device in
          let cleared = c.in_ok-finish_beside.ensures.cleared clean in
          let left = c.in_ok-finish_beside.ensures.left clean in
          plan-given old one n c.finish_beside.new.survey.given c.args.repair.now cleared.known.given_is c.finish_beside.ensures.stays.geometry left.logs left.tails (c.requires.plan (c.finish_beside.ensures.stays.trusted clean));
    }

pub returns-in_err-plan-clause-err : goal.returns-in_err-plan-clause-err
returns-in_err-plan-clause-err g c = λ clean. if-fault c.from_residual-in_err-plan.result c.in_err-plan.field-0.0 _ c.from_residual-in_err-plan.ensures.1 (c.in_err-plan.ensures.err clean)

pub returns-in_err-plan-clause-kept : goal.returns-in_err-plan-clause-kept
returns-in_err-plan-clause-kept g c = λ clean.
    mountable-both _ _ _ _ (c.finish_beside.ensures.kept (c.plan_moves.ensures.kept.trusted clean)) (shut-mountable _ _ _ (zones-shut _ _ c.plan_moves.ensures.kept))

pub returns-in_err-plan-clause-stays : goal.returns-in_err-plan-clause-stays
returns-in_err-plan-clause-stays g c = stays-both _ _ _ c.finish_beside.ensures.stays (looks-stay _ _ c.plan_moves.ensures.kept)

pub close_alone-requires : goal.close_alone-requires
close_alone-requires g c = record { known = c.in_ok-plan.ensures.known }

pub returns-in_err-close_alone-clause-err : goal.returns-in_err-close_alone-clause-err
returns-in_err-close_alone-clause-err g c = λ clean. if-fault c.from_residual-in_err-close_alone.result c.in_err-close_alone.field-0.0 _ c.from_residual-in_err-close_alone.ensures.1 (c.in_err-close_alone.ensures.err)

pub returns-in_err-close_alone-clause-kept : goal.returns-in_err-close_alone-clause-kept
returns-in_err-close_alone-clause-kept g c = λ clean.
    let w2 = c.close_alone.ensures.kept.trusted clean in
    let w1 = c.plan_moves.ensures.kept.trusted w2 in
    let w0 = c.finish_beside.ensures.stays.trusted w1 in
    mountable-both _ _ _ _ (c.finish_beside.ensures.kept w1) (shut-mountable _ _ _ (shut-both _ _ _ (zones-shut _ _ c.plan_moves.ensures.kept) c.close_alone.ensures.kept))

pub returns-in_err-close_alone-clause-stays : goal.returns-in_err-close_alone-clause-stays
returns-in_err-close_alone-clause-stays g c = (stays-both _ _ _ c.finish_beside.ensures.stays (shut-stays _ _ (shut-both _ _ _ (zones-shut _ _ c.plan_moves.ensures.kept) c.close_alone.ensures.kept)))

pub make_moves-requires : goal.make_moves-requires
make_moves-requires g c = record {
  safe = rw (c.close_alone.ensures.kept.geometry, c.plan_moves.ensures.kept.geometry) c.in_ok-plan.ensures.safe;
  at = λ clean.
      let w2 = c.close_alone.ensures.kept.trusted clean in
      let w1 = c.plan_moves.ensures.kept.trusted w2 in
      let w0 = c.finish_beside.ensures.stays.trusted w1 in
      let finished = is-finished _ _ c.args.survey.now _ c.args.repair.now (c.requires.cleared w0) (c.requires.plan w0) (c.finish_beside.ensures.kept w1) (c.in_ok-finish_beside.ensures.left w1) (c.in_ok-finish_beside.ensures.cleared w1) in
      let prepared = is-prepared _ _ _ _ c.in-Some.into c.deref.result.now finished c.deref.ensures.value c.in-Some.ensures.some in
      let started = is-started _ _ _ _ _ c.args.repair.now _ c.in_ok-plan.plan prepared c.plan_moves.ensures.kept (c.in_ok-plan.ensures.ok w2) c.close_alone.ensures.kept c.in_ok-close_alone.ensures.shut in
      (c.args.survey.now.given, started.at);
}

pub returns-in_err-heads-clause-err : goal.returns-in_err-heads-clause-err
returns-in_err-heads-clause-err g c = λ clean.
    let w3 = c.make_moves.ensures.stays.trusted clean in
    let w2 = c.close_alone.ensures.kept.trusted w3 in
    let w1 = c.plan_moves.ensures.kept.trusted w2 in
    let w0 = c.finish_beside.ensures.stays.trusted w1 in
    let finished = is-finished _ _ c.args.survey.now _ c.args.repair.now (c.requires.cleared w0) (c.requires.plan w0) (c.finish_beside.ensures.kept w1) (c.in_ok-finish_beside.ensures.left w1) (c.in_ok-finish_beside.ensures.cleared w1) in
    let prepared = is-prepared _ _ _ _ c.in-Some.into c.deref.result.now finished c.deref.ensures.value c.in-Some.ensures.some in
    let started = is-started _ _ _ _ _ c.args.repair.now _ c.in_ok-plan.plan prepared c.plan_moves.ensures.kept (c.in_ok-plan.ensures.ok w2) c.close_alone.ensures.kept c.in_ok-close_alone.ensures.shut in
    if-fault c.from_residual-in_err-heads.result c.in_err-heads.field-0.0 _ c.from_residual-in_err-heads.ensures.1 (c.in_err-heads.ensures.err _ clean started.at)

pub returns-in_err-heads-clause-kept : goal.returns-in_err-heads-clause-kept
returns-in_err-heads-clause-kept g c = λ clean.
    let w3 = c.make_moves.ensures.stays.trusted clean in
    let w2 = c.close_alone.ensures.kept.trusted w3 in
    let w1 = c.plan_moves.ensures.kept.trusted w2 in
    let w0 = c.finish_beside.ensures.stays.trusted w1 in
    let finished = is-finished _ _ c.args.survey.now _ c.args.repair.now (c.requires.cleared w0) (c.requires.plan w0) (c.finish_beside.ensures.kept w1) (c.in_ok-finish_beside.ensures.left w1) (c.in_ok-finish_beside.ensures.cleared w1) in
    let prepared = is-prepared _ _ _ _ c.in-Some.into c.deref.result.now finished c.deref.ensures.value c.in-Some.ensures.some in
    let started = is-started _ _ _ _ _ c.args.repair.now _ c.in_ok-plan.plan prepared c.plan_moves.ensures.kept (c.in_ok-plan.ensures.ok w2) c.close_alone.ensures.kept c.in_ok-close_alone.ensures.shut in
    mountable-both _ _ _ _ (c.finish_beside.ensures.kept w1) (mountable-both _ _ _ _ started.kept (c.make_moves.ensures.kept _ clean started.at))

pub returns-in_err-heads-clause-stays : goal.returns-in_err-heads-clause-stays
returns-in_err-heads-clause-stays g c = stays-both _ _ _ (stays-both _ _ _ c.finish_beside.ensures.stays (shut-stays _ _ (shut-both _ _ _ (zones-shut _ _ c.plan_moves.ensures.kept) c.close_alone.ensures.kept))) c.make_moves.ensures.stays

pub empty_torn-requires : goal.empty_torn-requires
empty_torn-requires g c = record {
  done = λ clean.
      let w3 = c.make_moves.ensures.stays.trusted clean in
      let w2 = c.close_alone.ensures.kept.trusted w3 in
      let w1 = c.plan_moves.ensures.kept.trusted w2 in
      let w0 = c.finish_beside.ensures.stays.trusted w1 in
      let finished = is-finished _ _ c.args.survey.now _ c.args.repair.now (c.requires.cleared w0) (c.requires.plan w0) (c.finish_beside.ensures.kept w1) (c.in_ok-finish_beside.ensures.left w1) (c.in_ok-finish_beside.ensures.cleared w1) in
      let prepared = is-prepared _ _ _ _ c.in-Some.into c.deref.result.now finished c.deref.ensures.value c.in-Some.ensures.some in
      let started = is-started _ _ _ _ _ c.args.repair.now _ c.in_ok-plan.plan prepared c.plan_moves.ensures.kept (c.in_ok-plan.ensures.ok w2) c.close_alone.ensures.kept c.in_ok-close_alone.ensures.shut in
      let at = c.in_ok-heads.ensures.ok _ clean started.at in
      (c.args.survey.now.given, g.D.Device.drive c.close_alone.new.device, c.args.repair.now.tables, c.in_ok-heads.heads, at);
}

pub returns-in_err-empty_torn-clause-err : goal.returns-in_err-empty_torn-clause-err
returns-in_err-empty_torn-clause-err g c = λ clean. if-fault c.from_residual-in_err-empty_torn.result c.in_err-empty_torn.field-0.0 _ c.from_residual-in_err-empty_torn.ensures.1 (c.in_err-empty_torn.ensures.err clean)

pub returns-in_err-empty_torn-clause-kept : goal.returns-in_err-empty_torn-clause-kept
returns-in_err-empty_torn-clause-kept g c = λ clean.
    let w4 = c.empty_torn.ensures.stays.trusted clean in
    let w3 = c.make_moves.ensures.stays.trusted w4 in
    let w2 = c.close_alone.ensures.kept.trusted w3 in
    let w1 = c.plan_moves.ensures.kept.trusted w2 in
    let w0 = c.finish_beside.ensures.stays.trusted w1 in
    let finished = is-finished _ _ c.args.survey.now _ c.args.repair.now (c.requires.cleared w0) (c.requires.plan w0) (c.finish_beside.ensures.kept w1) (c.in_ok-finish_beside.ensures.left w1) (c.in_ok-finish_beside.ensures.cleared w1) in
    let prepared = is-prepared _ _ _ _ c.in-Some.into c.deref.result.now finished c.deref.ensures.value c.in-Some.ensures.some in
    let started = is-started _ _ _ _ _ c.args.repair.now _ c.in_ok-plan.plan prepared c.plan_moves.ensures.kept (c.in_ok-plan.ensures.ok w2) c.close_alone.ensures.kept c.in_ok-close_alone.ensures.shut in
    let at = c.in_ok-heads.ensures.ok _ w4 started.at in
    mountable-both _ _ _ _ (c.finish_beside.ensures.kept w1) (mountable-both _ _ _ _ started.kept (c.empty_torn.ensures.kept _ _ _ _ clean at))

pub returns-in_err-empty_torn-clause-stays : goal.returns-in_err-empty_torn-clause-stays
returns-in_err-empty_torn-clause-stays g c = stays-both _ _ _ (stays-both _ _ _ (stays-both _ _ _ c.finish_beside.ensures.stays (shut-stays _ _ (shut-both _ _ _ (zones-shut _ _ c.plan_moves.ensures.kept) c.close_alone.ensures.kept))) c.make_moves.ensures.stays) c.empty_torn.ensures.stays

pub note_repair-requires : goal.note_repair-requires
note_repair-requires g c =
    let still = c.in_ok-finish_beside.ensures.fits in
    let torn = c.in_ok-plan.ensures.torn in
    let into : c.in-Some.into < length c.finish_beside.new.survey.zones.items = omega (arith, c.in-Some.ensures.some.0, ap length c.deref.ensures.value) in
    record {
      torn = omega (arith, torn.0, c.requires.listed.zone, still.count);
      into = omega (arith, torn.1, into);
      count = still.fits.scanned;
    }

pub returns-clause-untorn : goal.returns-clause-untorn
returns-clause-untorn g c = λ clean.
    let w4 = c.empty_torn.ensures.stays.trusted clean in
    let w3 = c.make_moves.ensures.stays.trusted w4 in
    let w2 = c.close_alone.ensures.kept.trusted w3 in
    let w1 = c.plan_moves.ensures.kept.trusted w2 in
    let w0 = c.finish_beside.ensures.stays.trusted w1 in
    let finished = is-finished _ _ c.args.survey.now _ c.args.repair.now (c.requires.cleared w0) (c.requires.plan w0) (c.finish_beside.ensures.kept w1) (c.in_ok-finish_beside.ensures.left w1) (c.in_ok-finish_beside.ensures.cleared w1) in
    let prepared = is-prepared _ _ _ _ c.in-Some.into c.deref.result.now finished c.deref.ensures.value c.in-Some.ensures.some in
    let started = is-started _ _ _ _ _ c.args.repair.now _ c.in_ok-plan.plan prepared c.plan_moves.ensures.kept (c.in_ok-plan.ensures.ok w2) c.close_alone.ensures.kept c.in_ok-close_alone.ensures.shut in
    let at = c.in_ok-heads.ensures.ok _ w4 started.at in
    let start = g.D.Device.drive c.close_alone.new.device in
    let new = g.D.Device.drive c.empty_torn.new.device in
    let plan = c.in_ok-plan.plan in
    let made = moves_before (source_of start c.args.repair.now.tables plan.torn) plan (move_count plan) in
    let e = c.in_ok-empty_torn.ensures.ok _ start c.args.repair.now.tables c.in_ok-heads.heads clean at in
    let kept = mountable-both _ _ _ _ (c.finish_beside.ensures.kept w1) (mountable-both _ _ _ _ started.kept (c.empty_torn.ensures.kept _ _ _ _ clean at)) in
    let n = c.args.survey.now.given in
    record {
      known = c.note_repair.ensures.known n start new made (heads-some _ _ _ c.args.repair.now.tables plan c.in_ok-heads.heads at) (ap (λ (x : Geometry). x.capacity) (sym e.geometry) ∙ ap (λ (x : Geometry). x.capacity) (sym c.geometry.ensures.value)) at.heads_are started.prepared.known e;
      mountable = kept.mountable (c.requires.cleared w0).mountable;
      empty = c.note_repair.ensures.vacant n start new made started.prepared.known started.prepared.vacant e;
      whole = repaired-whole n start new c.finish_beside.new.survey plan made e started.prepared.known started.prepared.vacant (subst (λ (t : ℕ). IsOnlyTorn (drive_logs start) (zone_tails (contents start.zones)) t) (sym started.torn) started.prepared.only);
      spare = repaired-vacant n start new plan made e at.known.in_range;
    }

pub returns-clause-repaired : goal.returns-clause-repaired
returns-clause-repaired g c = λ clean.
    let w4 = c.empty_torn.ensures.stays.trusted clean in
    let w3 = c.make_moves.ensures.stays.trusted w4 in
    let w2 = c.close_alone.ensures.kept.trusted w3 in
    let w1 = c.plan_moves.ensures.kept.trusted w2 in
    let w0 = c.finish_beside.ensures.stays.trusted w1 in
    let finished = is-finished _ _ c.args.survey.now _ c.args.repair.now (c.requires.cleared w0) (c.requires.plan w0) (c.finish_beside.ensures.kept w1) (c.in_ok-finish_beside.ensures.left w1) (c.in_ok-finish_beside.ensures.cleared w1) in
    let prepared = is-prepared _ _ _ _ c.in-Some.into c.deref.result.now finished c.deref.ensures.value c.in-Some.ensures.some in
    let started = is-started _ _ _ _ _ c.args.repair.now _ c.in_ok-plan.plan prepared c.plan_moves.ensures.kept (c.in_ok-plan.ensures.ok w2) c.close_alone.ensures.kept c.in_ok-close_alone.ensures.shut in
    let at = c.in_ok-heads.ensures.ok _ w4 started.at in
    let e = c.in_ok-empty_torn.ensures.ok _ _ c.args.repair.now.tables c.in_ok-heads.heads clean at in
    let k = shut-both _ _ _ (zones-shut _ _ c.plan_moves.ensures.kept) c.close_alone.ensures.kept in
    let done = torn-repaired _ _ _ c.finish_beside.new.survey _ c.in_ok-plan.plan _ _ started.prepared started.torn ((c.in_ok-plan.ensures.ok w2).into_is) (subst (λ (zs : List ReportedZone). (other : ℕ) (r : ReportedZone) → other < c.in-Some.into → slice_get zs other ≡ Some r → r.state ≢ states.Empty) c.deref.ensures.value c.in-Some.ensures.lowest) at.can e in
    repaired-since _ c.args.repair.now.zone _ _ _ _ _ (k.geometry ∙ c.finish_beside.ensures.stays.geometry) (shut-logs _ _ k ∙ (c.in_ok-finish_beside.ensures.left w1).logs) done

pub returns-clause-beside : goal.returns-clause-beside
returns-clause-beside g c = λ clean.
    let w4 = c.empty_torn.ensures.stays.trusted clean in
    let w3 = c.make_moves.ensures.stays.trusted w4 in
    let w2 = c.close_alone.ensures.kept.trusted w3 in
    let w1 = c.plan_moves.ensures.kept.trusted w2 in
    let w0 = c.finish_beside.ensures.stays.trusted w1 in
    let finished = is-finished _ _ c.args.survey.now _ c.args.repair.now (c.requires.cleared w0) (c.requires.plan w0) (c.finish_beside.ensures.kept w1) (c.in_ok-finish_beside.ensures.left w1) (c.in_ok-finish_beside.ensures.cleared w1) in
    let prepared = is-prepared _ _ _ _ c.in-Some.into c.deref.result.now finished c.deref.ensures.value c.in-Some.ensures.some in
    let started = is-started _ _ _ _ _ c.args.repair.now _ c.in_ok-plan.plan prepared c.plan_moves.ensures.kept (c.in_ok-plan.ensures.ok w2) c.close_alone.ensures.kept c.in_ok-close_alone.ensures.shut in
    let at = c.in_ok-heads.ensures.ok _ w4 started.at in
    beside-repaired _ _ _ _ _ c.finish_beside.new.survey _ c.in_ok-plan.plan _ _ started.prepared started.torn ((c.in_ok-plan.ensures.ok w2).into_is) (c.finish_beside.ensures.kept w1) (c.in_ok-finish_beside.ensures.left w1)
    (shut-both _ _ _ (zones-shut _ _ c.plan_moves.ensures.kept) c.close_alone.ensures.kept) at.can (c.in_ok-empty_torn.ensures.ok _ _ _ _ clean at)

pub returns-clause-noted : goal.returns-clause-noted
returns-clause-noted g c = λ clean.
    let w4 = c.empty_torn.ensures.stays.trusted clean in
    let w3 = c.make_moves.ensures.stays.trusted w4 in
    let w2 = c.close_alone.ensures.kept.trusted w3 in
    let w1 = c.plan_moves.ensures.kept.trusted w2 in
    let w0 = c.finish_beside.ensures.stays.trusted w1 in
    let finished = is-finished _ _ c.args.survey.now _ c.args.repair.now (c.requires.cleared w0) (c.requires.plan w0) (c.finish_beside.ensures.kept w1) (c.in_ok-finish_beside.ensures.left w1) (c.in_ok-finish_beside.ensures.cleared w1) in
    let prepared = is-prepared _ _ _ _ c.in-Some.into c.deref.result.now finished c.deref.ensures.value c.in-Some.ensures.some in
    let started = is-started _ _ _ _ _ c.args.repair.now _ c.in_ok-plan.plan prepared c.plan_moves.ensures.kept (c.in_ok-plan.ensures.ok w2) c.close_alone.ensures.kept c.in_ok-close_alone.ensures.shut in
    let at = c.in_ok-heads.ensures.ok _ w4 started.at in
    let both = beside-into _ _ _ _ _ c.finish_beside.new.survey _ c.in_ok-plan.plan _ _ started.prepared started.torn ((c.in_ok-plan.ensures.ok w2).into_is) (c.finish_beside.ensures.kept w1) (c.in_ok-finish_beside.ensures.left w1)
    (shut-both _ _ _ (zones-shut _ _ c.plan_moves.ensures.kept) c.close_alone.ensures.kept) at.can (c.in_ok-empty_torn.ensures.ok _ _ _ _ clean at) in
    filled-notes (g.D.Device.drive c.args.device.now) (g.D.Device.drive c.empty_torn.new.device) c.args.survey.now.zones.items c.finish_beside.new.survey.zones.items c.note_repair.new.survey.zones.items both.0.into c.in_ok-plan.plan.into c.in_ok-finish_beside.ensures.noted c.note_repair.ensures.noted both.1 both.0.vacant both.0.some

pub returns-clause-kept : goal.returns-clause-kept
returns-clause-kept g c = λ clean.
    let w4 = c.empty_torn.ensures.stays.trusted clean in
    let w3 = c.make_moves.ensures.stays.trusted w4 in
    let w2 = c.close_alone.ensures.kept.trusted w3 in
    let w1 = c.plan_moves.ensures.kept.trusted w2 in
    let w0 = c.finish_beside.ensures.stays.trusted w1 in
    let finished = is-finished _ _ c.args.survey.now _ c.args.repair.now (c.requires.cleared w0) (c.requires.plan w0) (c.finish_beside.ensures.kept w1) (c.in_ok-finish_beside.ensures.left w1) (c.in_ok-finish_beside.ensures.cleared w1) in
    let prepared = is-prepared _ _ _ _ c.in-Some.into c.deref.result.now finished c.deref.ensures.value c.in-Some.ensures.some in
    let started = is-started _ _ _ _ _ c.args.repair.now _ c.in_ok-plan.plan prepared c.plan_moves.ensures.kept (c.in_ok-plan.ensures.ok w2) c.close_alone.ensures.kept c.in_ok-close_alone.ensures.shut in
    let at = c.in_ok-heads.ensures.ok _ w4 started.at in
    mountable-both _ _ _ _ (c.finish_beside.ensures.kept w1) (mountable-both _ _ _ _ started.kept (c.empty_torn.ensures.kept _ _ _ _ clean at))

pub returns-clause-count : goal.returns-clause-count
returns-clause-count g c = (c.note_repair.ensures.kept.1 ∙ c.in_ok-finish_beside.ensures.fits.fits.scanned ∙ sym c.note_repair.ensures.kept.0, c.note_repair.ensures.kept.0 ∙ c.in_ok-finish_beside.ensures.fits.count)

pub returns-clause-stays : goal.returns-clause-stays
returns-clause-stays g c = stays-both _ _ _ (stays-both _ _ _ (stays-both _ _ _ c.finish_beside.ensures.stays (shut-stays _ _ (shut-both _ _ _ (zones-shut _ _ c.plan_moves.ensures.kept) c.close_alone.ensures.kept))) c.make_moves.ensures.stays) c.empty_torn.ensures.stays
