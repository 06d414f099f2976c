use Rattle.std.proofs.Common.{◌≡◌, ◌∙◌, ◌+◌, ℕ, List, false, true, length, ap, refl, sym, arith}
use Rattle.std.proofs.lemmas.Option.{slice_get_read}
use Rattle.drive_array.specs.ZoneLogs.{drive_logs, log_at}
use Rattle.drive_array.specs.Reserve.{batch_most}
use Rattle.drive_array.proofs.ReserveLaws.{positive-most}
use Rattle.drive_survey.specs.Heads.{HeadsView}
use Rattle.drive_survey.proofs.NextLaws.{if-fault}
use Rattle.drive_survey.proofs.ReadLaws.{kept-known}
use Rattle.remount.specs.declared.repair.moves.MovePlan.{MovePlan}
use Rattle.remount.specs.Moving.{is_last_in, ordered}
use Rattle.drive_survey.specs.Scan.{heads_in}
use Rattle.drive_survey.proofs.HeadLaws.{size-is}
use Rattle.remount.proofs.OrderLaws.{found-heads, scanned-in}
use Rattle.remount.proofs.OrderedLaws.{told-last}
use Rattle.remount.proofs.PlannedLaws.{greatest-fits, last-in, plan-made, safe-plan, size-valid, torn-in}
use Rattle.remount.proofs.repair.order.plan_moves.Goals as goal

pub why_needed-requires : goal.why_needed-requires
why_needed-requires g c = record { zones = c.requires.fits.zones; in_range = omega (arith, c.requires.listed.zone, c.requires.fits.scanned); known = λ clean. (c.requires.cleared clean).known }

pub returns-in_err-why-clause-err : goal.returns-in_err-why-clause-err
returns-in_err-why-clause-err g c = λ clean. if-fault c.from_residual.result c.in_err-why.field-0.0 _ c.from_residual.ensures.1 c.in_err-why.ensures.err

pub returns-then-not-is_last_in-clause-err : goal.returns-then-not-is_last_in-clause-err
returns-then-not-is_last_in-clause-err g c = λ clean.
    let drive = g.D.Device.drive c.args.device.now in
    let was = c.why_needed.ensures.kept.trusted clean in
    let told = told-last c.args.repair.now.blocks.items c.in_ok-why.why (last-in drive c.args.survey.now.given c.args.survey.now c.args.repair.now c.in_ok-why.why (c.requires.cleared was).known (c.requires.plan was) (c.in_ok-why.ensures.ok clean)) in
    absurd (let bad : true ≡ false = sym told ∙ ap (λ (bs : List ℕ). is_last_in bs c.in_ok-why.why) (sym c.deref.ensures.value) ∙ sym c.is_last_in.ensures ∙ c.if-not-is_last_in.true in cc)

pub returns-then-not-is_size-clause-err : goal.returns-then-not-is_size-clause-err
returns-then-not-is_size-clause-err g c = λ clean.
    let was = c.why_needed.ensures.kept.trusted clean in
    let drive = g.D.Device.drive c.args.device.now in
    let survey = c.args.survey.now in
    let repair = c.args.repair.now in
    let known = (c.requires.cleared was).known in
    let lt = torn-in drive survey.given survey repair known (c.requires.plan was) in
    let heads = found-heads survey.scanned.items (drive_logs drive) repair.zone c.index.result.now known.heads (scanned-in drive survey.given (drive_logs drive) survey repair.zone known lt) c.index.ensures in
    let size-at = c.size-size.ensures ∙ ap (λ (h : HeadsView). h.size) heads ∙ size-is (log_at (drive_logs drive) repair.zone) in
    let valid = c.is_size.ensures.no (rw size-at (size-valid drive survey.given survey repair.zone known lt)) in
    absurd (let bad : true ≡ false = sym valid ∙ c.if-not-is_size.true in cc)

pub count-count-requires : goal.count-count-requires
count-count-requires g c = omega (arith, c.batch_most-most.ensures.most, ap batch_most (c.geometry.ensures.value ∙ c.why_needed.ensures.kept.geometry), positive-most (g.D.Device.drive c.args.device.now).geometry c.requires.fits.zones.geometry)

pub returns-then-not-lasts-clause-err : goal.returns-then-not-lasts-clause-err
returns-then-not-lasts-clause-err g c = λ clean.
    let was = c.why_needed.ensures.kept.trusted clean in
    let drive = g.D.Device.drive c.args.device.now in
    let survey = c.args.survey.now in
    let repair = c.args.repair.now in
    let known = (c.requires.cleared was).known in
    let lt = torn-in drive survey.given survey repair known (c.requires.plan was) in
    let heads = found-heads survey.scanned.items (drive_logs drive) repair.zone c.index.result.now known.heads (scanned-in drive survey.given (drive_logs drive) survey repair.zone known lt) c.index.ensures in
    let size-at = c.size-size.ensures ∙ ap (λ (h : HeadsView). h.size) heads ∙ size-is (log_at (drive_logs drive) repair.zone) in
    let there = slice_get_read survey.zones.items (length survey.zones.items) repair.zone c.index-2.result.now refl c.requires.listed.zone c.index-2.ensures in
    let sum = c.greatest_sequence.ensures (drive_logs drive) (ap heads_in c.deref-3.ensures.value ∙ known.heads) in
    let next : c.saturating_add-next.result ≡ c.greatest_sequence.result + 1 = c.saturating_add-next.ensures ∙ omega (arith, greatest-fits drive survey.given survey c.greatest_sequence.result known sum) in
    let plan : MovePlan = record { torn = repair.zone; reported = c.index-2.result.now; into = c.args.into; blocks = c.in_ok-order.order; most = c.batch_most-most.result; next = c.saturating_add-next.result; early = c.early_size-early.result; size = c.size-size.result } in
    let made = plan-made drive survey.given survey repair c.args.into c.in_ok-why.why plan (record {
      survey_known = known;
      cleared = (c.requires.cleared was).none;
      is = c.requires.plan was;
      finds = c.in_ok-why.ensures.ok clean;
      torn = refl;
      into_is = refl;
      known = known.zones.each repair.zone c.index-2.result.now there;
      blocks = c.in_ok-order.ensures ∙ ap (λ (blocks : List ℕ). ordered blocks c.in_ok-why.why) c.deref-2.ensures.value;
      most = c.batch_most-most.ensures.most ∙ ap batch_most (c.geometry.ensures.value ∙ c.why_needed.ensures.kept.geometry);
      next = next ∙ ap (λ (k : ℕ). k + 1) sum;
      size = size-at;
      early = c.early_size-early.ensures;
    }) in
    let enough = c.lasts.ensures.no (omega (arith, made.can.last, c.count-count.ensures)) in
    absurd (let bad : true ≡ false = sym enough ∙ c.if-not-lasts.true in cc)

pub returns-clause-ok : goal.returns-clause-ok
returns-clause-ok g c = λ clean.
    let was = c.why_needed.ensures.kept.trusted clean in
    let drive = g.D.Device.drive c.args.device.now in
    let survey = c.args.survey.now in
    let repair = c.args.repair.now in
    let known = (c.requires.cleared was).known in
    let lt = torn-in drive survey.given survey repair known (c.requires.plan was) in
    let heads = found-heads survey.scanned.items (drive_logs drive) repair.zone c.index.result.now known.heads (scanned-in drive survey.given (drive_logs drive) survey repair.zone known lt) c.index.ensures in
    let size-at = c.size-size.ensures ∙ ap (λ (h : HeadsView). h.size) heads ∙ size-is (log_at (drive_logs drive) repair.zone) in
    let there = slice_get_read survey.zones.items (length survey.zones.items) repair.zone c.index-2.result.now refl c.requires.listed.zone c.index-2.ensures in
    let sum = c.greatest_sequence.ensures (drive_logs drive) (ap heads_in c.deref-3.ensures.value ∙ known.heads) in
    let next : c.saturating_add-next.result ≡ c.greatest_sequence.result + 1 = c.saturating_add-next.ensures ∙ omega (arith, greatest-fits drive survey.given survey c.greatest_sequence.result known sum) in
    let plan : MovePlan = record { torn = repair.zone; reported = c.index-2.result.now; into = c.args.into; blocks = c.in_ok-order.order; most = c.batch_most-most.result; next = c.saturating_add-next.result; early = c.early_size-early.result; size = c.size-size.result } in
    let made = plan-made drive survey.given survey repair c.args.into c.in_ok-why.why plan (record {
      survey_known = known;
      cleared = (c.requires.cleared was).none;
      is = c.requires.plan was;
      finds = c.in_ok-why.ensures.ok clean;
      torn = refl;
      into_is = refl;
      known = known.zones.each repair.zone c.index-2.result.now there;
      blocks = c.in_ok-order.ensures ∙ ap (λ (blocks : List ℕ). ordered blocks c.in_ok-why.why) c.deref-2.ensures.value;
      most = c.batch_most-most.ensures.most ∙ ap batch_most (c.geometry.ensures.value ∙ c.why_needed.ensures.kept.geometry);
      next = next ∙ ap (λ (k : ℕ). k + 1) sum;
      size = size-at;
      early = c.early_size-early.ensures;
    }) in
    made

pub returns-clause-safe : goal.returns-clause-safe
returns-clause-safe g c =
    let drive = g.D.Device.drive c.args.device.now in
    let fits = c.requires.fits in
    let geometry = c.why_needed.ensures.kept.geometry in
    let told : is_last_in c.args.repair.now.blocks.items c.in_ok-why.why ≡ true = ap (λ (bs : List ℕ). is_last_in bs c.in_ok-why.why) (sym c.deref.ensures.value) ∙ sym c.is_last_in.ensures ∙ c.if-not-is_last_in.false in
    safe-plan drive.geometry (length c.args.survey.now.zones.items) c.args.repair.now c.in_ok-why.why _ fits.zones.geometry c.requires.listed (omega (arith, fits.zones.count, fits.zones.lawful.count)) told refl
    (c.in_ok-order.ensures ∙ ap (λ (blocks : List ℕ). ordered blocks c.in_ok-why.why) c.deref-2.ensures.value) (c.batch_most-most.ensures.most ∙ ap batch_most (c.geometry.ensures.value ∙ geometry))
    (omega (arith, c.lasts.ensures.yes c.if-not-lasts.false, c.count-count.ensures)) (c.is_size.ensures.yes c.if-not-is_size.false) c.early_size-early.ensures

pub returns-clause-torn : goal.returns-clause-torn
returns-clause-torn g c = (refl, refl)

pub returns-clause-known : goal.returns-clause-known
returns-clause-known g c =
    let survey = c.args.survey.now in
    let zone = c.args.repair.now.zone in
    let there = slice_get_read survey.zones.items (length survey.zones.items) zone c.index-2.result.now refl c.requires.listed.zone c.index-2.ensures in
    kept-known _ _ zone c.index-2.result.now c.why_needed.ensures.kept (c.requires.fits.zones.each zone c.index-2.result.now there)
