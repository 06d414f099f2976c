use Rattle.std.proofs.Common.{◌≡◌, length, List, ℕ, ◌+◌, ◌-◌, ◌<◌, ◌≤◌, ◌^◌, min, inl, inr, refl, sym, ap, subst, ◌∙◌, arith}
use Rattle.std.specs.List.{AllByRecursion}
use Rattle.zone_states.specs.declared.geometry.Geometry.{Geometry}
use Rattle.drive_port.specs.Contents.{contents}
use Rattle.drive_array.specs.ZoneLogs.{drive_logs, sequences}
use Rattle.std.specs.Prelude.{Vec}
use Rattle.std.specs.declared.alloc.Global.{Global}
use Rattle.drive_survey.specs.declared.reported.ReportedZone.{ReportedZone}
use Rattle.drive_survey.specs.declared.scan.ScannedZone.{ScannedZone}
use Rattle.drive_survey.specs.Heads.{greatest_sequence, sequences_in}
use Rattle.remount.specs.Mount.{AreMountedRoles, IsPlanned, IsRepaired, LeavesCleared, PlanFails}
use Rattle.drive_survey.specs.Scan.{FailsBy, heads_in}
use Rattle.drive_survey.specs.Survey.{CanScan}
use Rattle.drive_survey.specs.declared.fault.MountFault.TheVariants as faults
use Rattle.drive_survey.proofs.ReadLaws.{keeps-both}
use Rattle.drive_survey.proofs.NextLaws.{if-fault}
use Rattle.remount.proofs.BesideLaws.{needed-since}
use Rattle.remount.proofs.EmptyLaws.{looks-stay, stays-both}
use Rattle.remount.proofs.KeepLaws.{keeps-mountable-both}
use Rattle.remount.specs.Kept.{AreShort, AreSane}
use Rattle.remount.proofs.NotedLaws.{known-short, open-mounted}
use Rattle.remount.proofs.StepLaws.{can-kept, carry-kept, carry-refused, closing-keeps, keeps-given, known-own, mounts, next-is, plan-refused, planned-own, repairs, survey-knows, to-mount}
use Rattle.remount.proofs.mounting.mount.Goals as goal

pub returns-in_err-survey-clause-kept : goal.returns-in_err-survey-clause-kept
returns-in_err-survey-clause-kept g c clean = closing-keeps _ _ c.args.given c.survey_drive.ensures.kept

pub plan_mount-requires-clause-known : goal.plan_mount-requires-clause-known
plan_mount-requires-clause-known g c clean =
    let middle = g.D.Device.drive c.survey_drive.new.device in
    known-own middle c.args.given (drive_logs middle) c.in_ok-survey.survey (survey-knows _ _ c.args.given c.in_ok-survey.survey c.survey_drive.ensures.kept (c.in_ok-survey.ensures.ok clean))

pub plan_mount-requires-clause-can : goal.plan_mount-requires-clause-can
plan_mount-requires-clause-can g c =
    subst (λ (k : ℕ). CanScan (g.D.Device.drive c.survey_drive.new.device) k) (sym c.in_ok-survey.ensures.reported.given_is) (can-kept _ _ c.args.given c.survey_drive.ensures.kept c.in_ok-survey.ensures.reported.can)

pub carry_out-requires : goal.carry_out-requires
carry_out-requires g c = record {
  fits = c.in_ok-plan.ensures.fits;
  vacant = rw (ap (λ (zs : Vec ReportedZone Global). length zs.items) c.in_ok-plan.ensures.zones) c.in_ok-plan.ensures.inside.0;
  half_clean = rw (ap (λ (zs : Vec ReportedZone Global). length zs.items) c.in_ok-plan.ensures.zones) c.in_ok-plan.ensures.inside.1;
  listed = c.in_ok-plan.ensures.listed;
  planned = λ clean. planned-own (g.D.Device.drive c.plan_mount.new.device) c.in_ok-survey.survey.given c.plan_mount.new.survey c.in_ok-plan.plan (c.in_ok-plan.ensures.ok clean);
}

pub returns-in_err-plan-clause-err : goal.returns-in_err-plan-clause-err
returns-in_err-plan-clause-err g c clean =
    if-fault c.from_residual-in_err-plan.result c.in_err-plan.field-0.0 _ c.from_residual-in_err-plan.ensures.1
    (plan-refused (g.D.Device.drive c.args.device.now) (g.D.Device.drive c.survey_drive.new.device) (g.D.Device.drive c.plan_mount.new.device) c.args.given c.in_ok-survey.survey c.in_err-plan.field-0.0 c.survey_drive.ensures.kept (c.in_ok-survey.ensures.ok (c.plan_mount.ensures.kept.trusted clean))
    (subst (λ (k : ℕ). FailsBy (PlanFails (g.D.Device.drive c.survey_drive.new.device) k) (g.D.Device.drive c.plan_mount.new.device) c.in_err-plan.field-0.0) (c.in_ok-survey.ensures.ok (c.plan_mount.ensures.kept.trusted clean)).given_is (c.in_err-plan.ensures.err clean)))

pub returns-in_err-plan-clause-refused : goal.returns-in_err-plan-clause-refused
returns-in_err-plan-clause-refused g c = λ clean.
    if-fault c.from_residual-in_err-plan.result c.in_err-plan.field-0.0 _ c.from_residual-in_err-plan.ensures.1 (λ not_halted not_memory not_failed. keeps-both _ _ _ c.survey_drive.ensures.kept c.plan_mount.ensures.kept)

pub returns-in_err-plan-clause-early : goal.returns-in_err-plan-clause-early
returns-in_err-plan-clause-early g c clean =
    if-fault c.from_residual-in_err-plan.result c.in_err-plan.field-0.0 _ c.from_residual-in_err-plan.ensures.1 (inl (keeps-both _ _ _ c.survey_drive.ensures.kept c.plan_mount.ensures.kept))

pub returns-in_err-plan-clause-kept : goal.returns-in_err-plan-clause-kept
returns-in_err-plan-clause-kept g c clean = closing-keeps _ _ c.args.given (keeps-both _ _ _ c.survey_drive.ensures.kept c.plan_mount.ensures.kept)

pub returns-in_err-carry_out-clause-err : goal.returns-in_err-carry_out-clause-err
returns-in_err-carry_out-clause-err g c clean =
    if-fault c.from_residual-in_err-carry_out.result c.in_err-carry_out.field-0.0 _ c.from_residual-in_err-carry_out.ensures.1
    (carry-refused (g.D.Device.drive c.args.device.now) (g.D.Device.drive c.plan_mount.new.device) (g.D.Device.drive c.carry_out.new.device) c.args.given c.in_err-carry_out.field-0.0 (c.in_err-carry_out.ensures.err clean))

pub returns-in_err-carry_out-clause-refused : goal.returns-in_err-carry_out-clause-refused
returns-in_err-carry_out-clause-refused g c = λ clean.
    if-fault c.from_residual-in_err-carry_out.result c.in_err-carry_out.field-0.0 _ c.from_residual-in_err-carry_out.ensures.1
    (carry-kept _ (g.D.Device.drive c.carry_out.new.device) c.in_err-carry_out.field-0.0 (c.in_err-carry_out.ensures.err clean))

pub returns-in_err-carry_out-clause-early : goal.returns-in_err-carry_out-clause-early
returns-in_err-carry_out-clause-early g c clean =
    if-fault c.from_residual-in_err-carry_out.result c.in_err-carry_out.field-0.0 _ c.from_residual-in_err-carry_out.ensures.1
    (inr (to-mount (g.D.Device.drive c.args.device.now) (g.D.Device.drive c.survey_drive.new.device) (g.D.Device.drive c.plan_mount.new.device) c.args.given c.in_ok-survey.survey c.plan_mount.new.survey c.in_ok-plan.plan
    c.geometry-geometry.ensures.lawful c.survey_drive.ensures.kept (c.in_ok-survey.ensures.ok (c.plan_mount.ensures.kept.trusted (c.carry_out.ensures.stays.trusted clean))) c.plan_mount.ensures.kept (subst (λ (k : ℕ). IsPlanned (g.D.Device.drive c.plan_mount.new.device) k c.plan_mount.new.survey c.in_ok-plan.plan) (c.in_ok-survey.ensures.ok (c.plan_mount.ensures.kept.trusted (c.carry_out.ensures.stays.trusted clean))).given_is (c.in_ok-plan.ensures.ok (c.carry_out.ensures.stays.trusted clean)))))

pub returns-in_err-carry_out-clause-kept : goal.returns-in_err-carry_out-clause-kept
returns-in_err-carry_out-clause-kept g c clean =
    keeps-mountable-both c.args.given _ _ _ (closing-keeps _ _ c.args.given (keeps-both _ _ _ c.survey_drive.ensures.kept c.plan_mount.ensures.kept)) (keeps-given c.plan_mount.new.survey.given c.args.given (g.D.Device.drive c.plan_mount.new.device) _ ((c.in_ok-plan.ensures.ok (c.carry_out.ensures.stays.trusted clean)).known.given_is ∙ (c.in_ok-survey.ensures.ok (c.plan_mount.ensures.kept.trusted (c.carry_out.ensures.stays.trusted clean))).given_is) (c.carry_out.ensures.kept clean))

pub returns-in_err-tables-clause-early : goal.returns-in_err-tables-clause-early
returns-in_err-tables-clause-early g c clean =
    if-fault c.from_residual-in_err-tables.result faults.OutOfMemory _ c.from_residual-in_err-tables.ensures.1
    (inr (to-mount (g.D.Device.drive c.args.device.now) (g.D.Device.drive c.survey_drive.new.device) (g.D.Device.drive c.plan_mount.new.device) c.args.given c.in_ok-survey.survey c.plan_mount.new.survey c.in_ok-plan.plan
    c.geometry-geometry.ensures.lawful c.survey_drive.ensures.kept (c.in_ok-survey.ensures.ok (c.plan_mount.ensures.kept.trusted (c.carry_out.ensures.stays.trusted clean))) c.plan_mount.ensures.kept (subst (λ (k : ℕ). IsPlanned (g.D.Device.drive c.plan_mount.new.device) k c.plan_mount.new.survey c.in_ok-plan.plan) (c.in_ok-survey.ensures.ok (c.plan_mount.ensures.kept.trusted (c.carry_out.ensures.stays.trusted clean))).given_is (c.in_ok-plan.ensures.ok (c.carry_out.ensures.stays.trusted clean)))))

pub returns-in_err-tables-clause-kept : goal.returns-in_err-tables-clause-kept
returns-in_err-tables-clause-kept g c clean =
    keeps-mountable-both c.args.given _ _ _ (closing-keeps _ _ c.args.given (keeps-both _ _ _ c.survey_drive.ensures.kept c.plan_mount.ensures.kept)) (keeps-given c.plan_mount.new.survey.given c.args.given (g.D.Device.drive c.plan_mount.new.device) _ ((c.in_ok-plan.ensures.ok (c.carry_out.ensures.stays.trusted clean)).known.given_is ∙ (c.in_ok-survey.ensures.ok (c.plan_mount.ensures.kept.trusted (c.carry_out.ensures.stays.trusted clean))).given_is) (c.carry_out.ensures.kept clean))

pub returns-clause-ok : goal.returns-clause-ok
returns-clause-ok g c clean =
    let old = g.D.Device.drive c.args.device.now in
    let middle = g.D.Device.drive c.survey_drive.new.device in
    let third = g.D.Device.drive c.plan_mount.new.device in
    let last = g.D.Device.drive c.carry_out.new.device in
    let same = ((c.in_ok-plan.ensures.ok (c.carry_out.ensures.stays.trusted clean)).known.given_is ∙ (c.in_ok-survey.ensures.ok (c.plan_mount.ensures.kept.trusted (c.carry_out.ensures.stays.trusted clean))).given_is) in
    let final = c.carry_out.new.survey in
    let repaired : IsRepaired last c.args.given final = subst (λ (k : ℕ). IsRepaired last k final) same (c.in_ok-carry_out.ensures.repaired clean) in
    let left = subst (λ (k : ℕ). LeavesCleared k third c.in_ok-plan.plan.half_clean.items last) same (c.in_ok-carry_out.ensures.left clean) in
    let is = repairs old middle third last c.args.given c.in_ok-survey.survey c.plan_mount.new.survey final c.in_ok-plan.plan c.geometry-geometry.ensures.lawful c.survey_drive.ensures.kept (c.in_ok-survey.ensures.ok (c.plan_mount.ensures.kept.trusted (c.carry_out.ensures.stays.trusted clean)))
    c.plan_mount.ensures.kept (subst (λ (k : ℕ). IsPlanned (g.D.Device.drive c.plan_mount.new.device) k c.plan_mount.new.survey c.in_ok-plan.plan) (c.in_ok-survey.ensures.ok (c.plan_mount.ensures.kept.trusted (c.carry_out.ensures.stays.trusted clean))).given_is (c.in_ok-plan.ensures.ok (c.carry_out.ensures.stays.trusted clean))) (keeps-given c.plan_mount.new.survey.given c.args.given (g.D.Device.drive c.plan_mount.new.device) _ ((c.in_ok-plan.ensures.ok (c.carry_out.ensures.stays.trusted clean)).known.given_is ∙ (c.in_ok-survey.ensures.ok (c.plan_mount.ensures.kept.trusted (c.carry_out.ensures.stays.trusted clean))).given_is) (c.carry_out.ensures.kept clean)) repaired.known repaired left (needed-since old third last c.in_ok-plan.plan.half_clean.items (keeps-both old middle third c.survey_drive.ensures.kept c.plan_mount.ensures.kept) (c.in_ok-carry_out.ensures.zones clean))
    (λ fs noted. open-mounted old third last c.in_ok-plan.plan.half_clean.items c.in_ok-survey.survey.zones.items c.plan_mount.new.survey.zones.items final.zones.items fs
    (keeps-both old middle third c.survey_drive.ensures.kept c.plan_mount.ensures.kept) (c.in_ok-survey.ensures.ok (c.plan_mount.ensures.kept.trusted (c.carry_out.ensures.stays.trusted clean))).shut (ap (λ (zs : Vec ReportedZone Global). zs.items) c.in_ok-plan.ensures.zones) (c.in_ok-carry_out.ensures.noted clean) noted) in
    let own : IsRepaired last final.given final = subst (λ (k : ℕ). IsRepaired last k final) (sym repaired.known.given_is) repaired in
    let was = c.greatest_sequence-greatest.ensures ∙ ap (λ (zs : List ScannedZone). greatest_sequence (sequences_in (heads_in zs))) c.deref.ensures.value in
    let now = c.greatest_sequence.ensures ∙ ap (λ (zs : List ScannedZone). greatest_sequence (sequences_in (heads_in zs))) c.deref-3.ensures.value in
    let next = next-is old last c.args.given c.greatest_sequence-greatest.result c.greatest_sequence.result c.in_ok-tables.tables.next c.in_ok-survey.survey c.carry_out.new.survey is (c.in_ok-survey.ensures.ok (c.plan_mount.ensures.kept.trusted (c.carry_out.ensures.stays.trusted clean))).scans.heads was now
    (c.in_ok-tables.ensures.next ∙ c.min-next.ensures ∙ ap (λ (k : ℕ). min k (2 ^ 63)) (c.saturating_add.ensures ∙ ap (λ (k : ℕ). min (k + 1) (2 ^ 64 - 1)) c.max.ensures)) in
    let geometry = is.kept.geometry ∙ sym c.geometry-geometry.ensures.value in
    mounts old last c.args.given c.carry_out.new.survey c.in_ok-tables.tables is next (c.in_ok-tables.ensures.given ∙ repaired.known.given_is)
    (c.in_ok-tables.ensures.agrees last geometry own (subst (λ (k : ℕ). AllByRecursion (λ s. s < k) (sequences (drive_logs last))) c.in_ok-tables.ensures.next next.above) (subst (λ (k : ℕ). k ≤ 2 ^ 63) c.in_ok-tables.ensures.next next.small))
    (subst (λ (g : Geometry). AreMountedRoles g.capacity (contents last.zones) c.in_ok-tables.tables.roles) (sym geometry) (c.in_ok-tables.ensures.roles last geometry own))
    c.in_ok-tables.ensures.noted

pub returns-clause-kept : goal.returns-clause-kept
returns-clause-kept g c clean =
    keeps-mountable-both c.args.given _ _ _ (closing-keeps _ _ c.args.given (keeps-both _ _ _ c.survey_drive.ensures.kept c.plan_mount.ensures.kept)) (keeps-given c.plan_mount.new.survey.given c.args.given (g.D.Device.drive c.plan_mount.new.device) _ ((c.in_ok-plan.ensures.ok (c.carry_out.ensures.stays.trusted clean)).known.given_is ∙ (c.in_ok-survey.ensures.ok (c.plan_mount.ensures.kept.trusted (c.carry_out.ensures.stays.trusted clean))).given_is) (c.carry_out.ensures.kept clean))

pub returns-in_err-plan-clause-unsent : goal.returns-in_err-plan-clause-unsent
returns-in_err-plan-clause-unsent g c never = absurd (never (record { geometry = c.in_ok-survey.ensures.reported.can.geometry; reserve = c.in_ok-survey.ensures.reported.can.reserve }))

pub returns-in_err-carry_out-clause-unsent : goal.returns-in_err-carry_out-clause-unsent
returns-in_err-carry_out-clause-unsent g c never = absurd (never (record { geometry = c.in_ok-survey.ensures.reported.can.geometry; reserve = c.in_ok-survey.ensures.reported.can.reserve }))

pub returns-in_err-tables-clause-unsent : goal.returns-in_err-tables-clause-unsent
returns-in_err-tables-clause-unsent g c never = absurd (never (record { geometry = c.in_ok-survey.ensures.reported.can.geometry; reserve = c.in_ok-survey.ensures.reported.can.reserve }))

pub returns-clause-unsent : goal.returns-clause-unsent
returns-clause-unsent g c never = absurd (never (record { geometry = c.in_ok-survey.ensures.reported.can.geometry; reserve = c.in_ok-survey.ensures.reported.can.reserve }))

pub plan_mount-requires-clause-fits : goal.plan_mount-requires-clause-fits
plan_mount-requires-clause-fits g c = record { zones = c.in_ok-survey.ensures.reported.zones; scanned = c.in_ok-survey.ensures.reported.scanned }

pub returns-in_err-survey-clause-stays : goal.returns-in_err-survey-clause-stays
returns-in_err-survey-clause-stays g c = looks-stay _ _ c.survey_drive.ensures.kept

pub returns-in_err-plan-clause-stays : goal.returns-in_err-plan-clause-stays
returns-in_err-plan-clause-stays g c = looks-stay _ _ (keeps-both _ _ _ c.survey_drive.ensures.kept c.plan_mount.ensures.kept)

pub returns-in_err-carry_out-clause-stays : goal.returns-in_err-carry_out-clause-stays
returns-in_err-carry_out-clause-stays g c = stays-both _ _ _ (looks-stay _ _ (keeps-both _ _ _ c.survey_drive.ensures.kept c.plan_mount.ensures.kept)) c.carry_out.ensures.stays

pub returns-in_err-tables-clause-stays : goal.returns-in_err-tables-clause-stays
returns-in_err-tables-clause-stays g c = stays-both _ _ _ (looks-stay _ _ (keeps-both _ _ _ c.survey_drive.ensures.kept c.plan_mount.ensures.kept)) c.carry_out.ensures.stays

pub returns-clause-stays : goal.returns-clause-stays
returns-clause-stays g c = stays-both _ _ _ (looks-stay _ _ (keeps-both _ _ _ c.survey_drive.ensures.kept c.plan_mount.ensures.kept)) c.carry_out.ensures.stays

pub returns-then-not-are_short-clause-err : goal.returns-then-not-are_short-clause-err
returns-then-not-are_short-clause-err g c clean =
    let last = g.D.Device.drive c.carry_out.new.device in
    let stays = stays-both _ _ _ (looks-stay _ _ (keeps-both _ _ _ c.survey_drive.ensures.kept c.plan_mount.ensures.kept)) c.carry_out.ensures.stays in
    let same : last.geometry ≡ c.geometry-geometry.result = stays.geometry ∙ sym c.geometry-geometry.ensures.value in
    let known = (c.in_ok-carry_out.ensures.repaired clean).known.zones in
    let short = subst (λ (xs : List ReportedZone). AreShort c.geometry-geometry.result.capacity xs) (sym c.deref-2.ensures.value) (subst (λ (x : Geometry). AreShort x.capacity c.carry_out.new.survey.zones.items) same (known-short last c.carry_out.new.survey.zones.items known)) in
    let yes = c.are_short.ensures.told short in
    absurd (let no = c.if-not-are_short.true in cc)

pub returns-then-not-are_short-clause-refused : goal.returns-then-not-are_short-clause-refused
returns-then-not-are_short-clause-refused g c clean =
    let last = g.D.Device.drive c.carry_out.new.device in
    let stays = stays-both _ _ _ (looks-stay _ _ (keeps-both _ _ _ c.survey_drive.ensures.kept c.plan_mount.ensures.kept)) c.carry_out.ensures.stays in
    let same : last.geometry ≡ c.geometry-geometry.result = stays.geometry ∙ sym c.geometry-geometry.ensures.value in
    let known = (c.in_ok-carry_out.ensures.repaired clean).known.zones in
    let short = subst (λ (xs : List ReportedZone). AreShort c.geometry-geometry.result.capacity xs) (sym c.deref-2.ensures.value) (subst (λ (x : Geometry). AreShort x.capacity c.carry_out.new.survey.zones.items) same (known-short last c.carry_out.new.survey.zones.items known)) in
    let yes = c.are_short.ensures.told short in
    absurd (let no = c.if-not-are_short.true in cc)

pub returns-then-not-are_short-clause-early : goal.returns-then-not-are_short-clause-early
returns-then-not-are_short-clause-early g c clean =
    let last = g.D.Device.drive c.carry_out.new.device in
    let stays = stays-both _ _ _ (looks-stay _ _ (keeps-both _ _ _ c.survey_drive.ensures.kept c.plan_mount.ensures.kept)) c.carry_out.ensures.stays in
    let same : last.geometry ≡ c.geometry-geometry.result = stays.geometry ∙ sym c.geometry-geometry.ensures.value in
    let known = (c.in_ok-carry_out.ensures.repaired clean).known.zones in
    let short = subst (λ (xs : List ReportedZone). AreShort c.geometry-geometry.result.capacity xs) (sym c.deref-2.ensures.value) (subst (λ (x : Geometry). AreShort x.capacity c.carry_out.new.survey.zones.items) same (known-short last c.carry_out.new.survey.zones.items known)) in
    let yes = c.are_short.ensures.told short in
    absurd (let no = c.if-not-are_short.true in cc)

pub returns-then-not-are_short-clause-kept : goal.returns-then-not-are_short-clause-kept
returns-then-not-are_short-clause-kept g c clean =
    let last = g.D.Device.drive c.carry_out.new.device in
    let stays = stays-both _ _ _ (looks-stay _ _ (keeps-both _ _ _ c.survey_drive.ensures.kept c.plan_mount.ensures.kept)) c.carry_out.ensures.stays in
    let same : last.geometry ≡ c.geometry-geometry.result = stays.geometry ∙ sym c.geometry-geometry.ensures.value in
    let known = (c.in_ok-carry_out.ensures.repaired clean).known.zones in
    let short = subst (λ (xs : List ReportedZone). AreShort c.geometry-geometry.result.capacity xs) (sym c.deref-2.ensures.value) (subst (λ (x : Geometry). AreShort x.capacity c.carry_out.new.survey.zones.items) same (known-short last c.carry_out.new.survey.zones.items known)) in
    let yes = c.are_short.ensures.told short in
    absurd (let no = c.if-not-are_short.true in cc)

pub returns-then-not-are_short-clause-unsent : goal.returns-then-not-are_short-clause-unsent
returns-then-not-are_short-clause-unsent g c never = absurd (never (record { geometry = c.in_ok-survey.ensures.reported.can.geometry; reserve = c.in_ok-survey.ensures.reported.can.reserve }))

pub returns-clause-sane : goal.returns-clause-sane
returns-clause-sane g c =
    let last = g.D.Device.drive c.carry_out.new.device in
    let stays = stays-both _ _ _ (looks-stay _ _ (keeps-both _ _ _ c.survey_drive.ensures.kept c.plan_mount.ensures.kept)) c.carry_out.ensures.stays in
    let same : last.geometry ≡ c.geometry-geometry.result = stays.geometry ∙ sym c.geometry-geometry.ensures.value in
    let short = subst (λ (xs : List ReportedZone). AreShort c.geometry-geometry.result.capacity xs) c.deref-2.ensures.value (c.are_short.ensures.short c.if-not-are_short.false) in
    subst (λ (x : Geometry). AreSane x c.in_ok-tables.tables) (sym same) (c.in_ok-tables.ensures.sane short (omega (arith, c.min-next.ensures)))

pub returns-clause-asked : goal.returns-clause-asked
returns-clause-asked g c = record { geometry = c.in_ok-survey.ensures.reported.can.geometry; reserve = c.in_ok-survey.ensures.reported.can.reserve }

pub returns-in_err-tables-clause-refused : goal.returns-in_err-tables-clause-refused
returns-in_err-tables-clause-refused g c = λ clean.
    if-fault c.from_residual-in_err-tables.result faults.OutOfMemory _ c.from_residual-in_err-tables.ensures.1 (λ not_halted not_memory not_failed. absurd (not_memory refl))
