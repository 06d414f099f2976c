use Rattle.std.proofs.Common.{ℕ, ◌+◌, ◌∷◌, ◌∙◌, List, drop, get_or, subst, sym, arith}
use Rattle.std.proofs.lemmas.List.{drop_more}
use Rattle.remount.proofs.EmptyLaws.{ResetsSome, resets-more, resets-none, some-keeps}
use Rattle.remount.proofs.empty.reset_zones.Goals as goal

pub returns-in_err-reset_zone-clause-kept : goal.returns-in_err-reset_zone-clause-kept
returns-in_err-reset_zone-clause-kept g c clean =
    let first = g.D.Device.drive c.args.device.now in
    let now = g.D.Device.drive c.loop-zone.device in
    let zone = get_or c.args.zones.now c.loop-zone.zone-index 0 in
    let rest = drop (c.loop-zone.zone-index + 1) c.args.zones.now in
    let some : ResetsSome first now c.args.survey.now c.loop-zone.survey c.args.survey.now.given c.args.zones.now (zone ∷ rest) =
    subst (λ (zs : List ℕ). ResetsSome first now c.args.survey.now c.loop-zone.survey c.args.survey.now.given c.args.zones.now zs) (drop_more c.args.zones.now c.loop-zone.zone-index 0 c.loop-zone-test.true) c.loop-zone.invariant in
    some-keeps first now (g.D.Device.drive c.reset_zone.new.device) c.args.survey.now c.loop-zone.survey c.args.survey.now.given zone c.args.zones.now rest some c.reset_zone.ensures.kept clean

pub loop-zone-preserved : goal.loop-zone-preserved
loop-zone-preserved g c =
    let first = g.D.Device.drive c.args.device.now in
    let now = g.D.Device.drive c.loop-zone.device in
    let zone = get_or c.args.zones.now c.loop-zone.zone-index 0 in
    let rest = drop (c.loop-zone.zone-index + 1) c.args.zones.now in
    let some : ResetsSome first now c.args.survey.now c.loop-zone.survey c.args.survey.now.given c.args.zones.now (zone ∷ rest) =
    subst (λ (zs : List ℕ). ResetsSome first now c.args.survey.now c.loop-zone.survey c.args.survey.now.given c.args.zones.now zs) (drop_more c.args.zones.now c.loop-zone.zone-index 0 c.loop-zone-test.true) c.loop-zone.invariant in
    resets-more first now (g.D.Device.drive c.reset_zone.new.device) c.args.survey.now c.loop-zone.survey c.reset_zone.new.survey c.args.survey.now.given zone c.args.zones.now rest some c.reset_zone.ensures.kept c.in_ok-reset_zone.ensures.ok

pub loop-zone-init : goal.loop-zone-init
loop-zone-init g c = resets-none (g.D.Device.drive c.args.device.now) c.args.survey.now c.args.survey.now.given c.args.zones.now c.requires.zones c.requires.inside c.requires.may

pub reset_zone-requires : goal.reset_zone-requires
reset_zone-requires g c =
    let first = g.D.Device.drive c.args.device.now in
    let now = g.D.Device.drive c.loop-zone.device in
    let zone = get_or c.args.zones.now c.loop-zone.zone-index 0 in
    let rest = drop (c.loop-zone.zone-index + 1) c.args.zones.now in
    let some : ResetsSome first now c.args.survey.now c.loop-zone.survey c.args.survey.now.given c.args.zones.now (zone ∷ rest) =
    subst (λ (zs : List ℕ). ResetsSome first now c.args.survey.now c.loop-zone.survey c.args.survey.now.given c.args.zones.now zs) (drop_more c.args.zones.now c.loop-zone.zone-index 0 c.loop-zone-test.true) c.loop-zone.invariant in
    record { zones = some.known; in_range = omega (arith, some.inside.0, some.count); scanned = some.scanned ∙ c.requires.scanned ∙ sym some.count }

pub returns-in_err-reset_zone-clause-stays : goal.returns-in_err-reset_zone-clause-stays
returns-in_err-reset_zone-clause-stays g c =
    let kept = c.reset_zone.ensures.kept in
    let was = c.loop-zone.invariant.stays in
    record { geometry = kept.geometry ∙ was.geometry; lawful = kept.lawful; trusted = λ clean. was.trusted (kept.trusted clean); unfailing = λ up. was.unfailing (kept.unfailing up) }

pub returns-clause-stays : goal.returns-clause-stays
returns-clause-stays g c = c.loop-zone.invariant.stays

pub returns-clause-kept : goal.returns-clause-kept
returns-clause-kept g c = c.loop-zone.invariant.keeps
