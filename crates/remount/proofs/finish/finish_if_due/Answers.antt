use Rattle.std.proofs.Common.{true, false, inl, inr, ap, refl, sym, subst, ◌∙◌}
use Rattle.zone_states.specs.declared.geometry.Geometry.{Geometry}
use Rattle.zone_states.specs.Geometry.{IsInRange}
use Rattle.drive_array.specs.Reserve.{batch_most}
use Rattle.remount.specs.Resets.{IsTested}
use Rattle.remount.proofs.EmptyLaws.{if-ok, stays-none}
use Rattle.remount.proofs.FinishLaws.{may-finish, tested-is}
use Rattle.remount.proofs.finish.finish_if_due.Goals as goal

pub batch_most-requires : goal.batch_most-requires
batch_most-requires g c = subst IsInRange (sym c.geometry-geometry.ensures.value) c.requires.range

pub returns-clause-ok : goal.returns-clause-ok
returns-clause-ok g c = λ known.
    let old = g.D.Device.drive c.args.device.now in
    let tested : IsTested old.geometry.capacity (batch_most old.geometry) c.args.survey.now c.args.zone true =
    tested-is c.args.survey.now c.args.zone c.geometry-geometry.result.capacity old.geometry.capacity c.batch_most.result (batch_most old.geometry) c.index-reported.result.now c.index.result.now true c.requires.in_range c.requires.scanned
    (ap (λ (x : Geometry). x.capacity) c.geometry-geometry.ensures.value) (c.batch_most.ensures.most ∙ ap batch_most c.geometry-geometry.ensures.value) c.index-reported.ensures c.index.ensures c.if-not-is_to_finish.ensures in
    if-ok c.finish_zone.result (λ one. inr (tested, one)) (c.finish_zone.ensures.ok known)

pub returns-clause-kept : goal.returns-clause-kept
returns-clause-kept g c = λ known.
    let old = g.D.Device.drive c.args.device.now in
    let tested : IsTested old.geometry.capacity (batch_most old.geometry) c.args.survey.now c.args.zone true =
    tested-is c.args.survey.now c.args.zone c.geometry-geometry.result.capacity old.geometry.capacity c.batch_most.result (batch_most old.geometry) c.index-reported.result.now c.index.result.now true c.requires.in_range c.requires.scanned
    (ap (λ (x : Geometry). x.capacity) c.geometry-geometry.ensures.value) (c.batch_most.ensures.most ∙ ap batch_most c.geometry-geometry.ensures.value) c.index-reported.ensures c.index.ensures c.if-not-is_to_finish.ensures in
    may-finish old (g.D.Device.drive c.finish_zone.new.device) c.args.zone (IsTested old.geometry.capacity (batch_most old.geometry) c.args.survey.now c.args.zone true) tested (c.finish_zone.ensures.kept known)

pub returns-then-not-is_to_finish-clause-stays : goal.returns-then-not-is_to_finish-clause-stays
returns-then-not-is_to_finish-clause-stays g c = stays-none _ c.geometry-geometry.ensures.lawful

pub returns-then-not-is_to_finish-clause-count : goal.returns-then-not-is_to_finish-clause-count
returns-then-not-is_to_finish-clause-count g c = record { zones = refl; scanned = refl }

pub returns-then-not-is_to_finish-clause-ok : goal.returns-then-not-is_to_finish-clause-ok
returns-then-not-is_to_finish-clause-ok g c = λ known.
    let old = g.D.Device.drive c.args.device.now in
    let tested : IsTested old.geometry.capacity (batch_most old.geometry) c.args.survey.now c.args.zone false =
    tested-is c.args.survey.now c.args.zone c.geometry-geometry.result.capacity old.geometry.capacity c.batch_most.result (batch_most old.geometry) c.index-reported.result.now c.index.result.now false c.requires.in_range c.requires.scanned
    (ap (λ (x : Geometry). x.capacity) c.geometry-geometry.ensures.value) (c.batch_most.ensures.most ∙ ap batch_most c.geometry-geometry.ensures.value) c.index-reported.ensures c.index.ensures c.if-not-is_to_finish.ensures in
    inl (tested, refl, refl)
