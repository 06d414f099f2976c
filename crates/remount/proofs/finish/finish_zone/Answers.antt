use Rattle.std.proofs.Common.{◌*◌, refl, ap, ◌∙◌}
use Rattle.std.specs.Prelude.{slice_set}
use Rattle.std.proofs.lemmas.List.{length-set}
use Rattle.zone_states.specs.declared.geometry.Geometry.{Geometry}
use Rattle.remount.specs.Resets.{reported_full}
use Rattle.remount.proofs.ResetLaws.{finish-done, finish-halts, finishes-one}
use Rattle.remount.proofs.finish.finish_zone.Goals as goal

pub returns-in-Err-clause-err : goal.returns-in-Err-clause-err
returns-in-Err-clause-err g c = λ known.
    let h = finish-halts (g.D.Device.drive c.args.device.now) _ c.args.survey.now.zones.items c.args.zone _ c.in-Err.fault known c.requires.in_range (c.start_of.ensures ∙ ap (λ (x : Geometry). c.args.zone * x.size) c.geometry-geometry.ensures.value) c.in-Err.ensures.gives c.in-Err.ensures.kept c.in-Err.ensures.obeys c.in-Err.ensures.taken in
    rw (c.fault_or_damaged.ensures h.halt) h.cause

pub returns-in-Err-clause-kept : goal.returns-in-Err-clause-kept
returns-in-Err-clause-kept g c = λ known.
    (finish-halts (g.D.Device.drive c.args.device.now) _ c.args.survey.now.zones.items c.args.zone _ c.in-Err.fault known c.requires.in_range (c.start_of.ensures ∙ ap (λ (x : Geometry). c.args.zone * x.size) c.geometry-geometry.ensures.value) c.in-Err.ensures.gives c.in-Err.ensures.kept c.in-Err.ensures.obeys c.in-Err.ensures.taken).kept

pub returns-clause-ok : goal.returns-clause-ok
returns-clause-ok g c = λ known.
    finishes-one (g.D.Device.drive c.args.device.now) (g.D.Device.drive c.finish.new.device) c.args.survey.now _ c.args.zone known c.requires.in_range
    (finish-done (g.D.Device.drive c.args.device.now) _ c.args.survey.now.zones.items c.args.zone _ known c.requires.in_range (c.start_of.ensures ∙ ap (λ (x : Geometry). c.args.zone * x.size) c.geometry-geometry.ensures.value) c.in_default.ensures.finished c.in_default.ensures.leaves c.in_default.ensures.obeys)
    (ap (λ (x : Geometry). slice_set c.args.survey.now.zones.items c.args.zone (reported_full x.capacity)) c.geometry-geometry.ensures.value) refl refl refl

pub returns-clause-kept : goal.returns-clause-kept
returns-clause-kept g c = λ known.
    (finish-done (g.D.Device.drive c.args.device.now) _ c.args.survey.now.zones.items c.args.zone _ known c.requires.in_range (c.start_of.ensures ∙ ap (λ (x : Geometry). c.args.zone * x.size) c.geometry-geometry.ensures.value) c.in_default.ensures.finished c.in_default.ensures.leaves c.in_default.ensures.obeys).kept

pub returns-in-Err-clause-stays : goal.returns-in-Err-clause-stays
returns-in-Err-clause-stays g c = record { geometry = c.in-Err.ensures.obeys.geometry; lawful = c.in-Err.ensures.obeys.lawful; trusted = c.in-Err.ensures.obeys.trusted; unfailing = c.in-Err.ensures.obeys.unfailing }

pub returns-in-Err-clause-count : goal.returns-in-Err-clause-count
returns-in-Err-clause-count g c = record { zones = refl; scanned = refl }

pub returns-clause-stays : goal.returns-clause-stays
returns-clause-stays g c = record { geometry = c.in_default.ensures.obeys.geometry; lawful = c.in_default.ensures.obeys.lawful; trusted = c.in_default.ensures.obeys.trusted; unfailing = c.in_default.ensures.obeys.unfailing }

pub returns-clause-count : goal.returns-clause-count
returns-clause-count g c = record { zones = length-set c.args.survey.now.zones.items c.args.zone _; scanned = refl }
