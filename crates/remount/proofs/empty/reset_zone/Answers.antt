use Rattle.std.proofs.Common.{◌*◌, refl, sym, ap, ◌∙◌}
use Rattle.zone_states.specs.declared.geometry.Geometry.{Geometry}
use Rattle.remount.proofs.ResetLaws.{reset-done, reset-halts, resets-all-one}
use Rattle.remount.proofs.empty.reset_zone.Goals as goal

pub fault_of-requires : goal.fault_of-requires
fault_of-requires g c =
    (reset-halts (g.D.Device.drive c.args.device.now) _ c.args.survey.now.zones.items c.args.zone _ c.in-Err.fault c.requires.zones c.requires.in_range (c.start_of-start.ensures ∙ ap (λ (x : Geometry). c.args.zone * x.size) c.geometry.ensures.value) c.in-Err.ensures.gives c.in-Err.ensures.kept c.in-Err.ensures.obeys c.in-Err.ensures.taken).halt

pub returns-in-Err-clause-err : goal.returns-in-Err-clause-err
returns-in-Err-clause-err g c =
    rw c.fault_of.ensures (reset-halts (g.D.Device.drive c.args.device.now) _ c.args.survey.now.zones.items c.args.zone _ c.in-Err.fault c.requires.zones c.requires.in_range (c.start_of-start.ensures ∙ ap (λ (x : Geometry). c.args.zone * x.size) c.geometry.ensures.value) c.in-Err.ensures.gives c.in-Err.ensures.kept c.in-Err.ensures.obeys c.in-Err.ensures.taken).cause

pub returns-in-Err-clause-kept : goal.returns-in-Err-clause-kept
returns-in-Err-clause-kept g c =
    (reset-halts (g.D.Device.drive c.args.device.now) _ c.args.survey.now.zones.items c.args.zone _ c.in-Err.fault c.requires.zones c.requires.in_range (c.start_of-start.ensures ∙ ap (λ (x : Geometry). c.args.zone * x.size) c.geometry.ensures.value) c.in-Err.ensures.gives c.in-Err.ensures.kept c.in-Err.ensures.obeys c.in-Err.ensures.taken).kept

pub returns-clause-ok : goal.returns-clause-ok
returns-clause-ok g c =
    resets-all-one (g.D.Device.drive c.args.device.now) (g.D.Device.drive c.reset.new.device) c.args.survey.now _ c.args.zone c.index_mut-2.result.now c.requires.zones c.requires.in_range c.requires.scanned
    (reset-done (g.D.Device.drive c.args.device.now) _ c.args.survey.now.zones.items c.args.zone _ c.requires.zones c.requires.in_range (c.start_of-start.ensures ∙ ap (λ (x : Geometry). c.args.zone * x.size) c.geometry.ensures.value) c.in_default.ensures.reset c.in_default.ensures.leaves c.in_default.ensures.obeys)
    (sym c.index_mut-2.ensures.value) refl refl refl refl

pub returns-clause-kept : goal.returns-clause-kept
returns-clause-kept g c =
    (reset-done (g.D.Device.drive c.args.device.now) _ c.args.survey.now.zones.items c.args.zone _ c.requires.zones c.requires.in_range (c.start_of-start.ensures ∙ ap (λ (x : Geometry). c.args.zone * x.size) c.geometry.ensures.value) c.in_default.ensures.reset c.in_default.ensures.leaves c.in_default.ensures.obeys).kept
