use Rattle.std.proofs.Common.{◌*◌, Err, ap, ◌∙◌}
use Rattle.drive_port.specs.declared.calls.PortFault.{PortFault}
use Rattle.zone_states.specs.declared.geometry.Geometry.{Geometry}
use Rattle.tail_repair.proofs.CauseLaws.{call-told, if-fault}
use Rattle.tail_repair.proofs.CommandLaws.{finish-leaves}
use Rattle.tail_repair.proofs.copy.finish_zone.Goals as goal

pub returns-in_err-finish-clause-told : goal.returns-in_err-finish-clause-told
returns-in_err-finish-clause-told g c =
    if-fault c.from_residual.result _ _ c.from_residual.ensures.1 (call-told (g.D.Device.drive c.finish.new.device) c.in_err-finish.field-0.0 (λ is. c.in_err-finish.ensures.obeys.stops (ap (λ (f : PortFault). Err f) is)) (λ is. (c.in_err-finish.ensures.obeys.fails (ap (λ (f : PortFault). Err f) is)).0))

pub returns-in_err-finish-clause-kept : goal.returns-in_err-finish-clause-kept
returns-in_err-finish-clause-kept g c = finish-leaves _ _ c.args.zone _ _ c.requires.range (c.start_of-start.ensures ∙ ap (λ (x : Geometry). c.args.zone * x.size) c.geometry.ensures.value) c.finish.ensures

pub returns-clause-kept : goal.returns-clause-kept
returns-clause-kept g c = finish-leaves _ _ c.args.zone _ _ c.requires.range (c.start_of-start.ensures ∙ ap (λ (x : Geometry). c.args.zone * x.size) c.geometry.ensures.value) c.finish.ensures
