use Rattle.std.proofs.Common.{◌*◌, Err, ap, ◌∙◌}
use Rattle.drive_port.specs.declared.calls.PortFault.{PortFault}
use Rattle.zone_states.specs.declared.geometry.Geometry.{Geometry}
use Rattle.tail_repair.proofs.CauseLaws.{call-told, if-fault}
use Rattle.tail_repair.proofs.CommandLaws.{reset-leaves}
use Rattle.tail_repair.proofs.repair.reset_moved.Goals as goal

pub returns-in_err-reset : goal.returns-in_err-reset
returns-in_err-reset g c =
    let leaves = reset-leaves _ _ c.args.zone _ c.args.blocks c.args.to _ c.requires.range (c.start_of-start.ensures ∙ ap (λ (x : Geometry). c.args.zone * x.size) c.geometry.ensures.value) c.requires.ends c.requires.moved c.reset.ensures in
    record {
      there = λ clean. (leaves.batches clean).there;
      beside = λ clean. (leaves.batches clean).beside;
      told = if-fault c.from_residual.result _ _ c.from_residual.ensures.1 (call-told (g.D.Device.drive c.reset.new.device) c.in_err-reset.field-0.0 (λ is. c.in_err-reset.ensures.obeys.stops (ap (λ (f : PortFault). Err f) is)) (λ is. (c.in_err-reset.ensures.obeys.fails (ap (λ (f : PortFault). Err f) is)).0));
      kept = leaves.kept;
    }

pub returns : goal.returns
returns g c =
    let leaves = reset-leaves _ _ c.args.zone _ c.args.blocks c.args.to _ c.requires.range (c.start_of-start.ensures ∙ ap (λ (x : Geometry). c.args.zone * x.size) c.geometry.ensures.value) c.requires.ends c.requires.moved c.reset.ensures in
    record {
      there = λ clean. (leaves.batches clean).there;
      beside = λ clean. (leaves.batches clean).beside;
      told = tt;
      kept = leaves.kept;
    }
