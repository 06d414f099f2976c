use Rattle.std.proofs.Common.{Ok, Err, refl, rules}
use Rattle.nvme_wire.specs.declared.command.Command.TheVariants.{Read}
use Rattle.drive_port.proofs.StepLaws.{call-none, call-zero, on_err}
use Rattle.drive_port.proofs.CallLaws.{adds-also, adds-none}
use Rattle.drive_port.proofs.HaltLaws.{query-closes}
use Rattle.drive_port.proofs.ReadLaws.{read-shows, read-is_taken}
use Rattle.drive_port.proofs.calls.read_extending.Goals as goal

pub returns-in_err-call_extending : goal.returns-in_err-call_extending
returns-in_err-call_extending g c =
    let adds = c.call_extending.ensures.gives in record {
      gives = search rules;
      shown = search rules;
      err = on_err _ _ (adds-none _ _ _ (λ returned gives. call-none _ _ _ _ _ (Err c.in_err-call_extending.field-0.0) gives) c.in_err-call_extending.ensures.gives);
      kept = query-closes _ _ (Read c.args.slba c.args.blocks) _ _ (Err c.in_err-call_extending.field-0.0) refl c.call_extending.ensures.obeys.geometry c.in_err-call_extending.ensures.gives.given;
      taken = read-is_taken (g.D.Device.drive c.args.device.now) (g.D.Device.drive c.call_extending.new.device) c.args.slba c.args.blocks adds.returned c.from_residual.result (search rules);
      obeys = search rules;
    }

pub returns : goal.returns
returns g c =
    let adds = c.in_ok-call_extending.ensures.gives in
    let gives = adds-also _ _ _ _ (λ returned. call-zero _ _ (Read c.args.slba c.args.blocks) _ _ _ refl) c.in_ok-call_extending.ensures.gives in record {
      gives = gives;
      shown = read-shows _ _ c.args.slba c.args.blocks _ adds.returned _ _ _ c.call_extending.ensures.obeys.was_lawful adds.given.1 adds.joined;
      err = search rules;
      kept = query-closes _ _ (Read c.args.slba c.args.blocks) _ _ (Ok 0) refl c.call_extending.ensures.obeys.geometry gives.given;
      taken = search rules;
      obeys = search rules;
    }
