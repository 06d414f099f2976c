use Rattle.std.proofs.Common.{Ok, Err, refl, rules}
use Rattle.nvme_wire.specs.declared.command.Command.TheVariants.{Receive}
use Rattle.drive_port.proofs.StepLaws.{call-none, call-zero, on_err}
use Rattle.drive_port.proofs.HaltLaws.{query-closes}
use Rattle.drive_port.proofs.ReportLaws.{report-is_taken, report-succeeded}
use Rattle.drive_port.proofs.calls.report.Goals as goal

pub returns-in_err-call : goal.returns-in_err-call
returns-in_err-call g c = record {
  gives = search rules;
  shown = search rules;
  err = on_err _ _ (call-none _ _ _ _ _ (Err c.in_err-call.field-0.0) c.in_err-call.ensures.gives);
  kept = query-closes _ _ (Receive c.args.slba c.args.dwords c.args.options c.args.partial) _ _ (Err c.in_err-call.field-0.0) refl c.call.ensures.obeys.geometry c.in_err-call.ensures.gives;
  taken = report-is_taken (g.D.Device.drive c.args.device.now) (g.D.Device.drive c.call.new.device) c.args.slba c.args.options c.args.partial c.args.dwords c.call.new.into.items c.from_residual.result (search rules);
  obeys = search rules;
}

pub returns : goal.returns
returns g c =
    let gives = call-zero _ _ (Receive c.args.slba c.args.dwords c.args.options c.args.partial) _ _ _ refl c.in_ok-call.ensures.gives in record {
      gives = gives;
      shown = report-succeeded _ _ c.args.slba c.args.options c.args.partial c.args.dwords _ _ _ c.requires.head c.in_ok-call.ensures.gives.1;
      err = search rules;
      kept = query-closes _ _ (Receive c.args.slba c.args.dwords c.args.options c.args.partial) _ _ (Ok 0) refl c.call.ensures.obeys.geometry gives;
      taken = search rules;
      obeys = search rules;
    }
