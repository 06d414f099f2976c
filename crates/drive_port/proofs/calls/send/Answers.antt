use Rattle.std.proofs.Common.{false, refl}
use Rattle.nvme_wire.specs.declared.command.Command.TheVariants.{Send}
use Rattle.drive_port.proofs.StepLaws.{call-zero}
use Rattle.drive_port.proofs.calls.send.Goals as goal

pub returns-clause-gives : goal.returns-clause-gives
returns-clause-gives g c = (c.call.new.into.items, call-zero _ _ (Send c.args.zone_start c.args.action false) _ _ _ refl c.in_ok-call.ensures.gives)
