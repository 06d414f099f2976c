use Rattle.std.proofs.Common.{refl}
use Rattle.nvme_wire.specs.declared.command.Command.TheVariants.{Flush}
use Rattle.drive_port.proofs.StepLaws.{call-zero}
use Rattle.drive_port.proofs.calls.send_flush.Goals as goal

pub returns-clause-gives : goal.returns-clause-gives
returns-clause-gives g c = (c.submit.new.into.items, call-zero _ _ Flush _ _ _ refl c.in_ok-submit.ensures.gives)
