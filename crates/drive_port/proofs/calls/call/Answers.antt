use Rattle.drive_port.proofs.CallLaws.{call-obeys}
use Rattle.drive_port.proofs.calls.call.Goals as goal

pub returns-clause-obeys : goal.returns-clause-obeys
returns-clause-obeys g c = call-obeys _ _ c.args.command.now c.args.bytes.now _ _ c.requires.other c.submit.ensures.was_lawful c.submit.ensures.lawful c.submit.ensures.gives
