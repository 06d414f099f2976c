use Rattle.std.proofs.Common.{[]}
use Rattle.drive_port.proofs.CallLaws.{adds-also, call-completed, call-obeys, is-completion}
use Rattle.drive_port.proofs.calls.call_extending.Goals as goal

pub answer_of-requires : goal.answer_of-requires
answer_of-requires g c = is-completion _ _ _ _ _ _ c.encode-entry.ensures.id c.in_ok-completion.ensures.gives.given.1

pub returns-clause-gives : goal.returns-clause-gives
returns-clause-gives g c =
    adds-also _ _ _ _ (λ returned. call-completed _ _ _ _ _ _ _ _ c.encode-entry.ensures.id c.encode-entry.ensures.again c.answer_of.ensures) c.in_ok-completion.ensures.gives

pub returns-clause-obeys : goal.returns-clause-obeys
returns-clause-obeys g c = call-obeys _ _ c.args.command.now [] _ _ c.requires.other c.submit_extending.ensures.was_lawful c.submit_extending.ensures.lawful (returns-clause-gives g c).given
