use Rattle.drive_port.proofs.CallLaws.{call-completed, is-completion}
use Rattle.drive_port.proofs.calls.submit.Goals as goal

pub answer_of-requires : goal.answer_of-requires
answer_of-requires g c = is-completion _ _ _ _ _ _ c.encode-entry.ensures.id c.in_ok-completion.ensures.gives.1

pub returns-clause-gives : goal.returns-clause-gives
returns-clause-gives g c = call-completed _ _ _ _ _ _ _ _ c.encode-entry.ensures.id c.encode-entry.ensures.again c.answer_of.ensures c.in_ok-completion.ensures.gives
