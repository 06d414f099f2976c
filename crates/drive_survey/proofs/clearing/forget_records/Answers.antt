use Rattle.std.proofs.Common.{sym}
use Rattle.drive_survey.proofs.WaitingLaws.{woken-none}
use Rattle.drive_survey.proofs.clearing.forget_records.Goals as goal

pub returns-in_default-clause-holders : goal.returns-in_default-clause-holders
returns-in_default-clause-holders c logs holds each = woken-none c.args.waiting.now _ logs (sym (rw c.in_default.is at c.forget.ensures.own))

pub returns-clause-holders : goal.returns-clause-holders
returns-clause-holders c = rw (c.deref.ensures.value, rw c.in-Some.is at c.forget.ensures.own) at c.wake.ensures.holders
