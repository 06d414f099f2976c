use Rattle.std.proofs.Common.{inl}
use Rattle.drive_port.proofs.ClosingLaws.{IsClosing-refl}
use Rattle.passthrough.proofs.ThroughLaws.{silent-answers, silent-recalls}
use Rattle.call_tests.proofs.halting.HaltingPassthrough.submit.Goals as goal

pub returns-then-eq-clause-answers : goal.returns-then-eq-clause-answers
returns-then-eq-clause-answers c = silent-answers _ _ _ _ _ _ _ _ c.status.ensures.some (inl (IsClosing-refl _))

pub returns-then-eq-clause-recalls : goal.returns-then-eq-clause-recalls
returns-then-eq-clause-recalls c = silent-recalls _ _ _ _ _ _ c.status.ensures.some

pub returns-then-eq-2-clause-recalls : goal.returns-then-eq-2-clause-recalls
returns-then-eq-2-clause-recalls c = silent-recalls _ _ _ _ _ _ c.status-then-eq-2.ensures.some
