-- A completion is the one that was foreseen.
use Rattle.std.proofs.Common.{◌≡◌, ◌==◌, ℕ, List, Result, Ok, Err, ap, ◌∙◌}
use Rattle.std.specs.Prelude.{IfOk}
use Rattle.nvme_wire.specs.Completion.{code_in}
use Rattle.nvme_wire.specs.Entry.{id_of}
use Rattle.drive_port.specs.Halting.{Adds}
use Rattle.drive_port.specs.Step.{is_success}
use Rattle.drive_port.specs.declared.device.Halt.{Halt}
use Rattle.zone_drive.specs.Choice.{AnswersByChoice}
use Rattle.zone_drive.specs.Foreseen.{foreseen}
use Rattle.zone_drive.specs.Habits.{MemoryDrive}
use Rattle.drive_journal.proofs.StepLaws.{done-code}

-- a completion has the code 0 just where Success was foreseen
answered-code : (old new : MemoryDrive) (entry bytes completion returned : List ℕ) → AnswersByChoice old entry bytes completion returned new → (code_in completion == 0) ≡ is_success (foreseen old entry bytes).status
answered-code old new entry bytes completion returned answers =
    ap (λ (l : List ℕ). code_in l == 0) answers.completion_is ∙ done-code (foreseen old entry bytes).value (id_of entry) (foreseen old entry bytes).status

-- so it is of any answer that is one
pub answered-codes : (old new : MemoryDrive) (entry bytes held items : List ℕ) (result : Result (List ℕ) Halt) → IfOk result (λ completion. Adds held (λ returned. AnswersByChoice old entry bytes completion returned new) items)
    → IfOk result (λ completion. (code_in completion == 0) ≡ is_success (foreseen old entry bytes).status)
answered-codes old new entry bytes held items (Ok completion) answers = answered-code old new entry bytes completion answers.returned answers.given
answered-codes old new entry bytes held items (Err halt) answers = tt
