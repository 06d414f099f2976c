use Rattle.std.proofs.Common.{◌≡◌, ℕ, drop}
use Rattle.drive_survey.specs.BlockRecords.{notes, slot_after, slot_in}
use Rattle.drive_survey.proofs.clearing.block_records.note_each.Given as goal

abbrev pub invariant-loop-found : goal.invariant-loop-found
invariant-loop-found l =
    (block sequence : ℕ) → slot_after notes block sequence (slot_in l.blocks block sequence) (drop l.found-index l.own) ≡ slot_after notes block sequence (slot_in l.fn.blocks block sequence) l.own
