use Rattle.std.proofs.Common.{◌≡◌, ◌∙◌, sym, ap, arith, true, false, List, Option}
use Rattle.drive_rescue.specs.declared.table.Slot.{Slot}
use Rattle.drive_rescue.specs.Notes.{is_as_new, slot_at}
use Rattle.drive_rescue.proofs.NoteLaws.{noted-new, noted-none, noted-old}
use Rattle.drive_rescue.proofs.table.note.Goals as goal

pub returns-then-block-ge-MOST_BLOCKS : goal.returns-then-block-ge-MOST_BLOCKS
returns-then-block-ge-MOST_BLOCKS c rs r is of notes = noted-none rs r c.args.table.now.items notes (omega (arith, is, c.if-block-ge-MOST_BLOCKS.true))

pub returns-then-is_as_new : goal.returns-then-is_as_new
returns-then-is_as_new c rs r is of notes =
    let taken : is_as_new (slot_at c.extend.new.table.items c.args.block) c.args.found ≡ true =
    sym (c.is_as_new.ensures ∙ ap (λ (s : Option Slot). is_as_new s c.args.found) (c.slot_at.ensures ∙ ap (λ (xs : List (Option Slot)). slot_at xs c.args.block) c.deref.ensures.value)) ∙ c.if-is_as_new.true in
    noted-old rs r c.args.table.now.items c.extend.new.table.items c.args.block c.args.found is of notes c.in_ok-extend.ensures.slots taken

pub returns : goal.returns
returns c rs r is of notes =
    let other : is_as_new (slot_at c.extend.new.table.items c.args.block) c.args.found ≡ false =
    sym (c.is_as_new.ensures ∙ ap (λ (s : Option Slot). is_as_new s c.args.found) (c.slot_at.ensures ∙ ap (λ (xs : List (Option Slot)). slot_at xs c.args.block) c.deref.ensures.value)) ∙ c.if-is_as_new.false in
    noted-new rs r c.args.table.now.items c.extend.new.table.items c.args.block c.args.found is of notes c.in_ok-extend.ensures.slots other (omega (arith, c.in_ok-extend.ensures.long))
