use Rattle.std.proofs.Common.{◌∙◌, ℕ, nat_lt, ap, List, Option}
use Rattle.drive_rescue.specs.declared.table.Slot.{Slot}
use Rattle.drive_rescue.specs.Notes.{slot_at}
use Rattle.drive_rescue.proofs.GiveLaws.{gave-more, gave-part}
use Rattle.drive_rescue.proofs.giving.give_next.Goals as goal

pub returns-in-Err-clause-err : goal.returns-in-Err-clause-err
returns-in-Err-clause-err g c =
    λ finding bytes kept gave. gave-part (g.S.Source.view c.read_shown.new.source) c.args.search.now finding c.args.rescued.now bytes c.read_shown.new.into.items c.slot_at-slot.result c.in_ok-is_lost.is_lost _ _
    (c.slot_at-slot.ensures ∙ ap (λ (xs : List (Option Slot)). slot_at xs c.args.rescued.now.blocks) c.deref.ensures.value) c.requires.few c.in_ok-is_lost.ensures.gives (rw c.deref-2.ensures.value at c.in-Err.ensures.err) kept gave

pub returns-clause-ok : goal.returns-clause-ok
returns-clause-ok g c =
    λ finding bytes kept gave. gave-more (g.S.Source.view c.read_shown.new.source) c.args.search.now finding c.args.rescued.now c.add.new.self bytes c.read_shown.new.into.items c.slot_at-slot.result c.in_ok-is_lost.is_lost _ _ _
    (c.slot_at-slot.ensures ∙ ap (λ (xs : List (Option Slot)). slot_at xs c.args.rescued.now.blocks) c.deref.ensures.value) c.requires.few c.in_ok-is_lost.ensures.gives (ap (λ (n : ℕ). nat_lt n c.args.search.now.doubt) c.newness.ensures) c.in_ok-add.ensures.blocks c.in_ok-add.ensures.lost c.in_ok-add.ensures.older (rw c.deref-2.ensures.value at c.in_default.ensures.ok) kept gave
