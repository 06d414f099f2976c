use Rattle.std.proofs.Common.{◌≡◌, ◌∙◌, ap, refl, sym, rules}
use Rattle.drive_journal.specs.Journaling.{changed_data_in, changed_entry_in}
use Rattle.drive_journal.proofs.PartLaws.{err-so}
use Rattle.drive_journal.proofs.JournalingLaws.{answers-stopped, shown-behind, shown-cut, shown-done, shown-memory, shown-plain, shown-whole, renewed-before}
use Rattle.drive_journal.proofs.journaling.Journaling.answer.Goals as goal

pub returns-then-stopped : goal.returns-then-stopped
returns-then-stopped g c =
    answers-stopped c.args.self.now c.args.entry.now c.args.bytes.now c.args.into.now.items (sym c.if-stopped.ensures.value) c.if-stopped.ensures.lawful (rw c.self.view_is at c.self.invariant.0)

pub returns-then-not-will_change : goal.returns-then-not-will_change
returns-then-not-will_change g c =
    let same = err-so c.answer.result (c.answer.new.self ≡ c.self.inside.device) (g.D.Device.drive c.answer.new.self ≡ g.D.Device.drive c.self.inside.device) (λ e. ap g.D.Device.drive e) c.answer.ensures.kept in
    rw (← c.self.view_is)
    (shown-plain c.self.inside.loss (g.D.Device.drive c.self.inside.device) ((g.D.Foreseeing.foreseen c.self.inside.device (changed_entry_in c.self.inside.change.items) (changed_data_in c.self.inside.change.items)).zones) (g.S.ChangeStore.held c.self.inside.store) c.self.inside.sum c.args.entry.now c.args.bytes.now c.args.into.now.items (search rules) (rw (← c.self.view_is) at c.if-stopped.ensures.value) (rw (← c.self.view_is) at c.if-stopped.ensures.lawful) c.self.invariant.0 (g.D.Device.drive c.answer.new.self) ((g.D.Foreseeing.foreseen c.answer.new.self (changed_entry_in c.self.inside.change.items) (changed_data_in c.self.inside.change.items)).zones) c.answer.new.into.items c.answer.result (g.D.Foreseeing.foreseen c.self.inside.device c.args.entry.now c.args.bytes.now) c.if-not-will_change.ensures.value
    c.answer.ensures.lawful c.answer.ensures.gives c.answer.ensures.as_foreseen same)

pub invariant_of-self : goal.invariant_of-self
invariant_of-self g c = ((returns-then-not-will_change g c).kept, c.self.invariant.1)

pub renew-requires : goal.renew-requires
renew-requires g c = (c.self.inside.sum, shown-whole c.self.inside.loss (g.D.Device.drive c.self.inside.device) ((g.D.Foreseeing.foreseen c.self.inside.device (changed_entry_in c.self.inside.change.items) (changed_data_in c.self.inside.change.items)).zones) (g.S.ChangeStore.held c.self.inside.store) c.self.inside.sum c.args.entry.now c.args.bytes.now c.args.into.now.items (search rules) (rw (← c.self.view_is) at c.if-stopped.ensures.value) (rw (← c.self.view_is) at c.if-stopped.ensures.lawful) c.self.invariant.0)

-- there is no memory for the change
pub returns-in_default : goal.returns-in_default
returns-in_default g c =
    rw (← c.self.view_is, c.make_ready.ensures.device)
    (shown-memory c.self.inside.loss (g.D.Device.drive c.self.inside.device) ((g.D.Foreseeing.foreseen c.self.inside.device (changed_entry_in c.self.inside.change.items) (changed_data_in c.self.inside.change.items)).zones) (g.S.ChangeStore.held c.self.inside.store) c.self.inside.sum c.args.entry.now c.args.bytes.now c.args.into.now.items (search rules) (rw (← c.self.view_is) at c.if-stopped.ensures.value) (rw (← c.self.view_is) at c.if-stopped.ensures.lawful) c.self.invariant.0 (g.S.ChangeStore.held c.renew.new.self) c.sum_before-self-inside.result (g.D.Foreseeing.foreseen c.self.inside.device c.args.entry.now c.args.bytes.now) c.if-not-will_change.ensures.value (c.if-not-will_change.ensures.can refl) (renewed-before (g.D.Device.drive c.self.inside.device) (g.S.ChangeStore.held c.self.inside.store) (g.S.ChangeStore.held c.renew.new.self) c.self.inside.sum c.sum_before-self-inside.result c.renew.result c.renew.ensures.anew c.renew.ensures.same c.sum_before-self-inside.ensures) ((g.D.Foreseeing.foreseen c.self.inside.device (changed_entry_in c.make_ready.new.room.items) (changed_data_in c.make_ready.new.room.items)).zones))

pub invariant_of-self-in_default : goal.invariant_of-self-in_default
invariant_of-self-in_default g c = ((returns-in_default g c).kept, λ lost. c.renew.ensures.failed ∙ c.self.invariant.1 lost)

-- the store failed
pub returns-in_default-write_change : goal.returns-in_default-write_change
returns-in_default-write_change g c =
    rw (← c.self.view_is, c.make_ready.ensures.device)
    (shown-cut c.self.inside.loss (g.D.Device.drive c.self.inside.device) ((g.D.Foreseeing.foreseen c.self.inside.device (changed_entry_in c.self.inside.change.items) (changed_data_in c.self.inside.change.items)).zones) (g.S.ChangeStore.held c.self.inside.store) c.self.inside.sum c.args.entry.now c.args.bytes.now c.args.into.now.items (search rules) (rw (← c.self.view_is) at c.if-stopped.ensures.value) (rw (← c.self.view_is) at c.if-stopped.ensures.lawful) c.self.invariant.0 (g.S.ChangeStore.held c.renew.new.self) c.sum_before-self-inside.result (g.D.Foreseeing.foreseen c.self.inside.device c.args.entry.now c.args.bytes.now) c.if-not-will_change.ensures.value (c.if-not-will_change.ensures.can refl) (renewed-before (g.D.Device.drive c.self.inside.device) (g.S.ChangeStore.held c.self.inside.store) (g.S.ChangeStore.held c.renew.new.self) c.self.inside.sum c.sum_before-self-inside.result c.renew.result c.renew.ensures.anew c.renew.ensures.same c.sum_before-self-inside.ensures) ((g.D.Foreseeing.foreseen c.self.inside.device (changed_entry_in c.make_ready.new.room.items) (changed_data_in c.make_ready.new.room.items)).zones) (g.S.ChangeStore.held c.write_change.new.store) c.written_of-written.result.now c.written_of-written.ensures c.in_default-write_change.ensures.err c.write_change.ensures.known)

pub invariant_of-self-in_default-write_change : goal.invariant_of-self-in_default-write_change
invariant_of-self-in_default-write_change g c = ((returns-in_default-write_change g c).kept, λ lost. c.in_default-write_change.ensures.failed)

-- the change was written, and the command done
pub returns-in-Ok-answer : goal.returns-in-Ok-answer
returns-in-Ok-answer g c =
    rw (← c.self.view_is)
    (shown-done c.self.inside.loss (g.D.Device.drive c.self.inside.device) ((g.D.Foreseeing.foreseen c.self.inside.device (changed_entry_in c.self.inside.change.items) (changed_data_in c.self.inside.change.items)).zones) (g.S.ChangeStore.held c.self.inside.store) c.self.inside.sum c.args.entry.now c.args.bytes.now c.args.into.now.items (search rules) (rw (← c.self.view_is) at c.if-stopped.ensures.value) (rw (← c.self.view_is) at c.if-stopped.ensures.lawful) c.self.invariant.0 (g.S.ChangeStore.held c.renew.new.self) c.sum_before-self-inside.result (g.D.Foreseeing.foreseen c.self.inside.device c.args.entry.now c.args.bytes.now) c.if-not-will_change.ensures.value (c.if-not-will_change.ensures.can refl) (renewed-before (g.D.Device.drive c.self.inside.device) (g.S.ChangeStore.held c.self.inside.store) (g.S.ChangeStore.held c.renew.new.self) c.self.inside.sum c.sum_before-self-inside.result c.renew.result c.renew.ensures.anew c.renew.ensures.same c.sum_before-self-inside.ensures) (g.D.Device.drive c.answer-2.new.self) ((g.D.Foreseeing.foreseen c.answer-2.new.self (changed_entry_in c.make_ready.new.room.items) (changed_data_in c.make_ready.new.room.items)).zones) (g.S.ChangeStore.held c.write_change.new.store) c.written_of-written.result.now c.in-Ok-answer.completion c.answer-2.new.into.items c.in-Ok-write_change.next c.written_of-written.ensures
    c.in-Ok-write_change.ensures.ok c.in-Ok-write_change.ensures.next c.write_change.ensures.known c.answer-2.ensures.lawful (rw c.make_ready.ensures.device at c.in-Ok-answer.ensures.gives) (rw c.make_ready.ensures.device at c.in-Ok-answer.ensures.as_foreseen))

pub invariant_of-self-in-Ok-answer : goal.invariant_of-self-in-Ok-answer
invariant_of-self-in-Ok-answer g c = ((returns-in-Ok-answer g c).kept, λ lost. c.in-Ok-write_change.ensures.as_before ∙ c.renew.ensures.failed ∙ c.self.invariant.1 lost)

-- the change was written, and there is no memory for the command
pub returns-in-Err : goal.returns-in-Err
returns-in-Err g c =
    let device = c.in-Err.ensures.kept ∙ c.make_ready.ensures.device in
    rw (← c.self.view_is, device, c.fail.ensures.held)
    (shown-behind c.self.inside.loss (g.D.Device.drive c.self.inside.device) ((g.D.Foreseeing.foreseen c.self.inside.device (changed_entry_in c.self.inside.change.items) (changed_data_in c.self.inside.change.items)).zones) (g.S.ChangeStore.held c.self.inside.store) c.self.inside.sum c.args.entry.now c.args.bytes.now c.args.into.now.items (search rules) (rw (← c.self.view_is) at c.if-stopped.ensures.value) (rw (← c.self.view_is) at c.if-stopped.ensures.lawful) c.self.invariant.0 (g.S.ChangeStore.held c.renew.new.self) c.sum_before-self-inside.result (g.D.Foreseeing.foreseen c.self.inside.device c.args.entry.now c.args.bytes.now) c.if-not-will_change.ensures.value (c.if-not-will_change.ensures.can refl) (renewed-before (g.D.Device.drive c.self.inside.device) (g.S.ChangeStore.held c.self.inside.store) (g.S.ChangeStore.held c.renew.new.self) c.self.inside.sum c.sum_before-self-inside.result c.renew.result c.renew.ensures.anew c.renew.ensures.same c.sum_before-self-inside.ensures) (g.D.Foreseeing.foreseen c.self.inside.device (changed_entry_in c.keep.new.room.items) (changed_data_in c.keep.new.room.items)) (g.S.ChangeStore.held c.write_change.new.store) c.written_of-written.result.now c.keep.new.room.items c.in-Err.field-0 c.answer-2.new.into.items c.in-Ok-write_change.next c.written_of-written.ensures
    c.in-Ok-write_change.ensures.ok c.write_change.ensures.known c.keep.ensures (rw (device, c.make_ready.ensures.device) at c.in-Err.ensures.gives)
    (λ same_entry same_beside. rw (same_entry, same_beside) (g.met.D.Foreseeing.same_data c.self.inside.device c.args.entry.now c.args.bytes.now)))

pub invariant_of-self-in-Err : goal.invariant_of-self-in-Err
invariant_of-self-in-Err g c = ((returns-in-Err g c).kept, λ lost. c.fail.ensures.failed)
