use Rattle.std.proofs.Common.{rules, ◌≡◌, ◌-◌, ◌∙◌, Some, length, map, refl, sym, arith}
use Rattle.std.specs.Int.{w64, to_le_bytes}
use Rattle.sqlite_disk.specs.Disk.{Holds}
use Rattle.file_drive.specs.Layout.{at_live}
use Rattle.file_drive.specs.Tables.{next_entries, word_of}
use Rattle.file_drive.proofs.ApartLaws.{apart-next, length-next, summed-next, within-next}
use Rattle.file_drive.proofs.KeptLaws.{pick-kept, usable-owned}
use Rattle.file_drive.proofs.PartLaws.{word-held}
use Rattle.file_drive.proofs.ServedLaws.{length-safe, length-spare, served-switch, switch-same}
use Rattle.file_drive.proofs.zones.FileZones.pick_spare.Goals as goal

pub returns-then-is_err-clause-durable : goal.returns-then-is_err-clause-durable
returns-then-is_err-clause-durable g c = rw (← c.self.view_is) (pick-kept g.F.FileBytes g.S.System c.self.inside c.self.invariant c.if-self.false c.write_word.new.self c.write_word.ensures.others c.write_word.ensures.leaves).same

pub invariant_of-self : goal.invariant_of-self
invariant_of-self g c =
    let held = c.self.invariant in
    let same : g.F.FileBytes.seen c.write_word.new.self ≡ g.F.FileBytes.seen c.self.inside.file = search rules in
    let kept = pick-kept g.F.FileBytes g.S.System c.self.inside c.self.invariant c.if-self.false c.write_word.new.self c.write_word.ensures.others c.write_word.ensures.leaves in
    (held.0, held.1, held.2, held.3, rw same held.4, held.5, λ e. absurd (cc e), kept.all, held.8, λ e. absurd (cc e), usable-owned g.F.FileBytes g.S.System c.self.inside c.self.invariant _ c.if-self.false c.write_word.new.self c.write_word.ensures.usable)

pub invariant_of-self-2 : goal.invariant_of-self-2
invariant_of-self-2 g c =
    let put : Holds (g.F.FileBytes.seen c.write_word.new.self) at_live (to_le_bytes w64 (1 - c.self.inside.live)) = search rules in
    let inside = c.self.inside in
    let held = c.self.invariant in
    let served = held.6 c.if-self.false in
    let spared = rw (← c.self.view_is) at c.requires in
    let next = next_entries (Some c.args.action) inside.safe.items inside.entries.items in
    let many : length inside.safe.items ≡ length inside.entries.items =
    length-safe inside.geometry (g.F.FileBytes.seen inside.file) inside.entries.items inside.live inside.flushed _ held.4 ∙ sym held.1 in
    let spare : inside.spare.items ≡ map word_of next = sym held.4.spare_words ∙ rw held.4.live_is at spared in
    let is = word-held (g.F.FileBytes.seen c.write_word.new.self) at_live (1 - inside.live) (omega arith) put in
    let switched = served-switch inside.geometry g.F.FileBytes.seen g.F.FileBytes.may_leave inside.file c.write_word.new.self inside.entries.items inside.live inside.flushed _ held.4 held.5.within served.1 c.write_word.ensures.others c.write_word.ensures.leaves next spare
    (summed-next inside.geometry (g.F.FileBytes.seen inside.file) (Some c.args.action) inside.safe.items inside.entries.items many held.1 held.2 held.4.summed) is in
    let kept = pick-kept g.F.FileBytes g.S.System c.self.inside c.self.invariant c.if-self.false c.write_word.new.self c.write_word.ensures.others c.write_word.ensures.leaves in (
      held.0,
      rw (c.send_to_each.ensures, c.deref-2.ensures.value) (length-next (Some c.args.action) inside.safe.items inside.entries.items ∙ held.1),
      rw (c.send_to_each.ensures, c.deref-2.ensures.value) (within-next inside.geometry (Some c.args.action) inside.safe.items inside.entries.items held.2),
      rw c.deref-3.ensures.value at c.of-self-inside.ensures,
      rw (c.send_to_each.ensures, c.deref-2.ensures.value, c.note_words.ensures, c.deref.ensures.value) switched,
      held.5,
      λ e. (rw c.write_word.ensures.usable served.0, kept.promise),
      kept.all,
      rw (c.send_to_each.ensures, c.deref-2.ensures.value) (apart-next (Some c.args.action) inside.safe.items inside.entries.items many held.8),
      held.9,
      usable-owned g.F.FileBytes g.S.System c.self.inside c.self.invariant _ c.if-self.false c.write_word.new.self c.write_word.ensures.usable,
    )

pub returns-clause-zones : goal.returns-clause-zones
returns-clause-zones g c =
    let inside = c.self.inside in
    let held = c.self.invariant in
    rw (← c.self.view_is) (switch-same inside.geometry g.F.FileBytes.seen g.F.FileBytes.may_leave inside.file c.write_word.new.self inside.entries.items inside.live inside.flushed _ held.4 held.5.within (held.6 c.if-self.false).1 c.write_word.ensures.others c.write_word.ensures.leaves)

pub returns-clause-durable : goal.returns-clause-durable
returns-clause-durable g c = rw (← c.self.view_is) (pick-kept g.F.FileBytes g.S.System c.self.inside c.self.invariant c.if-self.false c.write_word.new.self c.write_word.ensures.others c.write_word.ensures.leaves).same

pub send_to_each-requires : goal.send_to_each-requires
send_to_each-requires g c =
    let inside = c.self.inside in
    let held = c.self.invariant in
    rw c.deref-2.ensures.value (length-safe inside.geometry (g.F.FileBytes.seen inside.file) inside.entries.items inside.live inside.flushed _ held.4 ∙ sym held.1)

pub returns-clause-ok : goal.returns-clause-ok
returns-clause-ok g c = rw (← c.self.view_is, c.send_to_each.ensures, c.deref-2.ensures.value) refl

pub note_words-requires : goal.note_words-requires
note_words-requires g c =
    let inside = c.self.inside in
    let held = c.self.invariant in
    rw c.deref.ensures.value (length-spare inside.geometry (g.F.FileBytes.seen inside.file) inside.entries.items inside.live inside.flushed _ held.4 ∙ sym held.1)

pub of-self-inside-requires : goal.of-self-inside-requires
of-self-inside-requires g c =
    let inside = c.self.inside in
    let held = c.self.invariant in
    rw (c.deref-3.ensures.value, c.send_to_each.ensures) (omega (arith, length-next (Some c.args.action) c.deref-2.result.now inside.entries.items, held.1, held.0.zones.1))
