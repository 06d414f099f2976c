use Rattle.std.proofs.Common.{rules, ◌≡◌, ◌∙◌, length, map, refl, sym, ap}
use Rattle.file_drive.specs.Tables.{next_entries, word_of}
use Rattle.file_drive.proofs.KeptLaws.{spare-kept, spare-places, spare-served, usable-owned}
use Rattle.file_drive.proofs.ServedLaws.{length-safe, length-spare}
use Rattle.file_drive.proofs.zones.FileZones.write_spare.Goals as goal

pub write_words-written-requires-clause-count : goal.write_words-written-requires-clause-count
write_words-written-requires-clause-count g c =
    let inside = c.self.inside in
    length-spare inside.geometry (g.F.FileBytes.seen inside.file) inside.entries.items inside.live inside.flushed _ c.self.invariant.4
    ∙ sym (ap length c.deref.ensures.value ∙ c.self.invariant.1)

pub invariant_of-self : goal.invariant_of-self
invariant_of-self g c =
    let held = c.self.invariant in
    let kept = spare-kept g.F.FileBytes g.S.System c.self.inside c.self.invariant c.if-self.false c.write_words-written.new.file c.at_table-at.result c.deref.result.now c.deref.ensures.value c.write_words-written.ensures.beside c.write_words-written.ensures.leaves c.at_table-at.ensures in
    let served = spare-served g.F.FileBytes g.S.System c.self.inside c.self.invariant c.if-self.false c.write_words-written.new.file c.at_table-at.result c.deref.result.now c.deref.ensures.value c.write_words-written.ensures.beside c.write_words-written.ensures.leaves c.at_table-at.ensures c.write_words-written.new.words.items c.write_words-written.ensures.known in
    (held.0, held.1, held.2, held.3, served, held.5, λ e. absurd (cc e), kept.all, held.8, λ e. absurd (cc e), usable-owned g.F.FileBytes g.S.System c.self.inside c.self.invariant _ c.if-self.false c.write_words-written.new.file c.write_words-written.ensures.usable)

pub returns-then-is_err-clause-zones : goal.returns-then-is_err-clause-zones
returns-then-is_err-clause-zones g c = rw (← c.self.view_is) (spare-places g.F.FileBytes g.S.System c.self.inside c.self.invariant c.if-self.false c.write_words-written.new.file c.at_table-at.result c.deref.result.now c.deref.ensures.value c.write_words-written.ensures.beside c.write_words-written.ensures.leaves c.at_table-at.ensures)

pub returns-then-is_err-clause-durable : goal.returns-then-is_err-clause-durable
returns-then-is_err-clause-durable g c = rw (← c.self.view_is) (spare-kept g.F.FileBytes g.S.System c.self.inside c.self.invariant c.if-self.false c.write_words-written.new.file c.at_table-at.result c.deref.result.now c.deref.ensures.value c.write_words-written.ensures.beside c.write_words-written.ensures.leaves c.at_table-at.ensures).same

pub invariant_of-self-else-is_err : goal.invariant_of-self-else-is_err
invariant_of-self-else-is_err g c =
    let held = c.self.invariant in
    let kept = spare-kept g.F.FileBytes g.S.System c.self.inside c.self.invariant c.if-self.false c.write_words-written.new.file c.at_table-at.result c.deref.result.now c.deref.ensures.value c.write_words-written.ensures.beside c.write_words-written.ensures.leaves c.at_table-at.ensures in
    let served = spare-served g.F.FileBytes g.S.System c.self.inside c.self.invariant c.if-self.false c.write_words-written.new.file c.at_table-at.result c.deref.result.now c.deref.ensures.value c.write_words-written.ensures.beside c.write_words-written.ensures.leaves c.at_table-at.ensures c.write_words-written.new.words.items c.write_words-written.ensures.known in
    (held.0, held.1, held.2, held.3, served, held.5, λ e. (rw c.write_words-written.ensures.usable (held.6 c.if-self.false).0, kept.promise), kept.all, held.8, held.9, usable-owned g.F.FileBytes g.S.System c.self.inside c.self.invariant _ c.if-self.false c.write_words-written.new.file c.write_words-written.ensures.usable)

pub returns-clause-zones : goal.returns-clause-zones
returns-clause-zones g c = rw (← c.self.view_is) (spare-places g.F.FileBytes g.S.System c.self.inside c.self.invariant c.if-self.false c.write_words-written.new.file c.at_table-at.result c.deref.result.now c.deref.ensures.value c.write_words-written.ensures.beside c.write_words-written.ensures.leaves c.at_table-at.ensures)

pub returns-clause-spared : goal.returns-clause-spared
returns-clause-spared g c =
    let put : c.write_words-written.new.words.items ≡ map word_of (next_entries c.args.action c.deref-2.result.now c.deref.result.now) = search rules in
    let served = spare-served g.F.FileBytes g.S.System c.self.inside c.self.invariant c.if-self.false c.write_words-written.new.file c.at_table-at.result c.deref.result.now c.deref.ensures.value c.write_words-written.ensures.beside c.write_words-written.ensures.leaves c.at_table-at.ensures c.write_words-written.new.words.items c.write_words-written.ensures.known in
    rw served.live_is
    (served.spare_words ∙ put ∙ rw (c.deref.ensures.value, c.deref-2.ensures.value) refl)

pub returns-clause-durable : goal.returns-clause-durable
returns-clause-durable g c = rw (← c.self.view_is) (spare-kept g.F.FileBytes g.S.System c.self.inside c.self.invariant c.if-self.false c.write_words-written.new.file c.at_table-at.result c.deref.result.now c.deref.ensures.value c.write_words-written.ensures.beside c.write_words-written.ensures.leaves c.at_table-at.ensures).same

pub write_words-written-requires-clause-flushed : goal.write_words-written-requires-clause-flushed
write_words-written-requires-clause-flushed g c =
    let inside = c.self.inside in
    rw (c.deref.ensures.value, c.deref-2.ensures.value)
    (length-safe inside.geometry (g.F.FileBytes.seen inside.file) inside.entries.items inside.live inside.flushed _ c.self.invariant.4 ∙ sym c.self.invariant.1)
