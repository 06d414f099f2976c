use Rattle.std.proofs.Common.{rules, ◌≡◌, ◌+◌, ◌*◌, ◌∙◌, sym, ap, refl}
use Rattle.std.proofs.lemmas.List.{length-set}
use Rattle.zone_drive.proofs.TableLaws.{counted-back}
use Rattle.file_drive.specs.Layout.{at_table, word_in}
use Rattle.file_drive.specs.Tables.{word_of}
use Rattle.file_drive.specs.declared.entry.Entry.{Entry}
use Rattle.file_drive.proofs.ApartLaws.{apart-set}
use Rattle.file_drive.proofs.KeptLaws.{usable-owned, word-kept, word-places}
use Rattle.file_drive.proofs.ServedLaws.{live-word, served-put, within-set}
use Rattle.file_drive.proofs.zones.FileZones.put.Goals as goal

pub put_word-requires-clause-known : goal.put_word-requires-clause-known
put_word-requires-clause-known g c =
    let inside = c.self.inside in
    let held = c.self.invariant in
    let low = rw (← c.self.view_is) at c.requires.in_range in
    rw (c.at_table.ensures, c.word.ensures)
    (live-word inside.geometry (g.F.FileBytes.seen inside.file) inside.entries.items inside.live inside.flushed _ c.args.index c.index-before.result.now held.4 held.1 low
    ∙ ap word_of (sym c.index-before.ensures))

pub invariant_of-self : goal.invariant_of-self
invariant_of-self g c =
    let held = c.self.invariant in
    let same : g.F.FileBytes.seen c.put_word.new.file ≡ g.F.FileBytes.seen c.self.inside.file = search rules in
    let kept = word-kept g.F.FileBytes g.S.System c.self.inside c.self.invariant c.if-self.false c.put_word.new.file c.args.index c.at_table.result (rw (← c.self.view_is) at c.requires.in_range) c.at_table.ensures c.put_word.ensures.beside c.put_word.ensures.leaves in
    (held.0, held.1, held.2, held.3, rw same held.4, held.5, λ going. (rw c.put_word.ensures.usable (held.6 c.if-self.false).0, kept.promise), kept.all, held.8, held.9, usable-owned g.F.FileBytes g.S.System c.self.inside c.self.invariant _ c.if-self.false c.put_word.new.file c.put_word.ensures.usable)

pub returns-then-is_err-clause-durable : goal.returns-then-is_err-clause-durable
returns-then-is_err-clause-durable g c = rw (c.fail.ensures.same, ← c.self.view_is) (word-kept g.F.FileBytes g.S.System c.self.inside c.self.invariant c.if-self.false c.put_word.new.file c.args.index c.at_table.result (rw (← c.self.view_is) at c.requires.in_range) c.at_table.ensures c.put_word.ensures.beside c.put_word.ensures.leaves).same

pub follow-requires-clause-counted : goal.follow-requires-clause-counted
follow-requires-clause-counted g c =
    let inside = c.self.inside in (
      c.index-before.result.now,
      refl,
      rw c.deref.ensures.value
          (counted-back (λ (e : Entry). e.state) inside.entries.items inside.resources c.args.index c.index-before.result.now c.args.entry c.index-before.ensures c.self.invariant.3),
    )

pub invariant_of-self-2 : goal.invariant_of-self-2
invariant_of-self-2 g c =
    let inside = c.self.inside in
    let held = c.self.invariant in
    let low = rw (← c.self.view_is) at c.requires.in_range in
    let ok : word_in (g.F.FileBytes.seen c.put_word.new.file) (c.at_table.result + 8 * c.args.index) ≡ c.word-2.result = search rules in
    let is : word_in (g.F.FileBytes.seen c.put_word.new.file) (at_table inside.geometry inside.live + 8 * c.args.index) ≡ word_of c.args.entry = rw (c.at_table.ensures, c.word-2.ensures) at ok in
    let kept = word-kept g.F.FileBytes g.S.System c.self.inside c.self.invariant c.if-self.false c.put_word.new.file c.args.index c.at_table.result (rw (← c.self.view_is) at c.requires.in_range) c.at_table.ensures c.put_word.ensures.beside c.put_word.ensures.leaves in (
      held.0,
      length-set inside.entries.items c.args.index c.args.entry ∙ held.1,
      within-set inside.geometry inside.entries.items c.args.index c.args.entry held.2 (rw (← c.self.view_is) at c.requires.within),
      rw c.deref.ensures.value at c.follow.ensures,
      served-put inside.geometry (g.F.FileBytes.seen inside.file) (g.F.FileBytes.seen c.put_word.new.file) inside.entries.items inside.live inside.flushed _ c.args.index c.args.entry held.4 held.1 low (rw c.at_table.ensures at c.put_word.ensures.beside) is (rw (← c.self.view_is) at c.requires.summed),
      held.5,
      λ going. (rw c.put_word.ensures.usable (held.6 c.if-self.false).0, kept.promise),
      kept.all,
      apart-set inside.safe.items inside.entries.items c.args.index c.args.entry held.8 (rw (← c.self.view_is) at c.requires.apart),
      held.9,
      usable-owned g.F.FileBytes g.S.System c.self.inside c.self.invariant _ c.if-self.false c.put_word.new.file c.put_word.ensures.usable,
    )

pub returns-clause-zones : goal.returns-clause-zones
returns-clause-zones g c = rw (← c.self.view_is) (word-places g.F.FileBytes g.S.System c.self.inside c.self.invariant c.if-self.false c.put_word.new.file c.args.index c.at_table.result (rw (← c.self.view_is) at c.requires.in_range) c.at_table.ensures c.put_word.ensures.beside c.put_word.ensures.leaves)

pub returns-clause-durable : goal.returns-clause-durable
returns-clause-durable g c = rw (← c.self.view_is) (word-kept g.F.FileBytes g.S.System c.self.inside c.self.invariant c.if-self.false c.put_word.new.file c.args.index c.at_table.result (rw (← c.self.view_is) at c.requires.in_range) c.at_table.ensures c.put_word.ensures.beside c.put_word.ensures.leaves).same
