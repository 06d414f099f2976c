use Rattle.std.proofs.Common.{rules, ◌≡◌, ◌∙◌, None, IsTrue, false, length, map, sym, ap}
use Rattle.file_drive.specs.Tables.{next_entries, word_of}
use Rattle.file_drive.proofs.ApartLaws.{next-none}
use Rattle.file_drive.proofs.KeptLaws.{kept-later, other-kept, other-places, other-served, usable-owned}
use Rattle.file_drive.proofs.OutLaws.{given-up, out-durable, out-places, out-served, out-sure, still-owned}
use Rattle.file_drive.proofs.ServedLaws.{length-other, length-safe}
use Rattle.file_drive.proofs.zones.FileZones.write_other.Goals as goal

pub write_words-written-requires-clause-count : goal.write_words-written-requires-clause-count
write_words-written-requires-clause-count g c =
    let inside = c.self.inside in
    length-other inside.geometry (g.F.FileBytes.seen inside.file) inside.entries.items inside.live inside.flushed _ c.self.invariant.4
    ∙ sym (ap length c.deref.ensures.value ∙ c.self.invariant.1)

pub write_words-written-requires-clause-flushed : goal.write_words-written-requires-clause-flushed
write_words-written-requires-clause-flushed g c =
    let inside = c.self.inside in
    rw (c.deref.ensures.value, c.deref-2.ensures.value)
    (length-safe inside.geometry (g.F.FileBytes.seen inside.file) inside.entries.items inside.live inside.flushed _ c.self.invariant.4 ∙ sym c.self.invariant.1)

pub invariant_of-self : goal.invariant_of-self
invariant_of-self g c =
    let held = c.self.invariant in
    let kept = other-kept g.F.FileBytes g.S.System c.self.inside c.self.invariant c.if-self.false c.write_words-written.new.file c.at_table-at.result c.deref.result.now c.deref.ensures.value c.write_words-written.ensures.beside c.write_words-written.ensures.leaves c.at_table-at.ensures c.write_words-written.new.words.items in
    let served = other-served g.F.FileBytes g.S.System c.self.inside c.self.invariant c.if-self.false c.write_words-written.new.file c.at_table-at.result c.deref.result.now c.deref.ensures.value c.write_words-written.ensures.beside c.write_words-written.ensures.leaves c.at_table-at.ensures c.write_words-written.new.words.items c.write_words-written.ensures.known in
    (held.0, held.1, held.2, held.3, served, held.5, λ e. absurd (cc e), kept.all, held.8, λ e. absurd (cc e), usable-owned g.F.FileBytes g.S.System c.self.inside c.self.invariant _ c.if-self.false c.write_words-written.new.file c.write_words-written.ensures.usable)

pub returns-then-is_err-clause-zones : goal.returns-then-is_err-clause-zones
returns-then-is_err-clause-zones g c = rw (← c.self.view_is) (other-places g.F.FileBytes g.S.System c.self.inside c.self.invariant c.if-self.false c.write_words-written.new.file c.at_table-at.result c.deref.result.now c.deref.ensures.value c.write_words-written.ensures.beside c.write_words-written.ensures.leaves c.at_table-at.ensures)

pub returns-then-is_err-clause-durable : goal.returns-then-is_err-clause-durable
returns-then-is_err-clause-durable g c = rw (← c.self.view_is) (other-kept g.F.FileBytes g.S.System c.self.inside c.self.invariant c.if-self.false c.write_words-written.new.file c.at_table-at.result c.deref.result.now c.deref.ensures.value c.write_words-written.ensures.beside c.write_words-written.ensures.leaves c.at_table-at.ensures c.write_words-written.new.words.items).same

pub sync_file-requires-clause-named : goal.sync_file-requires-clause-named
sync_file-requires-clause-named g c =
    let served = other-served g.F.FileBytes g.S.System c.self.inside c.self.invariant c.if-self.false c.write_words-written.new.file c.at_table-at.result c.deref.result.now c.deref.ensures.value c.write_words-written.ensures.beside c.write_words-written.ensures.leaves c.at_table-at.ensures c.write_words-written.new.words.items c.write_words-written.ensures.known in
    served.boot_is

pub invariant_of-self-in-Ok : goal.invariant_of-self-in-Ok
invariant_of-self-in-Ok g c =
    let held = c.self.invariant in
    let kept = other-kept g.F.FileBytes g.S.System c.self.inside c.self.invariant c.if-self.false c.write_words-written.new.file c.at_table-at.result c.deref.result.now c.deref.ensures.value c.write_words-written.ensures.beside c.write_words-written.ensures.leaves c.at_table-at.ensures c.write_words-written.new.words.items in
    let served = other-served g.F.FileBytes g.S.System c.self.inside c.self.invariant c.if-self.false c.write_words-written.new.file c.at_table-at.result c.deref.result.now c.deref.ensures.value c.write_words-written.ensures.beside c.write_words-written.ensures.leaves c.at_table-at.ensures c.write_words-written.new.words.items c.write_words-written.ensures.known in
    let later = kept-later g.F.FileBytes c.self.inside c.write_words-written.new.file c.sync_file.new.file c.write_words-written.new.words.items c.in-Ok.ensures.seen c.in-Ok.ensures.left kept in
    let usable : IsTrue (g.F.FileBytes.is_usable c.sync_file.new.file) = search rules in
    let owned = still-owned g.F.FileBytes.may_leave g.F.FileBytes.may_show g.F.FileBytes.is_usable g.F.FileBytes.is_stuck c.self.inside.geometry g.S.System.boot c.sync_file.new.named _ c.sync_file.new.file usable
    (c.in-Ok.ensures.same ∙ held.10.owned (held.6 c.if-self.false).0) in
    (held.0, held.1, held.2, held.3, rw (c.in-Ok.ensures.seen, c.in-Ok.ensures.same) served, held.5, λ e. (usable, later.promise), later.all, held.8, held.9, owned)

pub invariant_of-self-in-Err : goal.invariant_of-self-in-Err
invariant_of-self-in-Err g c =
    let held = c.self.invariant in
    let kept = other-kept g.F.FileBytes g.S.System c.self.inside c.self.invariant c.if-self.false c.write_words-written.new.file c.at_table-at.result c.deref.result.now c.deref.ensures.value c.write_words-written.ensures.beside c.write_words-written.ensures.leaves c.at_table-at.ensures c.write_words-written.new.words.items in
    let served = other-served g.F.FileBytes g.S.System c.self.inside c.self.invariant c.if-self.false c.write_words-written.new.file c.at_table-at.result c.deref.result.now c.deref.ensures.value c.write_words-written.ensures.beside c.write_words-written.ensures.leaves c.at_table-at.ensures c.write_words-written.new.words.items c.write_words-written.ensures.known in
    let same = out-sure c.self.inside.geometry (g.F.FileBytes.seen c.write_words-written.new.file) (g.F.FileBytes.seen c.sync_file.new.file) c.sync_file.ensures.beside c.self.inside.safe.items c.write_words-written.new.words.items c.self.inside.unsure (held.9 c.if-self.false)
    (length-safe c.self.inside.geometry (g.F.FileBytes.seen c.self.inside.file) c.self.inside.entries.items c.self.inside.live c.self.inside.flushed _ held.4) held.5.within in
    let lost : g.F.FileBytes.is_usable c.sync_file.new.file ≡ false = c.in-Err.ensures.usable in
    let served' = out-served c.self.inside.geometry (g.F.FileBytes.seen c.write_words-written.new.file) (g.F.FileBytes.seen c.sync_file.new.file) c.sync_file.ensures.beside c.sync_file.new.named c.self.inside.entries.items c.self.inside.live c.self.inside.flushed _ c.sync_file.ensures.named served in
    let all = out-durable c.self.inside.geometry g.F.FileBytes.may_leave g.F.FileBytes.may_leave c.write_words-written.new.file c.sync_file.new.file _ _ same c.sync_file.ensures.leaves kept.all in
    let owned = given-up g.F.FileBytes.may_leave g.F.FileBytes.may_show g.F.FileBytes.is_usable g.F.FileBytes.is_stuck c.self.inside.geometry g.S.System.boot c.sync_file.new.named _ c.write_words-written.new.file c.sync_file.new.file _ same lost c.in-Err.ensures.out kept.all in
    (held.0, held.1, held.2, held.3, served', held.5, λ e. absurd (cc e), all, held.8, λ e. absurd (cc e), owned)

pub returns-in-Ok-clause-zones : goal.returns-in-Ok-clause-zones
returns-in-Ok-clause-zones g c = rw (← c.self.view_is, c.in-Ok.ensures.seen) (other-places g.F.FileBytes g.S.System c.self.inside c.self.invariant c.if-self.false c.write_words-written.new.file c.at_table-at.result c.deref.result.now c.deref.ensures.value c.write_words-written.ensures.beside c.write_words-written.ensures.leaves c.at_table-at.ensures)

pub returns-in-Ok-clause-ready : goal.returns-in-Ok-clause-ready
returns-in-Ok-clause-ready g c =
    let served = other-served g.F.FileBytes g.S.System c.self.inside c.self.invariant c.if-self.false c.write_words-written.new.file c.at_table-at.result c.deref.result.now c.deref.ensures.value c.write_words-written.ensures.beside c.write_words-written.ensures.leaves c.at_table-at.ensures c.write_words-written.new.words.items c.write_words-written.ensures.known in
    let put : c.write_words-written.new.words.items ≡ map word_of (next_entries None c.deref-2.result.now c.deref.result.now) = search rules in
    record {
      synced = rw c.in-Ok.ensures.seen c.in-Ok.ensures.durable;
      words = rw (c.in-Ok.ensures.seen, served.flushed_is) (served.other_words ∙ put ∙ ap (map word_of) (next-none c.deref-2.result.now c.deref.result.now ∙ c.deref.ensures.value));
    }

pub returns-in-Ok-clause-durable : goal.returns-in-Ok-clause-durable
returns-in-Ok-clause-durable g c = rw (← c.self.view_is, c.in-Ok.ensures.seen) (other-kept g.F.FileBytes g.S.System c.self.inside c.self.invariant c.if-self.false c.write_words-written.new.file c.at_table-at.result c.deref.result.now c.deref.ensures.value c.write_words-written.ensures.beside c.write_words-written.ensures.leaves c.at_table-at.ensures c.write_words-written.new.words.items).same

pub returns-in-Err-clause-zones : goal.returns-in-Err-clause-zones
returns-in-Err-clause-zones g c = rw (← c.self.view_is) (λ place written low few.
    out-places c.self.inside.geometry (g.F.FileBytes.seen c.write_words-written.new.file) (g.F.FileBytes.seen c.sync_file.new.file) c.sync_file.ensures.beside place written low few
    ∙ other-places g.F.FileBytes g.S.System c.self.inside c.self.invariant c.if-self.false c.write_words-written.new.file c.at_table-at.result c.deref.result.now c.deref.ensures.value c.write_words-written.ensures.beside c.write_words-written.ensures.leaves c.at_table-at.ensures place written low few)

pub returns-in-Err-clause-durable : goal.returns-in-Err-clause-durable
returns-in-Err-clause-durable g c =
    let held = c.self.invariant in
    let kept = other-kept g.F.FileBytes g.S.System c.self.inside c.self.invariant c.if-self.false c.write_words-written.new.file c.at_table-at.result c.deref.result.now c.deref.ensures.value c.write_words-written.ensures.beside c.write_words-written.ensures.leaves c.at_table-at.ensures c.write_words-written.new.words.items in
    let same = out-sure c.self.inside.geometry (g.F.FileBytes.seen c.write_words-written.new.file) (g.F.FileBytes.seen c.sync_file.new.file) c.sync_file.ensures.beside c.self.inside.safe.items c.write_words-written.new.words.items c.self.inside.unsure (held.9 c.if-self.false)
    (length-safe c.self.inside.geometry (g.F.FileBytes.seen c.self.inside.file) c.self.inside.entries.items c.self.inside.live c.self.inside.flushed _ held.4) held.5.within in
    rw (← c.self.view_is) (same ∙ kept.same)
