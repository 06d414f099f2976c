use Rattle.std.proofs.Common.{◌≡◌, ◌∙◌, ◌<◌, ◌*◌, None, length, map, sym, ap, arith}
use Rattle.file_drive.specs.Layout.{at_table}
use Rattle.std.specs.Prelude.{OnOk}
use Rattle.file_drive.specs.Tables.{next_entries, word_of}
use Rattle.file_drive.proofs.ApartLaws.{next-none}
use Rattle.file_drive.proofs.PartLaws.{length-words}
use Rattle.file_drive.proofs.TakeLaws.{follows-by, keeps-live, read-live}
use Rattle.file_drive.proofs.opening.put_live.Goals as goal

pub write_words-requires-clause-count : goal.write_words-requires-clause-count
write_words-requires-clause-count g c =
    let geometry = c.args.found.now.head.geometry in
    sym (ap length c.requires.read.tables.current) ∙ length-words (g.F.FileBytes.seen c.args.file.now) (at_table geometry c.args.found.now.tables.live) geometry.zones
    ∙ sym c.requires.count ∙ sym (ap length c.deref.ensures.value)

pub returns-clause-read : goal.returns-clause-read
returns-clause-read g c =
    let count : length c.deref.result.now ≡ c.args.found.now.head.geometry.zones = ap length c.deref.ensures.value ∙ c.requires.count in
    read-live (g.F.FileBytes.seen c.args.file.now) (g.F.FileBytes.seen c.write_words.new.file) c.args.found.now c.write_words.new.words
    (rw (c.at_table-at.ensures, count) at c.write_words.ensures.beside) (rw (c.at_table-at.ensures, count) at c.write_words.ensures.known) c.requires.read

pub returns-clause-keeps : goal.returns-clause-keeps
returns-clause-keeps g c =
    let count : length c.deref.result.now ≡ c.args.found.now.head.geometry.zones = ap length c.deref.ensures.value ∙ c.requires.count in
    keeps-live c.args.found.now.head.geometry c.args.found.now.tables.live _ _ (omega (arith, c.requires.read.tables.live_is)) (rw (c.at_table-at.ensures, count) at c.write_words.ensures.beside)

pub returns-clause-leaves : goal.returns-clause-leaves
returns-clause-leaves g c =
    let geometry = c.args.found.now.head.geometry in
    let live = c.args.found.now.tables.live in
    let count : length c.deref.result.now ≡ geometry.zones = ap length c.deref.ensures.value ∙ c.requires.count in
    let few : live < 2 = omega (arith, c.requires.read.tables.live_is) in
    follows-by geometry (at_table geometry live) (8 * geometry.zones) _ _ (λ old new beside. keeps-live geometry live old new few beside) (rw (c.at_table-at.ensures, count) at c.write_words.ensures.leaves)

pub write_words-requires-clause-flushed : goal.write_words-requires-clause-flushed
write_words-requires-clause-flushed g c =
    let geometry = c.args.found.now.head.geometry in
    rw (c.deref.ensures.value, c.deref-2.ensures.value)
    (sym (ap length c.requires.read.tables.safe) ∙ length-words (g.F.FileBytes.seen c.args.file.now) (at_table geometry c.args.found.now.tables.flushed) geometry.zones ∙ sym c.requires.count)

pub returns-clause-ok : goal.returns-clause-ok
returns-clause-ok g c =
    let put : OnOk c.write_words.result (c.write_words.new.words.items ≡ map word_of (next_entries None c.deref-2.result.now c.deref.result.now)) = c.write_words.ensures.ok in
    rw (next-none c.deref-2.result.now c.deref.result.now, c.deref.ensures.value) at put
