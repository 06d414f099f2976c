use Rattle.std.proofs.Common.{ℕ, ◌∙◌, List, length, slice_index, refl, sym, ap}
use Rattle.std.proofs.lemmas.Grind.{get_or_default_zero}
use Rattle.file_drive.proofs.PartLaws.{words-at, words-put}
use Rattle.file_drive.proofs.words.put_in_table.Goals as goal

pub put_word-requires-clause-known : goal.put_word-requires-clause-known
put_word-requires-clause-known g c =
    let words = c.args.words.now.items in
    let n = length words in
    sym (words-at (g.F.FileBytes.seen c.args.file.now) c.args.at n c.args.index c.requires.in_range)
    ∙ ap (λ (ws : List ℕ). slice_index ws c.args.index) c.requires.known
    ∙ sym (c.index.ensures ∙ get_or_default_zero words c.args.index c.index.result.now c.requires.in_range)

pub returns-clause-known : goal.returns-clause-known
returns-clause-known g c =
    rw (words-put c.args.at (length c.args.words.now.items) c.args.index c.args.word (g.F.FileBytes.seen c.args.file.now) (g.F.FileBytes.seen c.put_word.new.file) c.requires.in_range c.put_word.ensures.beside c.in_ok-put_word.ensures.ok, c.requires.known) refl
