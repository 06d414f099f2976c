use Rattle.std.proofs.Common.{◌≡◌, ◌∷◌, refl, arith}
use Rattle.disk_files.specs.Words.{words_of}
use Rattle.disk_files.proofs.WordLaws.{length-rest}
use Rattle.disk_files.proofs.trace_line.parse_over.Goals as goal

pub returns-then-eq-clause-memory : goal.returns-then-eq-clause-memory
returns-then-eq-clause-memory c = λ e.
    let line = c.args.line.now in
    let name = c.split_word.result.0.now in
    let words = c.in-Some.words.now in
    let split : words_of line ≡ name ∷ words_of words = rw (c.split_word.ensures, c.in-Some.is) refl in
    omega (arith, length-rest line name words split, c.write_line.ensures.memory e)
