use Rattle.std.proofs.Common.{◌≡◌, ◌∷◌, Err, refl, sym, ap, ◌∙◌, arith}
use Rattle.disk_files.specs.Words.{words_of}
use Rattle.disk_files.specs.declared.data.ParseFault.{ParseFault}
use Rattle.disk_files.specs.declared.data.ParseFault.TheVariants.{Grammar, Memory}
use Rattle.disk_files.proofs.WordLaws.{length-rest}
use Rattle.disk_files.proofs.WriteLaws.{write-none, write-some}
use Rattle.disk_files.proofs.trace_line.write_line.Goals as goal

pub returns-in_err-decode_data-clause-memory : goal.returns-in_err-decode_data-clause-memory
returns-in_err-decode_data-clause-memory c = λ e.
    let words = c.args.words.now in
    let first = c.split_word.result.0.now in
    let digits = c.in-Some.digits.now in
    let split : words_of words ≡ first ∷ words_of digits = rw (c.split_word.ensures, c.in-Some.is) refl in
    let fault = rw e at c.from_residual.ensures.1 in
    let refused : c.decode_data.result ≡ Err Memory = c.in_err-decode_data.was ∙ ap (λ (f : ParseFault). Err f) (sym fault) in
    omega (arith, length-rest words first digits split, c.decode_data.ensures.memory refused)

pub returns-in_err-decode_data-clause-grammar : goal.returns-in_err-decode_data-clause-grammar
returns-in_err-decode_data-clause-grammar c = λ e.
    let words = c.args.words.now in
    let first = c.split_word.result.0.now in
    let digits = c.in-Some.digits.now in
    let split : words_of words ≡ first ∷ words_of digits = rw (c.split_word.ensures, c.in-Some.is) refl in
    let fault = rw e at c.from_residual.ensures.1 in
    let refused : c.decode_data.result ≡ Err Grammar = c.in_err-decode_data.was ∙ ap (λ (f : ParseFault). Err f) (sym fault) in
    rw split (write-none first digits (c.decode_data.ensures.grammar refused))

pub returns-clause-ok : goal.returns-clause-ok
returns-clause-ok c =
    let words = c.args.words.now in
    let first = c.split_word.result.0.now in
    let digits = c.in-Some.digits.now in
    let split : words_of words ≡ first ∷ words_of digits = rw (c.split_word.ensures, c.in-Some.is) refl in
    rw split (write-some first digits c.decode_data.new.bytes.items c.in-Some-number.first (sym c.in-Some-number.ensures) c.in_ok-decode_data.ensures.ok)
