use Rattle.std.proofs.Common.{◌≡◌, ◌∷◌, [], Some, Err, refl, sym, ap, ◌∙◌, arith}
use Rattle.disk_files.specs.RawLine.{exact_bytes_of}
use Rattle.disk_files.specs.Words.{words_of}
use Rattle.disk_files.specs.declared.data.ParseFault.{ParseFault}
use Rattle.disk_files.specs.declared.data.ParseFault.TheVariants.{Memory}
use Rattle.disk_files.proofs.RawLaws.{length-exact_bytes_of}
use Rattle.disk_files.proofs.WordLaws.{length-two_words}
use Rattle.disk_files.proofs.raw_line.parse_raw_line.Goals as goal

pub returns-in_err-decode_data-clause-memory : goal.returns-in_err-decode_data-clause-memory
returns-in_err-decode_data-clause-memory c = λ e.
    let line = c.args.line.now in
    let word = c.split_word.result.0.now in
    let digits = c.in-Some-only_word.digits.now in
    let two : words_of line ≡ word ∷ digits ∷ [] = rw (c.split_word.ensures, c.in-Some.is, c.in-Some-only_word.ensures) refl in
    let entry : exact_bytes_of 64 word ≡ Some c.in_ok-entry.entry = rw (← c.decode_entry.ensures, c.ok_or.ensures.ok_part, c.in_ok-entry.was) refl in
    let first = length-exact_bytes_of 64 word c.in_ok-entry.entry entry in
    let fault = rw e at c.from_residual-in_err-decode_data.ensures.1 in
    let refused : c.decode_data.result ≡ Err Memory = c.in_err-decode_data.was ∙ ap (λ (f : ParseFault). Err f) (sym fault) in
    omega (arith, length-two_words line word digits two, first, c.decode_data.ensures.memory refused, c.clear.ensures.capacity)
