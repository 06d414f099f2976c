use Rattle.std.proofs.Common.{◌≡◌, ◌<◌, ◌^◌, [], ◌∷◌, true, refl, arith}
use Rattle.std.specs.Prelude.{decimal, nat_lt}
use Rattle.std.proofs.lemmas.Bool.Decides.{nat_tests}
use Rattle.hex.specs.Hex.{encode_lower}
use Rattle.disk_files.proofs.DataLaws.{data_of-encode_lower}
use Rattle.disk_files.proofs.GrammarLaws.{IsBytes-one, NoSpace-decimal, NoSpace-encode_lower, byte_of-encode_lower, number_of-decimal, one_word, three_words, two_words}
use Rattle.disk_files.proofs.laws.trace_line_again.Goals as goal

pub returns : goal.returns
returns c = record {
  read = λ first blocks p q.
      rw (two_words (decimal first) (decimal blocks) (NoSpace-decimal first p) (NoSpace-decimal blocks q), number_of-decimal first p, number_of-decimal blocks q) refl;
  fill = λ first blocks byte p q r.
      rw (three_words (decimal first) (decimal blocks) (encode_lower (byte ∷ [])) (NoSpace-decimal first p) (NoSpace-decimal blocks q) (NoSpace-encode_lower (byte ∷ []) (IsBytes-one byte r)), number_of-decimal first p, number_of-decimal blocks q, byte_of-encode_lower byte r) refl;
  write = λ first bytes p fits some.
      rw (two_words (decimal first) (encode_lower bytes) (NoSpace-decimal first p) (NoSpace-encode_lower bytes fits), number_of-decimal first p, data_of-encode_lower bytes fits some) refl;
  trim = λ first blocks p q.
      rw (two_words (decimal first) (decimal blocks) (NoSpace-decimal first p) (NoSpace-decimal blocks q), number_of-decimal first p, number_of-decimal blocks q) refl;
  idle = λ turns few.
      let small : turns < 2 ^ 64 = omega (arith, few) in
      let below : nat_lt turns (2 ^ 32) ≡ true = grind (arith, nat_tests) in
      rw (one_word (decimal turns) (NoSpace-decimal turns small), number_of-decimal turns small, below) refl;
  grow = λ blocks p.
      rw (one_word (decimal blocks) (NoSpace-decimal blocks p), number_of-decimal blocks p) refl;
  remount = refl;
}
