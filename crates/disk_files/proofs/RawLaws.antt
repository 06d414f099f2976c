-- An entry is what its digits decode to.
use Rattle.std.proofs.Common.{◌≡◌, ℕ, ◌*◌, ◌/◌, ◌%◌, List, length, Some, None, inl, inr, arith}
use Rattle.std.specs.Result.{result_ok}
use Rattle.std.proofs.lemmas.Bool.{cases_eq}
use Rattle.std.proofs.lemmas.Bool.Decides.{eqb_tells, nat_tests}
use Rattle.hex.specs.Hex.{decode_sized}
use Rattle.hex.proofs.HexLemmas.{decode_sized-odd, decode_sized-other}
use Rattle.hex.proofs.Pairs.{decode_sized-pairs}
use Rattle.disk_files.specs.RawLine.{exact_bytes_of}
use Rattle.disk_files.proofs.DataLaws.{bytes_of-decoded}

-- this many bytes
pub exact_bytes_of-decoded : (count : ℕ) (word : List ℕ) → exact_bytes_of count word ≡ result_ok (decode_sized word count)
exact_bytes_of-decoded count word = elim (cases_eq (length word % 2) 1) [
  | inl odd ↦ rw (decode_sized-odd word count odd) (grind (arith, nat_tests))
  | inr even ↦
      let whole : length word % 2 ≡ 0 = omega arith in
      elim (cases_eq (length word / 2) count) [
        | inl half ↦ rw (decode_sized-pairs word count whole half, ← bytes_of-decoded 0 word) (grind (arith, nat_tests))
        | inr other ↦ rw (decode_sized-other word count whole other) (grind (arith, nat_tests))
      ]
]

-- a word of so many bytes has twice as many digits
pub length-exact_bytes_of : (count : ℕ) (word bytes : List ℕ) → exact_bytes_of count word ≡ Some bytes → length word ≡ 2 * count
length-exact_bytes_of count word bytes e = elim (eqb_tells (length word) (2 * count)) [
  | inl same ↦ same.1
  | inr other ↦ let none : None ≡ Some bytes = rw other.0 at e in absurd cc
]
