-- A read of blocks that were cut from bytes shows the bytes.
use Rattle.std.proofs.Common.{◌≡◌, ◌∙◌, ℕ, zero, suc, ◌+◌, ◌*◌, List, [], ◌∷◌, ◌++◌, length, take, drop, Ok, Err, refl, ap, arith}
use Rattle.std.specs.Prelude.{OnOk, Result}
use Rattle.std.specs.List.{concat}
use Rattle.std.proofs.Math.Nat.{add-mul}
use Rattle.std.proofs.lemmas.List.{length-drop, take-append-drop}
use Rattle.zone_states.specs.Zone.{cut_blocks}
use Rattle.zone_states.proofs.Cutting.{length-cut, concat-cut}
use Rattle.zone_translator.specs.declared.fault.DiskFault.{DiskFault}
use Rattle.zone_translator.specs.Calls.{Reads}
use Rattle.zone_translator.specs.Flat.{FlatCall, FlatDisk, with_nothing, write}
use Rattle.zone_translator.specs.Laws.{WrittenReadsBack}

-- what is shown is what was written
pub shown-again : (old middle new : FlatDisk) (first n size : ℕ) (written : List ℕ) (result : Result (Unit {0}) DiskFault) (bytes : List ℕ) → WrittenReadsBack old → length written ≡ n * size
    → FlatCall old (write first (cut_blocks size n written)) (with_nothing (Ok tt)) middle → Reads middle first n result bytes new → OnOk result (bytes ≡ written)
shown-again old middle new first n size written (Err fault) bytes law whole wrote reads = tt
shown-again old middle new first n size written (Ok done) bytes law whole wrote reads =
    let same = law middle new first (cut_blocks size n written) reads.shown wrote (rw (length-cut size n written) reads.flat) in
    reads.bytes_are ∙ ap concat same ∙ concat-cut size n written whole
