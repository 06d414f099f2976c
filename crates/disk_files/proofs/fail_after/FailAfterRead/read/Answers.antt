use Rattle.std.proofs.Common.{rules, ◌≡◌, ◌≤◌, ◌<◌, ℕ, List, ◌++◌, length, take, sym, subst}
use lib.Seq.{take-append-le}
use Rattle.std.specs.declared.option.Option.{Option}
use Rattle.std.specs.Io.KnownBytes.{Consumes, IsAtEnd}
use Rattle.disk_files.proofs.fail_after.FailAfterRead.read.Goals as goal

-- a read into the front of a buffer is one into the buffer
front-Consumes : (a b : Option (List ℕ)) (part rest : List ℕ) (n : ℕ) → n ≤ length part → (0 < length (part ++ rest) → 0 < length part)
    → Consumes a b (take n part) × (n ≡ 0 → 0 < length part → IsAtEnd b)
    → Consumes a b (take n (part ++ rest)) × (n ≡ 0 → 0 < length (part ++ rest) → IsAtEnd b)
front-Consumes a b part rest n fits room read =
    (subst (Consumes a b) (sym (take-append-le n part rest fits)) read.0, λ zero some. read.1 zero (room some))

pub returns-clause-bytes : goal.returns-clause-bytes
returns-clause-bytes g c =
    let read = c.in_ok-n.ensures in
    front-Consumes _ _ _ _ _ read.bound.0 (λ some. search rules) read.bytes
