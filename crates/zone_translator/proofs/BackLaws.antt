-- A write and the read after it.
use Rattle.std.proofs.Common.{◌≡◌, ◌==◌, ◌∙◌, ◌⊎◌, ℕ, nat_lt, zero, suc, ◌+◌, ◌<◌, ◌≤◌, Bool, true, false, List, [], ◌∷◌, length, take, drop, get_or, Ok, refl, ap, arith, inl, inr}
use Rattle.std.proofs.lemmas.Bool.Decides.{nat_tests}
use Rattle.zone_translator.specs.declared.status.DiskStatus.{DiskStatus}
use Rattle.zone_translator.specs.declared.status.DiskStatus.TheVariants.{Serving, Stopped, Unmounted}
use Rattle.zone_translator.specs.Flat.{Answer, FlatCall, FlatDisk, blocks_from, read, replaced, with_nothing, write}

-- blocks that were replaced are there
blocks-replaced : {X : Type 0} (xs : List X) (first : ℕ) (ys : List X) → first + length ys ≤ length xs → take (length ys) (drop first (replaced xs first ys)) ≡ ys
blocks-replaced [] zero [] le = refl
blocks-replaced [] zero (y ∷ ys) le = absurd (omega arith)
blocks-replaced [] (suc first) ys le = absurd (omega arith)
blocks-replaced (x ∷ xs) (suc first) ys le = blocks-replaced xs first ys (omega arith)
blocks-replaced (x ∷ xs) zero [] le = refl
blocks-replaced {X} (x ∷ xs) zero (y ∷ ys) le = ap (λ (zs : List X). y ∷ zs) (blocks-replaced xs zero ys (omega arith))

-- and the others are the same
pub other-replaced : (array blocks : List (List ℕ)) (first block : ℕ) → (block < first) ⊎ (first + length blocks ≤ block) → get_or (replaced array first blocks) block [] ≡ get_or array block []
other-replaced [] blocks first block outside = refl
other-replaced (x ∷ xs) blocks (suc first) zero outside = refl
other-replaced (x ∷ xs) blocks (suc first) (suc block) outside =
    other-replaced xs blocks first block (elim outside as (λ _. (block < first) ⊎ (first + length blocks ≤ block)) [ inl below ↦ inl (omega arith) | inr above ↦ inr (omega arith) ])
other-replaced (x ∷ xs) [] zero block outside = refl
other-replaced (x ∷ xs) (y ∷ ys) zero zero outside = elim outside as (λ _. y ≡ x) [ inl below ↦ absurd (omega arith) | inr above ↦ absurd (omega arith) ]
other-replaced (x ∷ xs) (y ∷ ys) zero (suc block) outside =
    other-replaced xs ys zero block (elim outside as (λ _. (block < 0) ⊎ (0 + length ys ≤ block)) [ inl below ↦ absurd (omega arith) | inr above ↦ inr (omega arith) ])

-- a write of some blocks that is done was in range, and its blocks are in the array
record IsWritten (old : FlatDisk) (first : ℕ) (blocks : List (List ℕ)) (new : FlatDisk) : Type 0 where
  within : nat_lt old.size (first + length blocks) ≡ false
  array : new.array ≡ replaced old.array first blocks
  size : new.size ≡ old.size
  serves : old.status ≡ Serving

is-written : (old new : FlatDisk) (first : ℕ) (blocks : List (List ℕ)) (past : Bool) (status : DiskStatus) → (length blocks == 0) ≡ false → nat_lt old.size (first + length blocks) ≡ past → old.status ≡ status
    → FlatCall old (write first blocks) (with_nothing (Ok tt)) new → IsWritten old first blocks new
is-written old new first blocks true status some past is call =
    let known = rw (some, past) at call in
    let answers = ap (λ (a : Answer). a.result) known.0 in absurd (cc)
is-written old new first blocks false Serving some past is call =
    let begun = rw (some, past, is) at call in
    record { within = past; array = ap (λ (d : FlatDisk). d.array) begun.1; size = ap (λ (d : FlatDisk). d.size) begun.1; serves = is }
is-written old new first blocks false Stopped some past is call =
    let known = rw (some, past, is) at call in
    let answers = ap (λ (a : Answer). a.result) known.0 in absurd (cc)
is-written old new first blocks false Unmounted some past is call =
    let known = rw (some, past, is) at call in
    let answers = ap (λ (a : Answer). a.result) known.0 in absurd (cc)

-- a read of some blocks in range that is done shows them
is-shown : (old new : FlatDisk) (first n : ℕ) (shown : List (List ℕ)) (status : DiskStatus) → (n == 0) ≡ false → nat_lt old.size (first + n) ≡ false → old.status ≡ status
    → FlatCall old (read first n) (record { result = Ok tt; shown = shown }) new → shown ≡ blocks_from old.array first n
is-shown old new first n shown Serving some past is call = let begun = rw (some, past, is) at call in begun.0
is-shown old new first n shown Stopped some past is call =
    let known = rw (some, past, is) at call in
    let answers = ap (λ (a : Answer). a.result) known.0 in absurd (cc)
is-shown old new first n shown Unmounted some past is call =
    let known = rw (some, past, is) at call in
    let answers = ap (λ (a : Answer). a.result) known.0 in absurd (cc)

-- so blocks that are written read back
pub written-reads-back : (old middle new : FlatDisk) (first : ℕ) (blocks shown : List (List ℕ)) → (old.status ≡ Serving → length old.array ≡ old.size) → FlatCall old (write first blocks) (with_nothing (Ok tt)) middle
    → FlatCall middle (read first (length blocks)) (record { result = Ok tt; shown = shown }) new → shown ≡ blocks
written-reads-back old middle new first [] shown whole wrote reads = ap (λ (a : Answer). a.shown) reads.0
written-reads-back old middle new first (b ∷ bs) shown whole wrote reads =
    let some : (length (b ∷ bs) == 0) ≡ false = grind (arith, nat_tests) in
    let is = is-written old middle first (b ∷ bs) (nat_lt old.size (first + length (b ∷ bs))) old.status some refl refl wrote in
    let within : nat_lt middle.size (first + length (b ∷ bs)) ≡ false = rw is.size is.within in
    let le : first + length (b ∷ bs) ≤ length old.array = grind (arith, nat_tests, is.within, whole is.serves) in
    is-shown middle new first (length (b ∷ bs)) shown middle.status some within refl reads ∙ rw is.array (blocks-replaced old.array first (b ∷ bs) le)
