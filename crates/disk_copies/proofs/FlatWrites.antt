-- Writes of a flat disk, one after the other, as one write.
use Rattle.std.proofs.Common.{◌≡◌, ℕ, zero, suc, ◌+◌, ◌<◌, ◌≤◌, ◌==◌, Bool, true, false, List, [], ◌∷◌, ◌++◌, length, take, Some, None, Ok, Err, refl, sym, ap, ◌∙◌, arith}
use Rattle.std.specs.Prelude.{nat_lt}
use Rattle.std.proofs.Math.Seq.{take-append-add}
use Rattle.std.proofs.lemmas.Bool.Decides.{nat_tests}
use Rattle.std.proofs.lemmas.List.{length-append, take-append-le}
use Rattle.zone_translator.specs.Flat.{Answer, FlatCall, FlatDisk, IsFront, answer_while, known_range, may_refuse, replaced, status_after, with_nothing, write}
use Rattle.zone_translator.specs.declared.fault.DiskFault.{DiskFault}
use Rattle.zone_translator.specs.declared.fault.DiskFault.TheVariants.{OutOfRange, OutOfMemory, Failed, Stopped, Spent, Unmounted, Smaller, Reserve, Damaged}
use Rattle.zone_translator.specs.declared.status.DiskStatus.{DiskStatus}
use Rattle.zone_translator.specs.declared.status.DiskStatus.TheVariants as statuses
use Rattle.zone_translator.proofs.FlatLaws.{replaced-append, replaced-none}

-- ---- what is known of a call before it begins

-- for some blocks within the disk, only its status tells what is answered beforehand
pub known-in : (disk : FlatDisk) (first n : ℕ) → 0 < n → first + n ≤ disk.size → known_range disk first n ≡ answer_while disk.status
known-in disk first n some fits =
    let e : (n == 0) ≡ false = grind (arith, nat_tests) in
    let f : nat_lt disk.size (first + n) ≡ false = grind (arith, nat_tests) in
    rw (e, f) refl

-- a range with blocks that ends past the disk is known to be out of range
pub known-past : (disk : FlatDisk) (first n : ℕ) → 0 < n → disk.size < first + n → known_range disk first n ≡ Some (Err OutOfRange)
known-past disk first n some past =
    let e : (n == 0) ≡ false = grind (arith, nat_tests) in
    let f : nat_lt disk.size (first + n) ≡ true = grind (arith, nat_tests) in
    rw (e, f) refl

-- a test of an end against the size tells whether the end is past it, or within
pub past-or-in : (size end : ℕ) (past : Bool) → nat_lt size end ≡ past → (past ≡ true → size < end) × (past ≡ false → end ≤ size)
past-or-in size end true e = (λ _. grind (arith, nat_tests), λ no. absurd (cc no))
past-or-in size end false e = (λ no. absurd (cc no), λ _. grind (arith, nat_tests))

-- the status of a disk, by another name
with-status : (disk : FlatDisk) {status : DiskStatus} → status ≡ disk.status → record { array = disk.array; size = disk.size; status = status; block = disk.block; most = disk.most } ≡ disk
with-status disk e = ap (λ (d : DiskStatus). record { array = disk.array; size = disk.size; status = d; block = disk.block; most = disk.most }) e

-- ---- a write that is done

-- blocks are replaced and nothing else changes; a write with blocks is within a disk that serves
pub record Wrote (old : FlatDisk) (first : ℕ) (blocks : List (List ℕ)) (new : FlatDisk) : Type 0 where
  pub after : new ≡ record old { array = replaced old.array first blocks }
  pub within : 0 < length blocks → first + length blocks ≤ old.size
  pub serves : 0 < length blocks → old.status ≡ statuses.Serving

-- a write that is done has replaced its blocks, and changed nothing else
pub wrote : (old new : FlatDisk) (first : ℕ) (blocks : List (List ℕ)) → FlatCall old (write first blocks) (with_nothing (Ok tt)) new → Wrote old first blocks new
wrote old new first [] flat = record {
  after = flat.1 ∙ ap (λ (a : List (List ℕ)). record old { array = a }) (sym (replaced-none old.array first));
  within = λ some. absurd (omega (arith, some));
  serves = λ some. absurd (omega (arith, some));
}
wrote old new first (b ∷ bs) flat = of (nat_lt old.size (first + suc (length bs))) refl old.status refl
  where
    of : (past : Bool) → nat_lt old.size (first + suc (length bs)) ≡ past → (status : DiskStatus) → old.status ≡ status → Wrote old first (b ∷ bs) new
    of true e status s =
        let known = rw (known-past old first (suc (length bs)) (omega arith) ((past-or-in _ _ true e).0 refl)) at flat in
        let bad : Ok tt ≡ Err OutOfRange = ap (λ (a : Answer). a.result) known.0 in
        absurd (cc)
    of false e statuses.Serving s =
        let fits = (past-or-in _ _ false e).1 refl in
        let begun = rw (known-in old first (suc (length bs)) (omega arith) fits, s) at flat in
        record {
          after = begun.1 ∙ ap (λ (d : DiskStatus). record { array = replaced old.array first (b ∷ bs); size = old.size; status = d; block = old.block; most = old.most }) (sym s);
          within = λ _. fits;
          serves = λ _. s;
        }
    of false e statuses.Stopped s =
        let known = rw (known-in old first (suc (length bs)) (omega arith) ((past-or-in _ _ false e).1 refl), s) at flat in
        let bad : Ok tt ≡ Err Stopped = ap (λ (a : Answer). a.result) known.0 in
        absurd (cc)
    of false e statuses.Unmounted s =
        let known = rw (known-in old first (suc (length bs)) (omega arith) ((past-or-in _ _ false e).1 refl), s) at flat in
        let bad : Ok tt ≡ Err Unmounted = ap (λ (a : Answer). a.result) known.0 in
        absurd (cc)

-- and conversely, blocks that are replaced so are a write that is done
pub written : (old new : FlatDisk) (first : ℕ) (blocks : List (List ℕ)) → Wrote old first blocks new → FlatCall old (write first blocks) (with_nothing (Ok tt)) new
written old new first [] w = (refl, w.after ∙ ap (λ (a : List (List ℕ)). record old { array = a }) (replaced-none old.array first))
written old new first (b ∷ bs) w =
    rw (known-in old first (suc (length bs)) (omega arith) (w.within (omega arith)), w.serves (omega arith))
    (refl, w.after ∙ ap (λ (d : DiskStatus). record { array = replaced old.array first (b ∷ bs); size = old.size; status = d; block = old.block; most = old.most }) (w.serves (omega arith)))

-- nothing was written
pub wrote-none : (disk : FlatDisk) (first : ℕ) → FlatCall disk (write first []) (with_nothing (Ok tt)) disk
wrote-none disk first = (refl, refl)

some-or-none : (n : ℕ) (P : Type 0) → (n ≡ 0 → P) → (0 < n → P) → P
some-or-none zero P none some = none refl
some-or-none (suc n) P none some = some (omega arith)

-- one write after the other
wrote-both : (old mid new : FlatDisk) (first next : ℕ) (xs ys : List (List ℕ)) → next ≡ first + length xs → Wrote old first xs mid → Wrote mid next ys new → Wrote old first (xs ++ ys) new
wrote-both old mid new first next xs ys e x y =
    let size : mid.size ≡ old.size = ap (λ (d : FlatDisk). d.size) x.after in
    let status : mid.status ≡ old.status = ap (λ (d : FlatDisk). d.status) x.after in
    record {
      after = y.after ∙ rw x.after (ap (λ (a : List (List ℕ)). record old { array = a }) (replaced-append old.array first next xs ys e));
      within = λ some. some-or-none (length ys) (first + length (xs ++ ys) ≤ old.size)
          (λ none. omega (arith, length-append xs ys, none, x.within (omega (arith, some, none, length-append xs ys))))
          (λ more. omega (arith, length-append xs ys, e, size, y.within more));
      serves = λ some. some-or-none (length ys) (old.status ≡ statuses.Serving)
          (λ none. x.serves (omega (arith, some, none, length-append xs ys)))
          (λ more. sym status ∙ y.serves more);
    }

-- a write, and a write of the blocks after it, are done as one write of both
pub write-more : (old mid new : FlatDisk) (first next : ℕ) (xs ys : List (List ℕ)) → next ≡ first + length xs
    → FlatCall old (write first xs) (with_nothing (Ok tt)) mid → FlatCall mid (write next ys) (with_nothing (Ok tt)) new → FlatCall old (write first (xs ++ ys)) (with_nothing (Ok tt)) new
write-more old mid new first next xs ys e x y = written old new first (xs ++ ys) (wrote-both old mid new first next xs ys e (wrote old mid first xs x) (wrote mid new next ys y))

-- ---- a write that is refused

same-refusal : (a b : ℕ) (xs ys : List (List ℕ)) (fault : DiskFault) → may_refuse (write a xs) fault ≡ may_refuse (write b ys) fault
same-refusal a b xs ys OutOfRange = refl
same-refusal a b xs ys OutOfMemory = refl
same-refusal a b xs ys Failed = refl
same-refusal a b xs ys Stopped = refl
same-refusal a b xs ys Spent = refl
same-refusal a b xs ys Smaller = refl
same-refusal a b xs ys Reserve = refl
same-refusal a b xs ys Damaged = refl
same-refusal a b xs ys Unmounted = refl

-- what a refusal of a write within the disk leaves
pub data Refused (old : FlatDisk) (first : ℕ) (blocks : List (List ℕ)) (fault : DiskFault) (new : FlatDisk) : Type 0 where
  midway : old.status ≡ statuses.Serving → may_refuse (write first blocks) fault ≡ true → IsFront old.array first blocks new.array
      → new ≡ record old { array = new.array; status = status_after (Err fault) } → Refused old first blocks fault new
  before : answer_while old.status ≡ Some (Err fault) → new ≡ old → Refused old first blocks fault new

-- a write within the disk that is refused leaves the disk so
pub refused : (old new : FlatDisk) (first : ℕ) (blocks : List (List ℕ)) (fault : DiskFault) → (0 < length blocks → first + length blocks ≤ old.size)
    → FlatCall old (write first blocks) (with_nothing (Err fault)) new → Refused old first blocks fault new
refused old new first [] fault within flat = let bad : Err fault ≡ Ok tt = ap (λ (a : Answer). a.result) flat.0 in absurd (cc)
refused old new first (b ∷ bs) fault within flat = of old.status refl
  where
    fits : first + suc (length bs) ≤ old.size
    fits = within (omega arith)

    of : (status : DiskStatus) → old.status ≡ status → Refused old first (b ∷ bs) fault new
    of statuses.Serving s =
        let begun = rw (known-in old first (suc (length bs)) (omega arith) fits, s) at flat in
        midway s begun.0 begun.2 begun.3
    of statuses.Stopped s =
        let known = rw (known-in old first (suc (length bs)) (omega arith) fits, s) at flat in
        before (rw s (ap (λ (a : Answer). Some a.result) (sym known.0))) (known.1 ∙ with-status old (sym s))
    of statuses.Unmounted s =
        let known = rw (known-in old first (suc (length bs)) (omega arith) fits, s) at flat in
        before (rw s (ap (λ (a : Answer). Some a.result) (sym known.0))) (known.1 ∙ with-status old (sym s))

-- and conversely, a disk left so has refused a write of some blocks within it
pub refuses : (old new : FlatDisk) (first : ℕ) (blocks : List (List ℕ)) (fault : DiskFault) → 0 < length blocks → first + length blocks ≤ old.size
    → Refused old first blocks fault new → FlatCall old (write first blocks) (with_nothing (Err fault)) new
refuses old new first blocks fault some fits (midway s may front is) = rw (known-in old first (length blocks) some fits, s) (may, refl, front, is)
refuses old new first blocks fault some fits (before answer is) = rw (known-in old first (length blocks) some fits, answer) (refl, is)

-- a refusal of a first part refuses the whole
refused-longer : (old new : FlatDisk) (first : ℕ) (xs ys : List (List ℕ)) (fault : DiskFault) → Refused old first xs fault new → Refused old first (xs ++ ys) fault new
refused-longer old new first xs ys fault (midway s may front is) =
    midway s (same-refusal first first (xs ++ ys) xs fault ∙ may) (record {
      done = front.done;
      within = omega (arith, front.within, length-append xs ys);
      written = front.written ∙ ap (λ (bs : List (List ℕ)). replaced old.array first bs) (sym (take-append-le front.done xs ys front.within));
    }) is
refused-longer old new first xs ys fault (before answer is) = before answer is

-- and so does a refusal after a first part
refused-after : (old mid new : FlatDisk) (first next : ℕ) (xs ys : List (List ℕ)) (fault : DiskFault) → next ≡ first + length xs → Wrote old first xs mid → Refused mid next ys fault new → Refused old first (xs ++ ys) fault new
refused-after old mid new first next xs ys fault e x (midway s may front is) =
    let status : mid.status ≡ old.status = ap (λ (d : FlatDisk). d.status) x.after in
    let array : mid.array ≡ replaced old.array first xs = ap (λ (d : FlatDisk). d.array) x.after in
    midway (sym status ∙ s) (same-refusal first next (xs ++ ys) ys fault ∙ may) (record {
      done = length xs + front.done;
      within = omega (arith, front.within, length-append xs ys);
      written = front.written ∙ ap (λ (a : List (List ℕ)). replaced a next (take front.done ys)) array ∙ replaced-append old.array first next xs (take front.done ys) e
          ∙ ap (λ (bs : List (List ℕ)). replaced old.array first bs) (sym (take-append-add xs ys front.done));
    }) (is ∙ rw x.after refl)
refused-after old mid new first next [] ys fault e x (before answer is) =
    let same : mid ≡ old = x.after ∙ ap (λ (a : List (List ℕ)). record old { array = a }) (replaced-none old.array first) in
    before (rw same at answer) (is ∙ same)
refused-after old mid new first next (b ∷ bs) ys fault e x (before answer is) =
    let status : mid.status ≡ old.status = ap (λ (d : FlatDisk). d.status) x.after in
    let none : None ≡ Some (Err fault) = rw (status, x.serves (omega arith)) at answer in
    absurd (cc)

-- if a write is done and the next refused within the disk, the write of both is refused
pub refuse-after : (old mid new : FlatDisk) (first next : ℕ) (xs ys : List (List ℕ)) (fault : DiskFault) → next ≡ first + length xs → (0 < length ys → next + length ys ≤ mid.size)
    → FlatCall old (write first xs) (with_nothing (Ok tt)) mid → FlatCall mid (write next ys) (with_nothing (Err fault)) new → FlatCall old (write first (xs ++ ys)) (with_nothing (Err fault)) new
refuse-after old mid new first next xs [] fault e within x y = let bad : Err fault ≡ Ok tt = ap (λ (a : Answer). a.result) y.0 in absurd (cc)
refuse-after old mid new first next xs (y ∷ ys) fault e within x r =
    let w = wrote old mid first xs x in
    let size : mid.size ≡ old.size = ap (λ (d : FlatDisk). d.size) w.after in
    let long = length-append xs (y ∷ ys) in
    refuses old new first (xs ++ y ∷ ys) fault (omega (arith, long)) (omega (arith, long, e, size, within (omega arith)))
    (refused-after old mid new first next xs (y ∷ ys) fault e w (refused mid new next (y ∷ ys) fault within r))

-- if a write of some first blocks is refused, so is a write of more within the disk
pub refuse-longer : (old new : FlatDisk) (first : ℕ) (xs ys : List (List ℕ)) (fault : DiskFault) → 0 < length xs → first + length (xs ++ ys) ≤ old.size
    → FlatCall old (write first xs) (with_nothing (Err fault)) new → FlatCall old (write first (xs ++ ys)) (with_nothing (Err fault)) new
refuse-longer old new first xs ys fault some fits r =
    let long = length-append xs ys in
    refuses old new first (xs ++ ys) fault (omega (arith, long, some)) fits (refused-longer old new first xs ys fault (refused old new first xs fault (λ _. omega (arith, long, fits)) r))
