-- No batch has a fault exactly where all sequences differ, and each is one that a disk can have.
use Rattle.std.proofs.Common.{◌≡◌, ℕ, ◌<◌, ◌^◌, Bool, true, false, cond, ◌||◌, ltb, eqb, List, [], ◌∷◌, ◌++◌, Option, Some, None, refl, sym, ap, ◌∙◌, arith}
use Rattle.std.specs.Prelude.{nat_eq, nat_le}
use Rattle.std.specs.List.{AllByRecursion, IsDistinct, list_any}
use Rattle.std.specs.Ordering.{nat_cmp, match_ordering}
use Rattle.std.specs.declared.cmp.Ordering.TheVariants.{Less, Equal, Greater}
use Rattle.std.specs.BTreeSet.{insert_key}
use Rattle.std.specs.BTreeMap.{is_at}
use Rattle.std.proofs.lemmas.Bool.{leb-false, lt-leb, eqb-true, or_parts}
use Rattle.std.proofs.lemmas.Bool.Decides.{nat_tests}
use Rattle.batch_log.specs.Log.{Batch}
use Rattle.drive_array.specs.ZoneLogs.{log_sequences, sequences}
use Rattle.drive_array.proofs.AllLaws.{all-append, all-parts}
use Rattle.drive_survey.specs.declared.fault.MountFault.{MountFault}
use Rattle.drive_survey.specs.declared.fault.MountFault.TheVariants.{SequenceRepeated, Spent}
use Rattle.drive_survey.specs.Scan.{HaveNoFault, heading_fault, log_fault, fault_or, seen_with}
use Rattle.drive_survey.proofs.TakeLaws.{or-none}

-- ---- members

abbrev member : List ℕ → ℕ → Bool
member seen s = list_any (is_at (nat_cmp s)) seen

abbrev AllNew : List ℕ → List ℕ → Type 0
AllNew seen [] = Unit {0}
AllNew seen (s ∷ ss) = (member seen s ≡ false) × AllNew (insert_key nat_cmp seen s) ss

abbrev into : List ℕ → List ℕ → List ℕ
into seen [] = seen
into seen (s ∷ ss) = into (insert_key nat_cmp seen s) ss

abbrev AreBelow : List ℕ → Type 0
AreBelow ss = AllByRecursion (λ s. s < 2 ^ 63) ss

member-one : (q s : ℕ) → is_at (nat_cmp q) s ≡ eqb s q
member-one q s = grind (arith, nat_tests)

member-insert : (seen : List ℕ) (s q : ℕ) → member (insert_key nat_cmp seen s) q ≡ (eqb s q || member seen q)
member-insert [] s q = ap (λ (b : Bool). b || false) (member-one q s)
member-insert (x ∷ xs) s q = split (ltb s x) (eqb s x) refl (member-insert xs s q)
  where
    twice : (a b : Bool) → (a || b) ≡ (a || (a || b))
    twice true b = refl
    twice false b = refl

    swap : (a p m : Bool) → (p || (a || m)) ≡ (a || (p || m))
    swap true true m = refl
    swap true false m = refl
    swap false p m = refl

    split : (less same : Bool) → eqb s x ≡ same → member (insert_key nat_cmp xs s) q ≡ (eqb s q || member xs q)
        → member (match_ordering (cond less Less (cond same Equal Greater)) (s ∷ x ∷ xs) (x ∷ xs) (x ∷ insert_key nat_cmp xs s)) q ≡ (eqb s q || member (x ∷ xs) q)
    split true same is rest = ap (λ (b : Bool). b || member (x ∷ xs) q) (member-one q s)
    split false true is rest =
        let e : s ≡ x = eqb-true s x is in
        let here : is_at (nat_cmp q) x ≡ eqb s q = member-one q x ∙ ap (λ (y : ℕ). eqb y q) (sym e) in
        rw here (twice (eqb s q) (member xs q))
    split false false is rest = ap (λ (b : Bool). is_at (nat_cmp q) x || b) rest ∙ swap (eqb s q) (is_at (nat_cmp q) x) (member xs q)

-- ---- one batch

two : (p q : Bool) (f g : MountFault) → cond p (Some f) (cond q (Some g) None) ≡ None → (p ≡ false) × (q ≡ false)
two true q f g e = absurd (cc)
two false true f g e = absurd (cc)
two false false f g e = (refl, refl)

-- ---- logs

record NewLog (seen : List ℕ) (log : List Batch) : Type 0 where
  below : AreBelow (log_sequences log)
  new : AllNew seen (log_sequences log)

seen-into : (seen : List ℕ) (log : List Batch) → seen_with seen log ≡ into seen (log_sequences log)
seen-into seen [] = refl
seen-into seen (b ∷ bs) = seen-into (insert_key nat_cmp seen b.heading.sequence) bs

log-new : (seen : List ℕ) (log : List Batch) → log_fault seen log ≡ None → NewLog seen log
log-new seen [] e = record { below = tt; new = tt }
log-new seen (b ∷ bs) e =
    let parts = or-none (heading_fault seen b.heading) (log_fault (insert_key nat_cmp seen b.heading.sequence) bs) e in
    let one = two (nat_le (2 ^ 63) b.heading.sequence) (member seen b.heading.sequence) Spent SequenceRepeated parts.0 in
    let rest = log-new (insert_key nat_cmp seen b.heading.sequence) bs parts.1 in
    record { below = (leb-false (2 ^ 63) b.heading.sequence one.0, rest.below); new = (one.1, rest.new) }

all-new-append : (seen xs ys : List ℕ) → AllNew seen xs → AllNew (into seen xs) ys → AllNew seen (xs ++ ys)
all-new-append seen [] ys h k = k
all-new-append seen (x ∷ xs) ys h k = (h.0, all-new-append (insert_key nat_cmp seen x) xs ys h.1 k)

record NewLogs (seen : List ℕ) (logs : List (List Batch)) : Type 0 where
  below : AreBelow (sequences logs)
  new : AllNew seen (sequences logs)

logs-new : (seen : List ℕ) (logs : List (List Batch)) → HaveNoFault seen logs → NewLogs seen logs
logs-new seen [] none = record { below = tt; new = tt }
logs-new seen (log ∷ logs) none =
    let one = log-new seen log none.0 in
    let rest = logs-new (seen_with seen log) logs none.1 in
    record {
      below = all-append (λ s. s < 2 ^ 63) (log_sequences log) (sequences logs) one.below rest.below;
      new = all-new-append seen (log_sequences log) (sequences logs) one.new (rw (seen-into seen log) at rest.new);
    }

apart : (seen : List ℕ) (s : ℕ) (ss : List ℕ) → AllByRecursion (λ x. member (insert_key nat_cmp seen s) x ≡ false) ss
    → AllByRecursion (λ x. eqb s x ≡ false) ss × AllByRecursion (λ x. member seen x ≡ false) ss
apart seen s [] h = (tt, tt)
apart seen s (x ∷ xs) h =
    let both = or_parts (eqb s x) (member seen x) (sym (member-insert seen s x) ∙ h.0) in
    let rest = apart seen s xs h.1 in
    ((both.0, rest.0), (both.1, rest.1))

new-distinct : (seen xs : List ℕ) → AllNew seen xs → IsDistinct eqb xs × AllByRecursion (λ x. member seen x ≡ false) xs
unfolding IsDistinct
new-distinct seen [] h = (tt, tt)
new-distinct seen (s ∷ ss) h =
    let rest = new-distinct (insert_key nat_cmp seen s) ss h.1 in
    let both = apart seen s ss rest.1 in
    ((both.0, rest.0), (h.0, both.1))

-- what the sequences of a drive satisfy
pub record HasSequences (logs : List (List Batch)) : Type 0 where
  pub numbers : AllByRecursion (λ s. s < 2 ^ 63) (sequences logs)
  pub distinct : IsDistinct nat_eq (sequences logs)

-- if no batch has a fault, all sequences differ and are below 2^63
pub sound-sequences : (logs : List (List Batch)) → HaveNoFault [] logs → HasSequences logs
sound-sequences logs none = let h = logs-new [] logs none in record { numbers = h.below; distinct = (new-distinct [] (sequences logs) h.new).0 }

-- ---- and back

none-log : (seen : List ℕ) (log : List Batch) → AreBelow (log_sequences log) → AllNew seen (log_sequences log) → log_fault seen log ≡ None
none-log seen [] below new = refl
none-log seen (b ∷ bs) below new =
    let rest = none-log (insert_key nat_cmp seen b.heading.sequence) bs below.1 new.1 in
    let one : heading_fault seen b.heading ≡ None = rw (lt-leb (2 ^ 63) b.heading.sequence below.0, new.0) refl in
    ap (λ (f : Option MountFault). fault_or f (log_fault (insert_key nat_cmp seen b.heading.sequence) bs)) one ∙ rest

all-new-parts : (seen xs ys : List ℕ) → AllNew seen (xs ++ ys) → AllNew seen xs × AllNew (into seen xs) ys
all-new-parts seen [] ys h = (tt, h)
all-new-parts seen (x ∷ xs) ys h = let rest = all-new-parts (insert_key nat_cmp seen x) xs ys h.1 in ((h.0, rest.0), rest.1)

none-logs : (seen : List ℕ) (logs : List (List Batch)) → AreBelow (sequences logs) → AllNew seen (sequences logs) → HaveNoFault seen logs
none-logs seen [] below new = tt
none-logs seen (log ∷ logs) below new =
    let few = all-parts (λ s. s < 2 ^ 63) (log_sequences log) (sequences logs) below in
    let parts = all-new-parts seen (log_sequences log) (sequences logs) new in
    (none-log seen log few.0 parts.0, none-logs (seen_with seen log) logs few.1 (rw (seen-into seen log) parts.1))

joined : (seen : List ℕ) (s : ℕ) (ss : List ℕ) → AllByRecursion (λ x. eqb s x ≡ false) ss → AllByRecursion (λ x. member seen x ≡ false) ss
    → AllByRecursion (λ x. member (insert_key nat_cmp seen s) x ≡ false) ss
joined seen s [] h k = tt
joined seen s (x ∷ xs) h k = (member-insert seen s x ∙ rw (h.0, k.0) refl, joined seen s xs h.1 k.1)

new-all : (seen xs : List ℕ) → IsDistinct eqb xs → AllByRecursion (λ x. member seen x ≡ false) xs → AllNew seen xs
unfolding IsDistinct
new-all seen [] d h = tt
new-all seen (s ∷ ss) d h = (h.0, new-all (insert_key nat_cmp seen s) ss d.1 (joined seen s ss d.0 h.1))

none-seen : (xs : List ℕ) → AllByRecursion (λ x. member [] x ≡ false) xs
none-seen [] = tt
none-seen (x ∷ xs) = (refl, none-seen xs)

-- if all sequences differ and are below 2^63, no batch has a fault
pub sequences-sound : (logs : List (List Batch)) → HasSequences logs → HaveNoFault [] logs
sequences-sound logs has = none-logs [] logs has.numbers (new-all [] (sequences logs) has.distinct (none-seen (sequences logs)))
