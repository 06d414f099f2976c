-- Where the batches of the zones are that an answer names.
use Rattle.std.proofs.Common.{◌≡◌, ◌≢◌, ℕ, zero, suc, ◌+◌, ◌<◌, ◌≤◌, List, [], ◌∷◌, ◌++◌, length, get_or, Option, Some, None, refl, sym, ap, arith}
use Rattle.std.specs.List.{All}
use Rattle.std.specs.Prelude.{slice_get}
use Rattle.std.proofs.lemmas.List.Elements.{All-append}
use Rattle.drive_port.specs.Drive.{DriveState}
use Rattle.drive_survey.specs.Reported.{KeepsZones}
use Rattle.tail_repair.proofs.TailLaws.{look-in}
use Rattle.tail_repair.specs.Repair.{AreIn, AreNoted, AreTails, AreWhereTold, Ascends, IsNoneAbove, KeepsBeside, noted, one_more, place, tail_at, tail_of}
use Rattle.tail_repair.specs.declared.repair.MovedZone.{MovedZone}
use Rattle.tail_repair.specs.declared.tails.ForeignTail.{ForeignTail}

-- the batches of the zones that are left are where they were
abbrev pub LeavesIn : DriveState → DriveState → List ForeignTail → ℕ → Type 0
LeavesIn first now tails i = (k : ℕ) (t : ForeignTail) → i ≤ k → slice_get tails k ≡ Some t → AreIn first t.zone now t.zone

-- none of these zones is this one
abbrev pub AreNot : List ForeignTail → ℕ → ℕ → Type 0
AreNot tails i zone = (k : ℕ) (t : ForeignTail) → i ≤ k → slice_get tails k ≡ Some t → t.zone ≢ zone

abbrev pub AreApart : List ForeignTail → ℕ → List MovedZone → Type 0
AreApart tails i moved = All (λ (one : MovedZone). AreNot tails i (place one)) moved

one-all : (P : MovedZone → Type 0) (one : MovedZone) → P one → All P (one ∷ [])
one-all P one is zero d lt = is
one-all P one is (suc k) d lt = absurd (omega (arith, lt))

-- one zone more was repaired
pub told-more : (first now next : DriveState) (tails : List ForeignTail) (i : ℕ) (t : ForeignTail) (moved : List MovedZone) (one : MovedZone) → slice_get tails i ≡ Some t → one.zone ≡ t.zone
    → LeavesIn first now tails i → AreApart tails i moved → KeepsBeside now next t.zone → AreWhereTold now next one → All (AreWhereTold first now) moved → All (AreWhereTold first next) (moved ++ one ∷ [])
told-more first now next tails i t moved one at same left apart beside told all = All-append (AreWhereTold first next) moved (one ∷ []) before (one-all (AreWhereTold first next) one here)
  where
    here : AreWhereTold first next one
    here log begins = let there : AreIn first one.zone now one.zone = rw same (left i t (omega arith) at) in told log (there log begins)

    before : All (AreWhereTold first next) moved
    before k d lt log begins = beside (place (get_or moved k d)) (λ is. apart k d lt i t (omega arith) at (sym is)) log (all k d lt log begins)

pub left-more : (first now next : DriveState) (tails : List ForeignTail) (i : ℕ) (t : ForeignTail) → slice_get tails i ≡ Some t → Ascends tails → LeavesIn first now tails i → KeepsBeside now next t.zone → LeavesIn first next tails (i + 1)
left-more first now next tails i t at ascends left beside k u le there log begins =
    let above = ascends i k t u (omega (arith, le)) at there in
    beside u.zone (λ is. absurd (omega (arith, above, is))) log (left k u (omega (arith, le)) there log begins)

pub apart-more : (tails : List ForeignTail) (i : ℕ) (t : ForeignTail) (moved : List MovedZone) (one : MovedZone) → slice_get tails i ≡ Some t → Ascends tails → IsNoneAbove tails t.zone (place one) → AreApart tails i moved → AreApart tails (i + 1) (moved ++ one ∷ [])
apart-more tails i t moved one at ascends none apart = All-append (λ (m : MovedZone). AreNot tails (i + 1) (place m)) moved (one ∷ []) (λ k d lt j u le there. apart k d lt j u (omega (arith, le)) there) (one-all (λ (m : MovedZone). AreNot tails (i + 1) (place m)) one here)
  where
    here : AreNot tails (i + 1) (place one)
    here j u le there = none j u there (ascends i j t u (omega (arith, le)) at there)

pub none-yet : (first : DriveState) (tails : List ForeignTail) → LeavesIn first first tails 0
none-yet first tails k t le there log begins = begins

-- ---- the zones that are found are in ascending order

below-more : (tails : List ForeignTail) (tail : ForeignTail) (n : ℕ) → ((k : ℕ) (t : ForeignTail) → slice_get tails k ≡ Some t → t.zone < n) → tail.zone ≡ n → (k : ℕ) (t : ForeignTail) → slice_get (tails ++ tail ∷ []) k ≡ Some t → t.zone < suc n
below-more [] tail n below is zero t there = let same : tail ≡ t = cc in omega (arith, is, ap (λ (x : ForeignTail). x.zone) same)
below-more [] tail n below is (suc k) t there = absurd (cc)
below-more (x ∷ xs) tail n below is zero t there = let lt = below 0 t there in omega (arith, lt)
below-more (x ∷ xs) tail n below is (suc k) t there = below-more xs tail n (λ j u e. below (suc j) u e) is k t there

ascends-more : (tails : List ForeignTail) (tail : ForeignTail) (n : ℕ) → ((k : ℕ) (t : ForeignTail) → slice_get tails k ≡ Some t → t.zone < n) → tail.zone ≡ n → Ascends tails → Ascends (tails ++ tail ∷ [])
ascends-more [] tail n below is ascends i zero a b lt at there = absurd (omega (arith, lt))
ascends-more [] tail n below is ascends i (suc j) a b lt at there = absurd (cc)
ascends-more (x ∷ xs) tail n below is ascends zero zero a b lt at there = absurd (omega (arith, lt))
ascends-more (x ∷ xs) tail n below is ascends zero (suc j) a b lt at there = first xs j (λ k t e. ascends 0 (suc k) a t (omega arith) at e) there
  where
    first : (ys : List ForeignTail) (k : ℕ) → ((m : ℕ) (t : ForeignTail) → slice_get ys m ≡ Some t → a.zone < t.zone) → slice_get (ys ++ tail ∷ []) k ≡ Some b → a.zone < b.zone
    first [] zero above e = let same : tail ≡ b = cc in omega (arith, below 0 a at, is, ap (λ (y : ForeignTail). y.zone) same)
    first [] (suc k) above e = absurd (cc)
    first (y ∷ ys) zero above e = above 0 b e
    first (y ∷ ys) (suc k) above e = first ys k (λ m t f. above (suc m) t f) e
ascends-more (x ∷ xs) tail n below is ascends (suc i) zero a b lt at there = absurd (omega (arith, lt))
ascends-more (x ∷ xs) tail n below is ascends (suc i) (suc j) a b lt at there =
    ascends-more xs tail n (λ k t e. below (suc k) t e) is (λ k l c d less e f. ascends (suc k) (suc l) c d (omega (arith, less)) e f) i j a b (omega (arith, lt)) at there

pub record IsBelow (n : ℕ) (tails : List ForeignTail) : Type 0 where
  pub below : (k : ℕ) (t : ForeignTail) → slice_get tails k ≡ Some t → t.zone < n
  pub ascends : Ascends tails

noted-ascends : (drive : DriveState) (n : ℕ) (tails : List ForeignTail) → AreNoted drive n tails → IsBelow n tails
noted-ascends drive zero [] are = record { below = λ k t there. absurd (cc); ascends = λ i j a b lt at there. absurd (cc) }
noted-ascends drive zero (x ∷ xs) are = elim are [ ]
noted-ascends drive (suc n) after (one_more {tails = before} are notes) = by (noted-ascends drive n before are) notes.found (notes.noted_is)
  where
    by : IsBelow n before → (found : Option ℕ) → after ≡ noted n before found → IsBelow (suc n) after
    by is None e = rw e (record { below = λ k t there. let lt = is.below k t there in omega (arith, lt); ascends = is.ascends })
    by is (Some blocks) e = rw e (record { below = below-more before (tail_at n blocks) n is.below refl; ascends = ascends-more before (tail_at n blocks) n is.below refl is.ascends })

pub tails-ascend : (drive : DriveState) (tails : List ForeignTail) → AreTails drive tails → Ascends tails
tails-ascend drive tails are = (noted-ascends drive (length drive.zones) tails are).ascends

-- ---- all repairs

-- So far the batches are where the answer says, those of the zones that are left are where they were, and none of these
-- zones is where others are.
pub record InPlace (first now : DriveState) (tails : List ForeignTail) (i : ℕ) (moved : List MovedZone) : Type 0 where
  pub told : All (AreWhereTold first now) moved
  pub left : LeavesIn first now tails i
  pub apart : AreApart tails i moved

all-none : (P : MovedZone → Type 0) → All P []
all-none P k d lt = absurd (omega (arith, lt))

pub in-place-yet : (first : DriveState) (tails : List ForeignTail) → InPlace first first tails 0 []
in-place-yet first tails = record { told = all-none (AreWhereTold first first); left = none-yet first tails; apart = all-none (λ (one : MovedZone). AreNot tails 0 (place one)) }

pub in-place-more : (first now next : DriveState) (tails : List ForeignTail) (i : ℕ) (t : ForeignTail) (moved : List MovedZone) (one : MovedZone) → slice_get tails i ≡ Some t → tail_of one ≡ t → Ascends tails
    → InPlace first now tails i moved → KeepsBeside now next t.zone → AreWhereTold now next one → IsNoneAbove tails t.zone (place one) → InPlace first next tails (i + 1) (moved ++ one ∷ [])
in-place-more first now next tails i t moved one at is ascends before beside told none = record {
  told = told-more first now next tails i t moved one at (ap (λ (x : ForeignTail). x.zone) is) before.left before.apart beside told before.told;
  left = left-more first now next tails i t at ascends before.left beside;
  apart = apart-more tails i t moved one at ascends none before.apart;
}

-- looks before and after
pub all-before : (old now new : DriveState) (moved : List MovedZone) → KeepsZones old now → All (AreWhereTold now new) moved → All (AreWhereTold old new) moved
all-before old now new moved kept all k d lt log begins = all k d lt log (look-in old now _ kept log begins)

pub all-after : (old now new : DriveState) (moved : List MovedZone) → KeepsZones now new → All (AreWhereTold old now) moved → All (AreWhereTold old new) moved
all-after old now new moved kept all k d lt log begins = look-in now new _ kept log (all k d lt log begins)

pub none-of-none : (P : MovedZone → Type 0) (moved : List MovedZone) → moved ≡ [] → All P moved
none-of-none P [] is = all-none P
none-of-none P (m ∷ ms) is = absurd (cc)

pub all-of-none : (old new : DriveState) (moved : List MovedZone) → moved ≡ [] → All (AreWhereTold old new) moved
all-of-none old new [] is = all-none (AreWhereTold old new)
all-of-none old new (m ∷ ms) is = absurd (cc)
