-- The zones that an answer names.
use Rattle.std.proofs.Common.{◌≡◌, ℕ, zero, suc, ◌+◌, ◌<◌, ◌≤◌, List, [], ◌∷◌, ◌++◌, length, drop, get_or, Result, Ok, Err, refl, sym, ap, ◌∙◌, arith, append_assoc, append-nil}
use Rattle.std.specs.List.{All}
use Rattle.std.proofs.lemmas.List.{drop_more, length-drop, map-append}
use Rattle.std.proofs.lemmas.List.Elements.{All-append}
use Rattle.std.specs.Prelude.{IfOk}
use Rattle.drive_port.specs.Drive.{DriveState}
use Rattle.tail_repair.specs.Repair.{AreIn, AreWhereTold, IsElsewhere, moved_tails, tail_of}
use Rattle.tail_repair.specs.declared.fault.RepairFault.{RepairFault}
use Rattle.tail_repair.specs.declared.repair.MovedZone.{MovedZone}
use Rattle.tail_repair.specs.declared.tails.ForeignTail.{ForeignTail}
use Rattle.tail_repair.proofs.TailLaws.{no-items}

-- one zone more was repaired
pub moved-more : (moved : List MovedZone) (one : MovedZone) (tails : List ForeignTail) (i : ℕ) (d : ForeignTail) → i < length tails → tail_of one ≡ get_or tails i d
    → moved_tails moved ++ drop i tails ≡ tails → moved_tails (moved ++ one ∷ []) ++ drop (i + 1) tails ≡ tails
moved-more moved one tails i d lt is before =
    let left = drop (i + 1) tails in
    ap (λ (xs : List ForeignTail). xs ++ left) (map-append tail_of moved (one ∷ []))
    ∙ append_assoc (moved_tails moved) (tail_of one ∷ []) left
    ∙ ap (λ (tail : ForeignTail). moved_tails moved ++ tail ∷ left) is
    ∙ ap (λ (xs : List ForeignTail). moved_tails moved ++ xs) (sym (drop_more tails i d lt))
    ∙ before

-- all were
pub moved-all : (moved : List MovedZone) (tails : List ForeignTail) (i : ℕ) → length tails ≤ i
    → moved_tails moved ++ drop i tails ≡ tails → moved_tails moved ≡ tails
moved-all moved tails i le before =
    let none : drop i tails ≡ [] = no-items (drop i tails) (omega (arith, le, length-drop i tails)) in
    sym (append-nil (moved_tails moved)) ∙ ap (λ (xs : List ForeignTail). moved_tails moved ++ xs) (sym none) ∙ before

-- where no zone was repaired, none was found
pub none-found : (moved : List MovedZone) (tails : List ForeignTail) → moved_tails moved ≡ tails → moved ≡ [] → length tails ≡ 0
none-found [] [] same none = refl
none-found [] (t ∷ ts) same none = absurd (cc)
none-found (m ∷ ms) tails same none = absurd (cc)

-- one that was moved more is in another zone
pub elsewhere-more : (moved : List MovedZone) (one : MovedZone) → All IsElsewhere moved → IsElsewhere one → All IsElsewhere (moved ++ one ∷ [])
elsewhere-more moved one all is = All-append IsElsewhere moved (one ∷ []) all single
  where
    single : All IsElsewhere (one ∷ [])
    single zero d lt = is
    single (suc k) d lt = absurd (omega (arith, lt))

-- ---- where the batches are

-- what was done before left the batches of each zone in it
pub where-then : (old now new : DriveState) (result : Result MovedZone RepairFault) → ((zone : ℕ) → AreIn old zone now zone) → IfOk result (AreWhereTold now new) → IfOk result (AreWhereTold old new)
where-then old now new (Err fault) before told = tt
where-then old now new (Ok moved) before told = λ log begins. told log (before moved.zone log begins)

pub told-then : (old now new : DriveState) (moved : MovedZone) → ((zone : ℕ) → AreIn old zone now zone) → AreWhereTold now new moved → AreWhereTold old new moved
told-then old now new moved before told log begins = told log (before moved.zone log begins)
