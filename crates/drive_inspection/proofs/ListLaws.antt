-- What is found of the headers so far, and of those that are left.
use Rattle.std.proofs.Common.{◌≡◌, ℕ, ◌+◌, ◌<◌, List, ◌∷◌, ◌++◌, length, drop, get_or, drop-cons, refl, ◌∙◌, append_assoc, add-one}
use Rattle.std.specs.Ordering.{nat_cmp}
use Rattle.std.specs.BTreeSet.{insert_key}
use Rattle.drive_survey.specs.declared.heads.Head.{Head}
use Rattle.drive_inspection.specs.declared.finding.Repeat.{Repeat}
use Rattle.drive_inspection.specs.Lists.{met_with, repeat_at, repeats_of}

drop_at : {X : Type 0} (i : ℕ) (xs : List X) (d : X) → i < length xs → drop i xs ≡ get_or xs i d ∷ drop (i + 1) xs
drop_at i xs d lt = rw (add-one, drop-cons xs i d) refl

-- the sequence of one header more
pub repeats_step : (zone i : ℕ) (heads : List Head) (d : Head) (seen met : List ℕ) (found more all : List Repeat) → i < length heads
    → found ++ repeats_of zone seen (drop i heads) ≡ all → more ≡ found ++ repeat_at zone seen (get_or heads i d).sequence → met ≡ insert_key nat_cmp seen (get_or heads i d).sequence
    → more ++ repeats_of zone met (drop (i + 1) heads) ≡ all
repeats_step zone i heads d seen met found more all lt so_far is then =
    let head = get_or heads i d in
    rw (is, then) (append_assoc found (repeat_at zone seen head.sequence) (repeats_of zone (insert_key nat_cmp seen head.sequence) (drop (i + 1) heads)) ∙ (rw (drop_at i heads d lt) at so_far))

-- once one header more is met, the others still lead to the same sequences in the end
pub met_step : (i : ℕ) (heads : List Head) (d : Head) (seen met all : List ℕ) → i < length heads → met ≡ insert_key nat_cmp seen (get_or heads i d).sequence
    → met_with seen (drop i heads) ≡ all → met_with met (drop (i + 1) heads) ≡ all
met_step i heads d seen met all lt then so_far = rw then (rw (drop_at i heads d lt) at so_far)
