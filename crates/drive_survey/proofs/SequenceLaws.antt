-- The greatest sequence that the headers tell.
use Rattle.std.proofs.Common.{◌≡◌, ℕ, ◌+◌, ◌<◌, max, List, [], ◌∷◌, ◌++◌, length, get_or, drop, sym, ap, ◌∙◌, arith}
use Rattle.std.proofs.lemmas.List.{drop_more}
use Rattle.drive_survey.specs.declared.scan.ScannedZone.{ScannedZone}
use Rattle.drive_survey.specs.Heads.{greatest_sequence, head_sequences, sequences_in}
use Rattle.drive_survey.specs.Scan.{heads_in}

-- ---- the greatest sequence

-- the greatest sequence of two lists is the greater of their greatest
greatest-append : (xs ys : List ℕ) → greatest_sequence (xs ++ ys) ≡ max (greatest_sequence xs) (greatest_sequence ys)
greatest-append [] ys = omega arith
greatest-append (x ∷ xs) ys = omega (arith, greatest-append xs ys)

-- with the next zone's sequences taken in, the greatest of all zones is the same
pub greatest-step : (scanned : List ScannedZone) (i now more all : ℕ) (zone : ScannedZone) → i < length scanned → zone ≡ get_or scanned i zone → more ≡ max now (greatest_sequence (head_sequences zone.heads.heads))
    → max now (greatest_sequence (sequences_in (heads_in (drop i scanned)))) ≡ all → max more (greatest_sequence (sequences_in (heads_in (drop (i + 1) scanned)))) ≡ all
greatest-step scanned i now more all zone lt is grown before =
    let next : drop i scanned ≡ zone ∷ drop (i + 1) scanned = drop_more scanned i zone lt ∙ ap (λ (z : ScannedZone). z ∷ drop (i + 1) scanned) (sym is) in
    let rest = sequences_in (heads_in (drop (i + 1) scanned)) in
    let split : greatest_sequence (sequences_in (heads_in (drop i scanned))) ≡ max (greatest_sequence (head_sequences zone.heads.heads)) (greatest_sequence rest) =
    ap (λ (zs : List ScannedZone). greatest_sequence (sequences_in (heads_in zs))) next ∙ greatest-append (head_sequences zone.heads.heads) rest in
    omega (arith, grown, before, split)
