-- A clean writes only Moves.
use Rattle.std.proofs.Common.{◌≡◌, ◌⊎◌, ℕ, ◌<◌, List, [], ◌∷◌, ◌++◌, length, sym, ap, ◌∙◌, inl, inr, append-nil, append_assoc}
use Rattle.std.specs.List.{AllByRecursion}
use Rattle.std.proofs.lemmas.Bool.{cases_eq}
use Rattle.std.proofs.lemmas.List.{get_or-set_other, get_or-set_same}
use Rattle.batch_log.specs.Log.{Batch}
use Rattle.drive_array.specs.Records.{append_log, without}
use Rattle.drive_array.specs.ZoneLogs.{log_at}
use Rattle.drive_array.proofs.AppendLaws.{log_at-other, log_at-same}
use Rattle.zone_cleaner.specs.Turns.{IsMove, OnlyMoves}

-- no log has changed
pub only-same : (old new : List (List Batch)) → new ≡ old → OnlyMoves old new
only-same old new same zone = ([], tt, inr (ap (λ (logs : List (List Batch)). log_at logs zone) same ∙ sym (append-nil (log_at old zone))))

-- a Move more
pub only-more : (old new : List (List Batch)) (zone : ℕ) (b : Batch) → zone < length old → IsMove b → new ≡ append_log old zone b → OnlyMoves old new
only-more old new zone b lt move is k = elim (cases_eq k zone) as (λ _. (moves : List Batch) × AllByRecursion IsMove moves × ((log_at new k ≡ moves) ⊎ (log_at new k ≡ log_at old k ++ moves))) [
  | inl same ↦ (b ∷ [], (move, tt), inr (rw (same, is) (log_at-same old zone b lt)))
  | inr other ↦ ([], tt, inr (rw is (log_at-other old zone k b other) ∙ sym (append-nil (log_at old k))))
]

-- a zone that was emptied
pub only-without : (old new : List (List Batch)) (zone : ℕ) → zone < length old → new ≡ without old zone → OnlyMoves old new
only-without old new zone lt is k = elim (cases_eq k zone) as (λ _. (moves : List Batch) × AllByRecursion IsMove moves × ((log_at new k ≡ moves) ⊎ (log_at new k ≡ log_at old k ++ moves))) [
  | inl same ↦ ([], tt, inl (rw (same, is) (get_or-set_same old zone [] [] lt)))
  | inr other ↦ ([], tt, inr (rw is (get_or-set_other old zone k [] [] other) ∙ sym (append-nil (log_at old k))))
]

all-append : (xs ys : List Batch) → AllByRecursion IsMove xs → AllByRecursion IsMove ys → AllByRecursion IsMove (xs ++ ys)
all-append [] ys all more = more
all-append (x ∷ xs) ys all more = (all.0, all-append xs ys all.1 more)

-- first these, then those
pub only-join : (a b c : List (List Batch)) → OnlyMoves a b → OnlyMoves b c → OnlyMoves a c
only-join a b c p q zone = by (q zone)
  where
    here : (first second : List Batch) → AllByRecursion IsMove first → AllByRecursion IsMove second → (log_at b zone ≡ first) ⊎ (log_at b zone ≡ log_at a zone ++ first) → log_at c zone ≡ log_at b zone ++ second
        → (moves : List Batch) × AllByRecursion IsMove moves × ((log_at c zone ≡ moves) ⊎ (log_at c zone ≡ log_at a zone ++ moves))
    here first second all more (inl is) then = (first ++ second, all-append first second all more, inl (then ∙ ap (λ (log : List Batch). log ++ second) is))
    here first second all more (inr is) then = (first ++ second, all-append first second all more, inr (then ∙ ap (λ (log : List Batch). log ++ second) is ∙ append_assoc (log_at a zone) first second))

    by : (moves : List Batch) × AllByRecursion IsMove moves × ((log_at c zone ≡ moves) ⊎ (log_at c zone ≡ log_at b zone ++ moves)) → (moves : List Batch) × AllByRecursion IsMove moves × ((log_at c zone ≡ moves) ⊎ (log_at c zone ≡ log_at a zone ++ moves))
    by (moves, all, inl is) = (moves, all, inl is)
    by (moves, all, inr is) = here (p zone).0 moves (p zone).1 all (p zone).2 is
