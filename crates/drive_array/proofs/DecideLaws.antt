-- Whether a zone is half clean can be decided, so there is a clearing.
use Rattle.std.proofs.Common.{◌≡◌, ◌≢◌, ◌⊎◌, inl, inr, ℕ, zero, suc, ◌<◌, ◌≤◌, List, [], ◌∷◌, length, Option, Some, None, refl, sym, ◌∙◌, arith}
use Rattle.std.specs.List.{AllByRecursion}
use Rattle.std.proofs.lemmas.Bool.{cases_eq, cases_lt}
use Rattle.batch_log.specs.declared.header.Kind.{Kind}
use Rattle.batch_log.specs.declared.header.Kind.TheVariants.{Host, Move}
use Rattle.batch_log.specs.Log.{Batch}
use Rattle.drive_array.specs.Records.{without}
use Rattle.drive_array.specs.Sizes.{array_of}
use Rattle.drive_array.specs.Spare.{IsBefore, IsClearing, IsHalfClean, IsLowest, IsMoveFrom, NoneBelow, first_sequence}
use Rattle.drive_array.specs.ZoneLogs.{log_at}
use Rattle.drive_array.specs.Laws.{OneClearing}
use Rattle.drive_array.proofs.ClearingLaws.{fewer, has_batch, one_clearing, with_batch}

-- it holds, or it does not
abbrev Decided : Type 0 → Type 0
Decided P = P ⊎ (P → ⊥)

list-decided : {X : Type 0} → ((x y : X) → Decided (x ≡ y)) → (xs ys : List X) → Decided (xs ≡ ys)
list-decided d [] [] = inl refl
list-decided d [] (y ∷ ys) = inr (λ e. absurd (cc))
list-decided d (x ∷ xs) [] = inr (λ e. absurd (cc))
list-decided {X} d (x ∷ xs) (y ∷ ys) = both (d x y) (list-decided d xs ys)
  where
    both : Decided (x ≡ y) → Decided (xs ≡ ys) → Decided (x ∷ xs ≡ y ∷ ys)
    both (inl e) (inl f) = inl (rw (e, f) refl)
    both (inr differ) f = inr (λ e. differ (cc))
    both (inl e) (inr differ) = inr (λ f. differ (cc))

arrays-decided : (xs ys : List (List ℕ)) → Decided (xs ≡ ys)
arrays-decided xs ys = list-decided (list-decided cases_eq) xs ys

move-decided : (source : ℕ) (b : Batch) → Decided (IsMoveFrom source b)
move-decided source b = by b.heading.kind refl (cases_eq b.heading.source source)
  where
    by : (k : Kind) → b.heading.kind ≡ k → (b.heading.source ≡ source) ⊎ (b.heading.source ≢ source) → Decided (IsMoveFrom source b)
    by Move is (inl same) = inl (is, same)
    by Move is (inr other) = inr (λ m. other m.1)
    by Host is other = inr (λ m. absurd (let a = m.0 in cc))

moves-decided : (source : ℕ) (log : List Batch) → Decided (AllByRecursion (IsMoveFrom source) log)
moves-decided source [] = inl tt
moves-decided source (b ∷ bs) = both (move-decided source b) (moves-decided source bs)
  where
    both : Decided (IsMoveFrom source b) → Decided (AllByRecursion (IsMoveFrom source) bs) → Decided (AllByRecursion (IsMoveFrom source) (b ∷ bs))
    both (inl p) (inl q) = inl (p, q)
    both (inr no_p) q = inr (λ h. no_p h.0)
    both (inl p) (inr no_q) = inr (λ h. no_q h.1)

before-decided : (x y : Option ℕ) → Decided (IsBefore x y)
before-decided None y = inr (λ h. h)
before-decided (Some a) None = inr (λ h. h)
before-decided (Some a) (Some b) = elim (cases_lt a b) as (λ _. Decided (a < b)) [ inl lt ↦ inl lt | inr ge ↦ inr (λ lt. absurd (omega arith)) ]

-- the source of the first batch is the victim, if any
victim-is : (a : ℕ) (first : Batch) (log rest : List Batch) → log ≡ first ∷ rest → AllByRecursion (IsMoveFrom a) log → a ≡ first.heading.source
victim-is a first log rest e all = let parts = rw e at all in sym parts.0.1

half-decided : (block_bytes n : ℕ) (logs : List (List Batch)) (zone : ℕ) → Decided (IsHalfClean block_bytes n logs zone)
half-decided block_bytes n logs zone = by (log_at logs zone) refl
  where
    Half : Type 0
    Half = IsHalfClean block_bytes n logs zone

    test : (v : ℕ) → ((half : Half) → half.victim ≡ v) → (v ≡ zone) ⊎ (v ≢ zone) → Decided (AllByRecursion (IsMoveFrom v) (log_at logs zone)) → Decided (IsBefore (first_sequence (log_at logs v)) (first_sequence (log_at logs zone)))
        → Decided (array_of block_bytes n (without logs zone) ≡ array_of block_bytes n logs) → Decided Half
    test v one (inl same) m b s = inr (λ half. half.apart (one half ∙ same))
    test v one (inr apart) (inr no_moves) b s = inr (λ half. no_moves (rw (one half) at half.moves))
    test v one (inr apart) (inl moves) (inr not_before) s = inr (λ half. not_before (rw (one half) at half.older))
    test v one (inr apart) (inl moves) (inl before) (inr lost) = inr (λ half. lost half.spare)
    test v one (inr apart) (inl moves) (inl before) (inl spare) = inl (record { victim = v; apart = apart; moves = moves; older = before; spare = spare })

    by : (log : List Batch) → log_at logs zone ≡ log → Decided Half
    by [] e = inr (λ half. has_batch block_bytes n logs zone half e)
    by (b ∷ bs) e =
        let v = b.heading.source in
        test v (λ half. victim-is half.victim b (log_at logs zone) bs e half.moves) (cases_eq v zone) (moves-decided v (log_at logs zone))
        (before-decided (first_sequence (log_at logs v)) (first_sequence (log_at logs zone)))
        (arrays-decided (array_of block_bytes n (without logs zone)) (array_of block_bytes n logs))

-- the lowest below a limit, or none
lowest-below : (block_bytes n : ℕ) (logs : List (List Batch)) (limit : ℕ) → limit ≤ length logs → ((zone : ℕ) × IsLowest block_bytes n logs zone) ⊎ NoneBelow block_bytes n logs limit
lowest-below block_bytes n logs zero le = inr (λ zone lt half. absurd (omega arith))
lowest-below block_bytes n logs (suc limit) le = step (lowest-below block_bytes n logs limit (omega arith)) (half-decided block_bytes n logs limit)
  where
    step : ((zone : ℕ) × IsLowest block_bytes n logs zone) ⊎ NoneBelow block_bytes n logs limit → Decided (IsHalfClean block_bytes n logs limit) → ((zone : ℕ) × IsLowest block_bytes n logs zone) ⊎ NoneBelow block_bytes n logs (suc limit)
    step (inl found) d = inl found
    step (inr none) (inl half) = inl (limit, record { in_range = omega arith; half_clean = half; lowest = none })
    step (inr none) (inr not_half) = inr (λ zone lt half. elim (cases_eq zone limit) as (λ _. ⊥) [ inl e ↦ not_half (rw e at half) | inr other ↦ none zone (omega arith) half ])

clearing-for : (block_bytes n fuel : ℕ) (logs : List (List Batch)) → with_batch logs ≤ fuel → (zones : List ℕ) × IsClearing block_bytes n logs zones
clearing-for block_bytes n zero logs le = by (lowest-below block_bytes n logs (length logs) (omega arith))
  where
    by : ((zone : ℕ) × IsLowest block_bytes n logs zone) ⊎ NoneBelow block_bytes n logs (length logs) → (zones : List ℕ) × IsClearing block_bytes n logs zones
    by (inr none) = ([], none)
    by (inl found) = absurd (omega (arith, le, fewer logs found.0 (has_batch block_bytes n logs found.0 found.1.half_clean)))
clearing-for block_bytes n (suc fuel) logs le =
    by (λ zone enough. clearing-for block_bytes n fuel (without logs zone) enough) (lowest-below block_bytes n logs (length logs) (omega arith))
  where
    by : ((zone : ℕ) → with_batch (without logs zone) ≤ fuel → (zones : List ℕ) × IsClearing block_bytes n (without logs zone) zones)
        → ((zone : ℕ) × IsLowest block_bytes n logs zone) ⊎ NoneBelow block_bytes n logs (length logs) → (zones : List ℕ) × IsClearing block_bytes n logs zones
    by more (inr none) = ([], none)
    by more (inl found) =
        let rest = more found.0 (omega (arith, le, fewer logs found.0 (has_batch block_bytes n logs found.0 found.1.half_clean))) in
        (found.0 ∷ rest.0, (found.1, rest.1))

-- there is at most one clearing
pub has_clearing : OneClearing
has_clearing block_bytes n logs =
    let found = clearing-for block_bytes n (with_batch logs) logs (omega arith) in
    record { zones = found.0; is = found.1; one = λ others is. one_clearing block_bytes n logs others found.0 is found.1 }
