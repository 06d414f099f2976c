-- Into which batches a write is cut.
use Rattle.std.proofs.Common.{◌≡◌, ◌⊎◌, ℕ, zero, suc, ◌+◌, ◌-◌, ◌<◌, ◌≤◌, Bool, true, false, ◌||◌, min, List, [], ◌∷◌, ◌++◌, length, refl, ap, subst, ◌∙◌, inl, inr, arith}
use Rattle.std.specs.List.{AllByRecursion, Contains}
use Rattle.std.proofs.lemmas.Bool.{cases_eq, cases_lt, eq-eqb}
use Rattle.zone_states.specs.declared.geometry.Geometry.{Geometry}
use Rattle.batch_log.specs.Log.{Batch, batch_size, data_count, log_size}
use Rattle.zone_choice.specs.declared.roles.Filling.{Filling}
use Rattle.zone_choice.specs.Builder.{entries_from}
use Rattle.drive_array.specs.Records.{append_log}
use Rattle.drive_array.specs.Reserve.{batch_most}
use Rattle.drive_array.specs.ZoneLogs.{log_at}
use Rattle.drive_array.proofs.AppendLaws.{log_at-other, log_at-same}
use Rattle.zone_cleaner.specs.Turns.{IsMove, OnlyMoves}
use Rattle.zone_translator.specs.Batches.{AreCut, IsCut, LogsAreCut, Stands, batch_count, names}
use Rattle.zone_translator.proofs.BatchLaws.{data_count-entries, length-entries}

-- ---- logs

cut-append : (g : Geometry) (start : List (List Batch)) (last offset : ℕ) (xs ys : List Batch) → AreCut g start last offset xs → AreCut g start last (offset + log_size xs) ys → AreCut g start last offset (xs ++ ys)
cut-append g start last offset [] ys all more = let here : offset + 0 ≡ offset = omega arith in subst (λ (o : ℕ). AreCut g start last o ys) here more
cut-append g start last offset (x ∷ xs) ys all more =
    let here : offset + (batch_size x + log_size xs) ≡ offset + batch_size x + log_size xs = omega arith in
    (all.0, cut-append g start last (offset + batch_size x) xs ys all.1 (subst (λ (o : ℕ). AreCut g start last o ys) here more))

cut-moves : (g : Geometry) (start : List (List Batch)) (last offset : ℕ) (moves : List Batch) → AllByRecursion IsMove moves → AreCut g start last offset moves
cut-moves g start last offset [] all = tt
cut-moves g start last offset (b ∷ bs) all = (inr (inl all.0), cut-moves g start last (offset + batch_size b) bs all.1)

-- a clean leaves them as they are
pub cut-only : (g : Geometry) (start : List (List Batch)) (last : ℕ) (old new : List (List Batch)) → OnlyMoves old new → LogsAreCut g start last old → LogsAreCut g start last new
cut-only g start last old new only cut zone = by (only zone)
  where
    by : (moves : List Batch) × AllByRecursion IsMove moves × ((log_at new zone ≡ moves) ⊎ (log_at new zone ≡ log_at old zone ++ moves)) → AreCut g start last 0 (log_at new zone)
    by (moves, all, inl is) = rw is (cut-moves g start last 0 moves all)
    by (moves, all, inr is) = rw is (cut-append g start last 0 (log_at old zone) moves (cut zone) (cut-moves g start last (0 + log_size (log_at old zone)) moves all))

-- and a batch more is cut as it should be
pub cut-more : (g : Geometry) (start : List (List Batch)) (last : ℕ) (old new : List (List Batch)) (zone : ℕ) (b : Batch) → zone < length old → new ≡ append_log old zone b → IsCut g start last (log_size (log_at old zone)) b → LogsAreCut g start last old → LogsAreCut g start last new
cut-more g start last old new zone b lt is one cut k = elim (cases_eq k zone) as (λ _. AreCut g start last 0 (log_at new k)) [
  | inl same ↦ rw (same, is, log_at-same old zone b lt) (cut-append g start last 0 (log_at old zone) (b ∷ []) (cut zone) (subst (λ (o : ℕ). IsCut g start last o b) (omega arith) one, tt))
  | inr other ↦ rw (is, log_at-other old zone k b other) (cut k)
]

-- of those that were there nothing is asked
pub cut-old : (g : Geometry) (last : ℕ) (logs : List (List Batch)) → LogsAreCut g logs last logs
cut-old g last logs zone = go 0 (log_at logs zone) (λ b has. (zone, has))
  where
    go : (offset : ℕ) (log : List Batch) → ((b : Batch) → Contains log b → Stands logs b) → AreCut g logs last offset log
    go offset [] each = tt
    go offset (b ∷ bs) each = (inl (each b (0, omega arith, refl)), go (offset + batch_size b) bs (λ c has. each c (suc has.0, omega (arith, has.1), has.2)))

-- a part of a write whose last block is the same
pub cut-step : (g h : Geometry) (start : List (List Batch)) (last end : ℕ) (old new : List (List Batch)) → h ≡ g → end ≡ last → (LogsAreCut h start end old → LogsAreCut h start end new) → LogsAreCut g start last old → LogsAreCut g start last new
cut-step g h start last end old new same at step = subst (λ (x : Geometry). LogsAreCut x start last old → LogsAreCut x start last new) same (subst (λ (l : ℕ). LogsAreCut h start l old → LogsAreCut h start l new) at step)

-- ---- the next batch

or-true : (b : Bool) → b || true ≡ true
or-true true = refl
or-true false = refl

names-last : (trim : Bool) (first count last : ℕ) → 1 ≤ count → last + 1 ≡ first + count → names last (entries_from trim first count) ≡ true
names-last trim first zero last some is = absurd (omega arith)
names-last trim first (suc zero) last some is = let here : first ≡ last = omega (arith, is) in ap (λ (b : Bool). b || false) (eq-eqb first last here)
names-last trim first (suc (suc count)) last some is =
    let rest : names last (entries_from trim (first + 1) (suc count)) ≡ true = names-last trim (first + 1) (suc count) last (omega arith) (omega (arith, is)) in
    rw rest (or-true _)

-- a batch of as many blocks as it takes
pub cut-next : (g : Geometry) (start : List (List Batch)) (first left count offset : ℕ) (host : Filling) (trim : Bool) (b : Batch) → host.written + 2 ≤ g.capacity → 1 ≤ left → count ≡ batch_count g host left trim → b.heading.entries ≡ entries_from trim first count → offset ≡ host.written
    → IsCut g start (first + left - 1) offset b
cut-next g start first left count offset host trim b free some count-is entries-are offset-is = elim (cases_eq count (batch_most g)) as (λ _. IsCut g start (first + left - 1) offset b) [
  | inl most ↦ inr (inr (inl (ap length entries-are ∙ length-entries trim first count ∙ most)))
  | inr fewer ↦ elim (cases_eq count left) as (λ _. IsCut g start (first + left - 1) offset b) [
    | inl all ↦ inr (inr (inr (inl (ap (names (first + left - 1)) entries-are ∙ names-last trim first count (first + left - 1) (omega (arith, all, some)) (omega (arith, all, some))))))
    | inr part ↦ inr (inr (inr (inr (ends trim count-is entries-are fewer part))))
  ]
]
  where
    ends : (trim : Bool) → count ≡ batch_count g host left trim → b.heading.entries ≡ entries_from trim first count → (count ≡ batch_most g → ⊥) → (count ≡ left → ⊥) → offset + batch_size b ≡ g.capacity
    ends true is entries fewer part = elim (cases_lt left (batch_most g)) as (λ _. offset + batch_size b ≡ g.capacity) [ inl less ↦ absurd (part (omega (arith, is, less))) | inr more ↦ absurd (fewer (omega (arith, is, more))) ]
    ends false is entries fewer part =
        let long : data_count b.heading.entries ≡ count = ap data_count entries ∙ data_count-entries first count in
        let rest : count ≡ g.capacity - host.written - 1 = elim (cases_lt (min left (batch_most g)) (g.capacity - host.written - 1)) as (λ _. count ≡ g.capacity - host.written - 1) [
          | inl less ↦ absurd (elim (cases_lt left (batch_most g)) as (λ _. ⊥) [ inl few ↦ part (omega (arith, is, less, few)) | inr many ↦ fewer (omega (arith, is, less, many)) ])
          | inr more ↦ omega (arith, is, more)
        ] in
        omega (arith, long, rest, offset-is, free)
