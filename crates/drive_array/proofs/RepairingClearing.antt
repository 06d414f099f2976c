-- While a torn zone is repaired, the cleared drive has at most that one torn zone.
use Rattle.std.proofs.Common.{◌≡◌, ◌≢◌, ◌⊎◌, inl, inr, ℕ, ◌<◌, Bool, true, false, List, [], ◌∷◌, length, set, get_or, Option, Some, None, refl, sym, ap, ◌∙◌, arith}
use Rattle.std.specs.List.{AllByRecursion}
use Rattle.std.proofs.lemmas.Bool.{cases_eq}
use Rattle.std.proofs.lemmas.List.{get_or-set_same, get_or-set_other, length-set, set_comm, set-set}
use Rattle.zone_states.specs.declared.geometry.Geometry.{Geometry}
use Rattle.batch_log.specs.Log.{Batch}
use Rattle.drive_array.specs.Records.{Record, log_records, newest, records, shown, without}
use Rattle.drive_array.specs.Repair.{CanRepair, IsTornAt}
use Rattle.drive_array.specs.Repairing.{IsRepairing, LiesIn}
use Rattle.drive_array.specs.Sizes.{array_of, encoded_size, size_or}
use Rattle.drive_array.specs.Spare.{IsBefore, IsClearing, IsHalfClean, IsSpare, IsVacant, cleared, first_sequence}
use Rattle.drive_array.specs.ZoneLogs.{log_at, log_sequences, sequences}
use Rattle.drive_array.proofs.ClearingLaws.{clearing-part, one_clearing}
use Rattle.drive_array.proofs.DeadLaws.{NotIn, newest-without}
use Rattle.drive_array.proofs.FitLaws.{some-length}
use Rattle.drive_array.proofs.RepairingArrays.{array-same, block-same, greatest-within, in-range}
use Rattle.drive_array.proofs.RepairingRecords.{IsAbove, newest-unsaid, put-none}
use Rattle.drive_array.proofs.SequenceLaws.{first-below, zone-sequences}
use Rattle.drive_array.proofs.SizeLaws.{same-size}

-- ---- the Moves come after all batches

-- the torn zone is one of the drive
pub torn-below : (block_bytes n torn into : ℕ) (logs : List (List Batch)) (moves : List Batch) → IsRepairing block_bytes n logs torn into moves → torn < length logs
torn-below block_bytes n torn into logs moves is = in-range logs torn is.has_batch

older-first : (logs : List (List Batch)) (zone : ℕ) (moves : List Batch) → AllByRecursion (IsAbove (sequences logs)) moves → log_at logs zone ≢ [] → moves ≢ [] → IsBefore (first_sequence (log_at logs zone)) (first_sequence moves)
older-first logs zone [] later some some' = absurd (some' refl)
older-first logs zone (b ∷ bs) later some some' =
    first-below b.heading.sequence (log_at logs zone) (zone-sequences (λ s. s < b.heading.sequence) logs zone later.0) (some-length (log_at logs zone) some)

-- Moves above all sequences are before none of them
pub no-later : (logs : List (List Batch)) (zone : ℕ) (moves : List Batch) → AllByRecursion (IsAbove (sequences logs)) moves → IsBefore (first_sequence moves) (first_sequence (log_at logs zone)) → ⊥
no-later logs zone [] later before = before
no-later logs zone (b ∷ bs) later before = by (log_at logs zone) (zone-sequences (λ s. s < b.heading.sequence) logs zone later.0) before
  where
    by : (log : List Batch) → AllByRecursion (λ s. s < b.heading.sequence) (log_sequences log) → IsBefore (Some b.heading.sequence) (first_sequence log) → ⊥
    by [] all before = before
    by (x ∷ log) all before = omega (arith, all.0, before)

-- ---- no other zone gets half clean

-- a record that is in another zone is not in this one
not-in : (zone torn : ℕ) (r : Option Record) → zone ≢ torn → LiesIn torn r → NotIn zone r
not-in zone torn None apart is = tt
not-in zone torn (Some r) apart is = λ here. apart (sym here ∙ is)

not-half : (block_bytes n torn into zone : ℕ) (logs : List (List Batch)) (moves : List Batch) → IsRepairing block_bytes n logs torn into moves
    → zone < length logs → zone ≢ into → zone ≢ torn → IsHalfClean block_bytes n (set logs into moves) zone → ⊥
not-half block_bytes n torn into zone logs moves is lt off_into off_torn half =
    is.none_left zone lt (record { victim = half.victim; apart = half.apart; moves = rw here at half.moves; older = older; spare = spare })
  where
    new : List (List Batch)
    new = set logs into moves

    less : List (List Batch)
    less = without logs zone

    here : log_at new zone ≡ log_at logs zone
    here = get_or-set_other logs into zone moves [] off_into

    older : IsBefore (first_sequence (log_at logs half.victim)) (first_sequence (log_at logs zone))
    older = elim (cases_eq half.victim into) as (λ _. IsBefore (first_sequence (log_at logs half.victim)) (first_sequence (log_at logs zone))) [
      | inl e ↦ absurd (no-later logs zone moves is.later (rw (e, here, get_or-set_same logs into moves [] is.in_range) at half.older))
      | inr other ↦ rw (here, get_or-set_other logs into half.victim moves [] other) at half.older
    ]

    swapped : set less into moves ≡ without new zone
    swapped = set_comm logs zone into [] moves off_into

    vacant : IsVacant less into
    vacant = get_or-set_other logs zone into [] [] (λ e. off_into (sym e)) ∙ is.vacant

    range : into < length less
    range = omega (arith, is.in_range, length-set logs zone [])

    torn_below : torn < length logs
    torn_below = torn-below block_bytes n torn into logs moves is

    kept : log_at less torn ≡ log_at logs torn
    kept = get_or-set_other logs zone torn [] [] (λ e. off_torn (sym e))

    -- the torn zone is among the rest, so the Moves do not change its greatest size
    size : encoded_size n less ≡ encoded_size n logs
    size =
        let before = greatest-within less into torn moves range (omega (arith, torn_below, length-set logs zone [])) vacant (rw kept is.within) in
        let all = greatest-within logs into torn moves is.in_range torn_below is.vacant is.within in
        sym (ap (size_or n) before) ∙ ap (λ (ls : List (List Batch)). encoded_size n ls) swapped ∙ same-size block_bytes n (without new zone) new half.spare ∙ ap (size_or n) all

    block : (l : ℕ) → l < encoded_size n logs → shown block_bytes (newest l (records 0 less)) ≡ shown block_bytes (newest l (records 0 logs))
    block l small = by (is.moved l)
      where
        by : (newest l (log_records into 0 moves) ≡ None) ⊎ LiesIn torn (newest l (records 0 logs)) → shown block_bytes (newest l (records 0 less)) ≡ shown block_bytes (newest l (records 0 logs))
        by (inr there) = ap (shown block_bytes) (newest-without l zone logs lt (not-in zone torn (newest l (records 0 logs)) off_torn there))
        by (inl none) =
            let rest = newest-unsaid l into less moves range vacant none in
            let all = newest-unsaid l into logs moves is.in_range is.vacant none in
            let both = block-same block_bytes n l (without new zone) new half.spare (omega (arith, small, same-size block_bytes n new logs is.array_is)) in
            ap (shown block_bytes) (sym rest) ∙ ap (λ (ls : List (List Batch)). shown block_bytes (newest l (records 0 ls))) swapped ∙ both ∙ ap (shown block_bytes) all

    spare : IsSpare block_bytes n logs zone
    spare = array-same block_bytes n less logs size block

-- ---- the zone of the Moves is half clean

-- a zone without a batch is unchanged, once its Moves are taken away
pub put-back : (logs : List (List Batch)) (into : ℕ) (moves : List Batch) → IsVacant logs into → without (set logs into moves) into ≡ logs
put-back logs into moves vacant = set-set logs into moves [] ∙ put-none logs into vacant

-- the Moves of a repair can be taken away again
pub moves-half : (block_bytes n torn into : ℕ) (logs : List (List Batch)) (moves : List Batch) → IsRepairing block_bytes n logs torn into moves → moves ≢ [] → IsHalfClean block_bytes n (set logs into moves) into
moves-half block_bytes n torn into logs moves is some =
    let here = get_or-set_same logs into moves [] is.in_range in
    let there = get_or-set_other logs into torn moves [] (λ e. is.apart (sym e)) in
    record {
      victim = torn;
      apart = λ e. is.apart (sym e);
      moves = rw here is.are_moves;
      older = rw (here, there) (older-first logs torn moves is.later is.has_batch some);
      spare = ap (array_of block_bytes n) (put-back logs into moves is.vacant) ∙ sym is.array_is;
    }

-- ---- the cleared drive

-- in the logs without the Moves only the torn zone is torn
back : (geometry : Geometry) (limit size into : ℕ) (logs : List (List Batch)) (tails now : List Bool) → IsVacant logs into
    → ((zone : ℕ) → get_or now zone false ≡ true → (get_or tails zone false ≡ true) ⊎ (zone ≡ into)) → CanRepair geometry limit size logs tails → CanRepair geometry limit size logs now
back geometry limit size into logs tails now vacant more can = record {
  one = λ a b is is'. can.one a b (old a is) (old b is');
  fits = λ a is. can.fits a (old a is);
}
  where
    old : (zone : ℕ) → IsTornAt logs now zone → IsTornAt logs tails zone
    old zone is = elim (more zone is.tail) as (λ _. IsTornAt logs tails zone) [ inl tail ↦ record { batch = is.batch; tail = tail } | inr e ↦ absurd (is.batch (rw e vacant)) ]

-- It begins with the zone of the Moves, or with the torn zone where that is half clean: there is no other.
pub repair_keeps : (geometry : Geometry) (limit n torn into : ℕ) (logs : List (List Batch)) (moves : List Batch) (tails now : List Bool) (resets : List ℕ)
    → IsRepairing geometry.block n logs torn into moves
    → CanRepair geometry limit (encoded_size n logs) logs tails
    → ((zone : ℕ) → get_or now zone false ≡ true → (get_or tails zone false ≡ true) ⊎ (zone ≡ into))
    → ((zone : ℕ) → get_or tails zone false ≡ true → zone ≡ torn)
    → (get_or now into false ≡ true → IsHalfClean geometry.block n (set logs into moves) torn → ⊥)
    → IsClearing geometry.block n (set logs into moves) resets
    → CanRepair geometry limit (encoded_size n logs) (cleared (set logs into moves) resets) now
repair_keeps geometry limit n torn into logs [] tails now resets is can more only whole clearing =
    let same : set logs into [] ≡ logs = put-none logs into is.vacant in
    let none = one_clearing geometry.block n logs resets [] (rw same at clearing) is.none_left in
    rw (same, none) (back geometry limit (encoded_size n logs) into logs tails now is.vacant more can)
repair_keeps geometry limit n torn into logs (b ∷ bs) tails now [] is can more only whole clearing =
    absurd (clearing into (omega (arith, is.in_range, length-set logs into (b ∷ bs))) (moves-half geometry.block n torn into logs (b ∷ bs) is (λ e. absurd (cc))))
repair_keeps geometry limit n torn into logs (b ∷ bs) tails now (z ∷ zs) is can more only whole clearing =
    elim (cases_eq z into) as (λ _. Goal) [
      | inl e ↦ into_first e
      | inr off_into ↦ (elim (cases_eq z torn) as (λ _. Goal) [
        | inl e ↦ torn_first e
        | inr off_torn ↦ absurd (not-half geometry.block n torn into z logs (b ∷ bs) is (omega (arith, clearing.0.in_range, length-set logs into (b ∷ bs))) off_into off_torn clearing.0.half_clean)
      ])
    ]
  where
    new : List (List Batch)
    new = set logs into (b ∷ bs)

    Goal : Type 0
    Goal = CanRepair geometry limit (encoded_size n logs) (cleared (without new z) zs) now

    into_first : z ≡ into → Goal
    into_first e =
        let same : without new z ≡ logs = ap (without new) e ∙ put-back logs into (b ∷ bs) is.vacant in
        let none = one_clearing geometry.block n logs zs [] (rw same at clearing.1) is.none_left in
        rw (same, none) (back geometry limit (encoded_size n logs) into logs tails now is.vacant more can)

    torn_first : z ≡ torn → Goal
    torn_first e = record { one = λ a c is_a is_c. absurd (never a is_a); fits = λ a is_a. absurd (never a is_a) }
      where
        gone : log_at (cleared (without new z) zs) torn ≡ []
        gone =
            let empty : log_at (without new z) torn ≡ [] = rw e (get_or-set_same new torn [] [] (omega (arith, clearing.0.in_range, e))) in
            elim (clearing-part (without new z) zs torn) as (λ _. log_at (cleared (without new z) zs) torn ≡ []) [ inl same ↦ same ∙ empty | inr none ↦ none ]

        half : IsHalfClean geometry.block n new torn
        half = rw e at clearing.0.half_clean

        never : (a : ℕ) → IsTornAt (cleared (without new z) zs) now a → ⊥
        never a is_a = elim (more a is_a.tail) as (λ _. ⊥) [
          | inl tail ↦ (let here = only a tail in is_a.batch (rw here gone))
          | inr here ↦ whole (rw here at is_a.tail) half
        ]
