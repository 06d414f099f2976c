-- After the last Move of a repair nothing is lost with the torn zone; before that the torn zone is not half clean.
use Rattle.std.proofs.Common.{◌≡◌, ◌≢◌, ◌⊎◌, inl, inr, ℕ, ◌<◌, List, [], length, set, Option, Some, None, refl, sym, ap, ◌∙◌, arith}
use Rattle.std.specs.List.{AllByRecursion}
use Rattle.std.proofs.lemmas.Bool.{cases_eq}
use Rattle.std.proofs.lemmas.List.{get_or-set_other, get_or-set_same, length-set, set_comm}
use Rattle.batch_log.specs.Log.{Batch}
use Rattle.drive_array.specs.Records.{Record, log_records, newest, records, shown, without}
use Rattle.drive_array.specs.Repairing.{IsMoved, IsRepairing, LiesIn, NeededStays, RepairEnds}
use Rattle.drive_array.specs.Sizes.{greatest, larger, log_greatest, size_or}
use Rattle.drive_array.specs.Spare.{IsBefore, IsHalfClean, IsSpare, IsVacant, first_sequence}
use Rattle.drive_array.specs.ZoneLogs.{log_at, sequences, zone_log, zone_logs}
use Rattle.drive_array.proofs.AllLaws.{all-weaker}
use Rattle.drive_array.proofs.DeadLaws.{NotIn, greatest-split, newest-without}
use Rattle.drive_array.proofs.RepairingArrays.{array-same, block-same, greatest-put, greatest-within}
use Rattle.drive_array.proofs.RepairingClearing.{no-later, torn-below}
use Rattle.drive_array.proofs.RepairingMounts.{logs-now, made-there}
use Rattle.drive_array.proofs.RepairingRecords.{IsAbove, newest-said, newest-unsaid}
use Rattle.drive_array.proofs.SizeLaws.{same-size, without-numbers}

-- ---- the logs without the torn zone

-- the Moves are in them as before
record Rest (logs : List (List Batch)) (torn into : ℕ) (moves : List Batch) : Type 0 where
  range : into < length (without logs torn)
  vacant : IsVacant (without logs torn) into
  swapped : without (set logs into moves) torn ≡ set (without logs torn) into moves
  size : greatest (without (set logs into moves) torn) ≡ larger (log_greatest moves) (greatest (without logs torn))

rest : (block_bytes n torn into : ℕ) (logs : List (List Batch)) (moves : List Batch) → IsRepairing block_bytes n logs torn into moves → Rest logs torn into moves
rest block_bytes n torn into logs moves is =
    let less = without logs torn in
    let range : into < length less = omega (arith, is.in_range, length-set logs torn []) in
    let vacant : IsVacant less into = get_or-set_other logs torn into [] [] is.apart ∙ is.vacant in
    let swapped : without (set logs into moves) torn ≡ set less into moves = set_comm logs into torn moves [] is.apart in
    record {
      range = range;
      vacant = vacant;
      swapped = swapped;
      size = ap greatest swapped ∙ greatest-put less into moves range vacant;
    }

size-now : (block_bytes n torn into : ℕ) (logs : List (List Batch)) (moves : List Batch) → IsRepairing block_bytes n logs torn into moves → greatest (set logs into moves) ≡ greatest logs
size-now block_bytes n torn into logs moves is = greatest-within logs into torn moves is.in_range (torn-below block_bytes n torn into logs moves is) is.vacant is.within

-- ---- the end

none-or : (x : Option Record) → (x ≡ None) ⊎ (x ≢ None)
none-or None = inl refl
none-or (Some r) = inr (λ e. absurd (cc))

-- a record lies in a zone, or it does not
pub lies-or : (zone : ℕ) (x : Option Record) → LiesIn zone x ⊎ NotIn zone x
lies-or zone None = inr tt
lies-or zone (Some r) = cases_eq r.zone zone

torn-spare : (block_bytes n torn into : ℕ) (logs : List (List Batch)) (moves : List Batch) → IsRepairing block_bytes n logs torn into moves
    → ((block : ℕ) → LiesIn torn (newest block (records 0 logs)) → newest block (log_records into 0 moves) ≢ None) → log_greatest moves ≡ log_greatest (log_at logs torn)
    → IsSpare block_bytes n (set logs into moves) torn
torn-spare block_bytes n torn into logs moves is named says =
    array-same block_bytes n (without new torn) new (ap (size_or n) size) (λ block lt. ap (shown block_bytes) (ap (λ (ls : List (List Batch)). newest block (records 0 ls)) others.swapped ∙ each block (none-or (newest block (log_records into 0 moves)))))
  where
    new : List (List Batch)
    new = set logs into moves

    less : List (List Batch)
    less = without logs torn

    others : Rest logs torn into moves
    others = rest block_bytes n torn into logs moves is

    torn_below : torn < length logs
    torn_below = torn-below block_bytes n torn into logs moves is

    size : greatest (without new torn) ≡ greatest new
    size = others.size ∙ ap (λ (s : Option ℕ). larger s (greatest less)) says ∙ sym (greatest-split logs torn torn_below) ∙ sym (size-now block_bytes n torn into logs moves is)

    later : AllByRecursion (IsAbove (sequences less)) moves
    later = all-weaker (IsAbove (sequences logs)) (IsAbove (sequences less)) moves (λ b above. without-numbers (λ s. s < b.heading.sequence) logs torn above) is.later

    each : (block : ℕ) → (newest block (log_records into 0 moves) ≡ None) ⊎ (newest block (log_records into 0 moves) ≢ None) → newest block (records 0 (set less into moves)) ≡ newest block (records 0 new)
    each block (inr some) = newest-said block into less moves others.range later some ∙ sym (newest-said block into logs moves is.in_range is.later some)
    each block (inl none) =
        let elsewhere : NotIn torn (newest block (records 0 logs)) = elim (lies-or torn (newest block (records 0 logs))) as (λ _. NotIn torn (newest block (records 0 logs))) [ inl there ↦ absurd (named block there none) | inr out ↦ out ] in
        newest-unsaid block into less moves others.range others.vacant none ∙ newest-without block torn logs torn_below elsewhere ∙ sym (newest-unsaid block into logs moves is.in_range is.vacant none)

-- a repair ends with the torn zone emptied, and the same array
pub repair_ends : RepairEnds
repair_ends geometry n torn into base now small is named says =
    let there = made-there geometry n torn into base now is in
    rw (logs-now geometry n torn into base now is) (torn-spare geometry.block n torn into (zone_logs geometry base) (zone_log geometry is.made) is.repairing (rw there at named) (rw there at says))

-- ---- while it is needed

still-moved : (block_bytes n torn into : ℕ) (logs : List (List Batch)) (moves : List Batch) → IsRepairing block_bytes n logs torn into moves → IsHalfClean block_bytes n (set logs into moves) torn → IsMoved logs torn
still-moved block_bytes n torn into logs moves is half =
    let here : log_at (set logs into moves) torn ≡ log_at logs torn = get_or-set_other logs into torn moves [] (λ e. is.apart (sym e)) in
    record {
      victim = half.victim;
      apart = half.apart;
      moves = rw here at half.moves;
      older = elim (cases_eq half.victim into) as (λ _. IsBefore (first_sequence (log_at logs half.victim)) (first_sequence (log_at logs torn))) [
        | inl e ↦ absurd (no-later logs torn moves is.later (rw (e, here, get_or-set_same logs into moves [] is.in_range) at half.older))
        | inr other ↦ rw (here, get_or-set_other logs into half.victim moves [] other) at half.older
      ];
    }

-- what is still to be moved stays the same while Moves are appended
pub needed_stays : NeededStays
needed_stays block_bytes n torn into logs moves is (inl not_moved) half = not_moved (still-moved block_bytes n torn into logs moves is half)
needed_stays block_bytes n torn into logs moves is (inr (inl (block, needs, none))) half =
    let new = set logs into moves in
    let others = rest block_bytes n torn into logs moves is in
    let same = block-same block_bytes n block (without new torn) new half.spare (omega (arith, needs.in_range, ap (size_or n) (size-now block_bytes n torn into logs moves is))) in
    needs.differs (
    ap (shown block_bytes) (sym (newest-unsaid block into (without logs torn) moves others.range others.vacant none))
    ∙ ap (λ (ls : List (List Batch)). shown block_bytes (newest block (records 0 ls))) (sym others.swapped) ∙ same
    ∙ ap (shown block_bytes) (newest-unsaid block into logs moves is.in_range is.vacant none)
    )
needed_stays block_bytes n torn into logs moves is (inr (inr (alone, none))) half =
    let new = set logs into moves in
    let others = rest block_bytes n torn into logs moves is in
    let less : greatest (without new torn) ≡ greatest (without logs torn) = others.size ∙ ap (λ (s : Option ℕ). larger s (greatest (without logs torn))) none in
    alone (sym (ap (size_or n) less) ∙ same-size block_bytes n (without new torn) new half.spare ∙ ap (size_or n) (size-now block_bytes n torn into logs moves is))
