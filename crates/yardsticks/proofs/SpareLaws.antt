-- Half clean zones, and the clearing of logs.
use Rattle.std.proofs.Common.{◌≡◌, ◌≢◌, ℕ, zero, suc, ◌<◌, List, [], ◌∷◌, length, get_or, Vec, refl, sym, ap, ◌∙◌, arith}
use Rattle.std.specs.declared.alloc.Global.{Global}
use Rattle.std.specs.List.{AllByRecursion}
use Rattle.batch_log.specs.Log.{Batch}
use Rattle.yardsticks.specs.declared.batches.Batch as yardstick
use Rattle.yardsticks.specs.Batches.{batch_of, held_blocks}
use Rattle.drive_array.specs.Records.{without}
use Rattle.drive_array.specs.Spare.{IsBefore, IsHalfClean, IsLowest, IsMoveFrom, IsSpare, NoneBelow, first_sequence}
use Rattle.drive_array.specs.ZoneLogs.{log_at}
use Rattle.drive_array.proofs.ClearingLaws.{fewer, has_batch, with_batch}
use Rattle.yardsticks.specs.Zones.{HasClearing, held_log, held_logs}
use Rattle.zone_states.proofs.ListLaws.{all-map, all-unmap}

-- ---- blocks that are the same

-- blocks of the same lists are the same
pub same-at : (a b : List (Vec ℕ Global)) (i : ℕ) (x y : Vec ℕ Global) → i < length a → i < length b → x ≡ get_or a i x → y ≡ get_or b i y → held_blocks a ≡ held_blocks b → x.items ≡ y.items
same-at [] b i x y lt lt' x-is y-is same = absurd (omega arith)
same-at (v ∷ vs) [] i x y lt lt' x-is y-is same = absurd (omega arith)
same-at (v ∷ vs) (w ∷ ws) zero x y lt lt' x-is y-is same =
    let first : v.items ≡ w.items = cc in
    ap (λ (u : Vec ℕ Global). u.items) x-is ∙ first ∙ sym (ap (λ (u : Vec ℕ Global). u.items) y-is)
same-at (v ∷ vs) (w ∷ ws) (suc i) x y lt lt' x-is y-is same = let rest : held_blocks vs ≡ held_blocks ws = cc in same-at vs ws i x y (omega arith) (omega arith) x-is y-is rest

-- ---- half clean zones

-- a log that was read is its zone's
pub log-read : (logs : List (Vec yardstick.Batch Global)) (zone : ℕ) (log : Vec yardstick.Batch Global) → zone < length logs → log ≡ get_or logs zone log → held_log log.items ≡ log_at (held_logs logs) zone
log-read [] zone log lt is = absurd (omega arith)
log-read (l ∷ ls) zero log lt is = ap (λ (v : Vec yardstick.Batch Global). held_log v.items) is
log-read (l ∷ ls) (suc zone) log lt is = log-read ls zone log (omega arith) is

-- a zone without batches, or with batches that are no Moves from one zone, is not half clean
pub not_half_clean-mixed : (block_bytes n : ℕ) (logs : List (List Batch)) (zone : ℕ) (log : List yardstick.Batch) → held_log log ≡ log_at logs zone
    → ((source : ℕ) → AllByRecursion (λ batch. IsMoveFrom source (batch_of batch)) log → log ≡ []) → IsHalfClean block_bytes n logs zone → ⊥
not_half_clean-mixed block_bytes n logs zone log is none half =
    let moves = all-unmap (IsMoveFrom half.victim) batch_of log (rw is half.moves) in
    has_batch block_bytes n logs zone half (sym is ∙ ap held_log (none half.victim moves))

one_source : (a b : ℕ) (log : List Batch) → (log ≡ [] → ⊥) → AllByRecursion (IsMoveFrom a) log → AllByRecursion (IsMoveFrom b) log → a ≡ b
one_source a b [] some all all' = absurd (some refl)
one_source a b (batch ∷ log) some all all' = sym all.0.1 ∙ all'.0.1

-- the zone from which all batches were moved is the victim
pub victim-is : (block_bytes n : ℕ) (logs : List (List Batch)) (zone source : ℕ) (log : List yardstick.Batch) → held_log log ≡ log_at logs zone
    → AllByRecursion (λ batch. IsMoveFrom source (batch_of batch)) log → (half : IsHalfClean block_bytes n logs zone) → half.victim ≡ source
victim-is block_bytes n logs zone source log is moves half =
    one_source half.victim source (log_at logs zone) (has_batch block_bytes n logs zone half) half.moves (rw (← is) (all-map (IsMoveFrom source) batch_of log moves))

-- what makes a zone half clean
pub half_clean-is : (block_bytes n : ℕ) (logs : List (List Batch)) (zone source : ℕ) (log : List yardstick.Batch) → held_log log ≡ log_at logs zone
    → AllByRecursion (λ batch. IsMoveFrom source (batch_of batch)) log → source ≢ zone → IsBefore (first_sequence (log_at logs source)) (first_sequence (log_at logs zone))
    → IsSpare block_bytes n logs zone → IsHalfClean block_bytes n logs zone
half_clean-is block_bytes n logs zone source log is moves apart older spare =
    record { victim = source; apart = apart; moves = rw (← is) (all-map (IsMoveFrom source) batch_of log moves); older = older; spare = spare }

-- ---- the clearing

-- if no zone is half clean, nothing is cleared
pub nothing_clears : (block_bytes n : ℕ) (logs : List (List Batch)) → NoneBelow block_bytes n logs (length logs) → HasClearing block_bytes n logs logs
nothing_clears block_bytes n logs none = record { zones = []; clears = none; left_is = refl }

-- the lowest one is cleared, and then the others
pub lowest_clears : (block_bytes n : ℕ) (logs left : List (List Batch)) (zone : ℕ) → IsLowest block_bytes n logs zone → HasClearing block_bytes n (without logs zone) left → HasClearing block_bytes n logs left
lowest_clears block_bytes n logs left zone lowest is = record { zones = zone ∷ is.zones; clears = (lowest, is.clears); left_is = is.left_is }

-- fewer zones have a batch after it
pub lowest_fewer : (block_bytes n : ℕ) (logs now : List (List Batch)) (zone : ℕ) → now ≡ without logs zone → IsLowest block_bytes n logs zone → with_batch now < with_batch logs
lowest_fewer block_bytes n logs now zone is lowest = rw is (omega (arith, fewer logs zone (has_batch block_bytes n logs zone lowest.half_clean)))
