-- The greatest size, found one after the other.
use Rattle.std.proofs.Common.{◌≡◌, ℕ, ◌+◌, ◌<◌, List, [], ◌∷◌, length, drop, Option, sym, ap, ◌∙◌}
use Rattle.std.proofs.lemmas.List.{drop_more}
use Rattle.batch_log.specs.Log.{Batch}
use Rattle.drive_array.specs.Sizes.{greatest, larger, log_greatest}
use Rattle.drive_array.specs.ZoneLogs.{log_at}
use Rattle.drive_array.proofs.SizeLaws.{larger-assoc}
use Rattle.yardsticks.specs.declared.batches.Batch as yardstick
use Rattle.yardsticks.specs.Zones.{held_log}

-- the greatest size, with one batch more
pub log_greatest-step : (i : ℕ) (log : List yardstick.Batch) (found now whole : Option ℕ) (b : yardstick.Batch) → drop i log ≡ b ∷ drop (i + 1) log → larger found (log_greatest (held_log (drop i log))) ≡ whole
    → now ≡ larger found b.header.size → larger now (log_greatest (held_log (drop (i + 1) log))) ≡ whole
log_greatest-step i log found now whole b split so_far is = rw is (sym (larger-assoc found b.header.size (log_greatest (held_log (drop (i + 1) log)))) ∙ (rw split at so_far))

-- and with one zone more
pub greatest-step : (zone : ℕ) (logs : List (List Batch)) (log : List Batch) (found now whole : Option ℕ) → zone < length logs → log ≡ log_at logs zone → larger found (greatest (drop zone logs)) ≡ whole
    → now ≡ larger found (log_greatest log) → larger now (greatest (drop (zone + 1) logs)) ≡ whole
greatest-step zone logs log found now whole lt log-is so_far is =
    let split : drop zone logs ≡ log ∷ drop (zone + 1) logs = drop_more logs zone [] lt ∙ ap (λ (l : List Batch). l ∷ drop (zone + 1) logs) (sym log-is) in
    rw is (sym (larger-assoc found (log_greatest log) (greatest (drop (zone + 1) logs))) ∙ (rw split at so_far))
