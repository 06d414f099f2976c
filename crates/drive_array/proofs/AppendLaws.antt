-- The log of a zone, with a batch more.
use Rattle.std.proofs.Common.{◌≡◌, ◌≢◌, ℕ, ◌+◌, ◌<◌, ◌≤◌, List, [], ◌∷◌, ◌++◌, length, arith}
use Rattle.std.proofs.lemmas.List.{get_or-set_same, get_or-set_other}
use Rattle.batch_log.specs.Log.{Batch, batch_size, log_size}
use Rattle.drive_array.specs.Records.{append_log}
use Rattle.drive_array.specs.ZoneLogs.{log_at}

-- a log has a batch's blocks more
pub log_size-append : (log : List Batch) (b : Batch) → log_size (log ++ b ∷ []) ≡ log_size log + batch_size b
log_size-append [] b = omega arith
log_size-append (x ∷ log) b = omega (arith, log_size-append log b)

-- a log with a block has a batch
pub log_size-some : (log : List Batch) → 1 ≤ log_size log → 1 ≤ length log
log_size-some [] some = some
log_size-some (b ∷ log) some = omega arith

-- the zone that a batch is appended to has it last
pub log_at-same : (logs : List (List Batch)) (zone : ℕ) (b : Batch) → zone < length logs → log_at (append_log logs zone b) zone ≡ log_at logs zone ++ b ∷ []
log_at-same logs zone b lt = get_or-set_same logs zone (log_at logs zone ++ b ∷ []) [] lt

-- and other zones have the log that they had
pub log_at-other : (logs : List (List Batch)) (zone k : ℕ) (b : Batch) → k ≢ zone → log_at (append_log logs zone b) k ≡ log_at logs k
log_at-other logs zone k b other = get_or-set_other logs zone k (log_at logs zone ++ b ∷ []) [] other
