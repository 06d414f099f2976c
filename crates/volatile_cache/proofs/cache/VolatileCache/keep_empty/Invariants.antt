use Rattle.std.proofs.Common.{replicate}
use Rattle.batch_log.specs.Log.{zero_block}
use Rattle.nbd_session.specs.Pending.{pieces}
use Rattle.volatile_cache.specs.Cache.{AddsOnly, Keeps}
use Rattle.volatile_cache.proofs.cache.VolatileCache.keep_empty.Given as goal

abbrev pub invariant-loop-k : goal.invariant-loop-k
invariant-loop-k g l = Keeps l.initial.self (pieces l.first (replicate l.k (zero_block l.size))) l.self × AddsOnly l.is_trim l.initial.self l.self
