use Rattle.std.proofs.Common.{◌/◌, length, take}
use Rattle.zone_states.specs.Zone.{cut_blocks}
use Rattle.nbd_session.specs.Pending.{pieces}
use Rattle.volatile_cache.specs.Cache.{Keeps}
use Rattle.volatile_cache.proofs.cache.VolatileCache.keep_blocks.Given as goal

abbrev pub invariant-loop-k : goal.invariant-loop-k
invariant-loop-k g l = Keeps l.initial.self (pieces l.first (take l.k (cut_blocks l.size (length l.bytes / l.size) l.bytes))) l.self
