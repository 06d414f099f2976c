use Rattle.std.proofs.Common.{◌++◌, List, ℕ, ap, length}
use Rattle.zone_cleaner.proofs.EntryLaws.{bytes-shown, within-values}
use Rattle.zone_cleaner.proofs.gathered.copy_all.Goals as goal

pub loop-position-init : goal.loop-position-init
loop-position-init c = rw (c.into_iter-position-iterator.ensures.into_iter_gives, c.values-position-items.ensures.rest)
    (ap (λ (bytes : List ℕ). c.args.packed.now.bytes ++ bytes) (bytes-shown c.args.block_bytes c.args.bytes.now c.args.records.now.entries), within-values c.args.block_bytes (length c.args.bytes.now) c.args.records.now.entries c.requires)
