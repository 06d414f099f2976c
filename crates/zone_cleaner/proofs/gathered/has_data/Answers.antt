use Rattle.zone_cleaner.proofs.EntryLaws.{some-values}
use Rattle.zone_cleaner.proofs.gathered.has_data.Goals as goal

pub loop-position-init : goal.loop-position-init
loop-position-init c = rw (c.into_iter-position-iterator.ensures.into_iter_gives, c.values-position-items.ensures.rest) (some-values c.args.records.now.entries)
