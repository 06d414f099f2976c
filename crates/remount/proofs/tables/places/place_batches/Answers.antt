use Rattle.std.proofs.Common.{refl, arith}
use Rattle.std.proofs.lemmas.List.{nil_from_length}
use Rattle.drive_survey.specs.Scan.{heads_in}
use Rattle.remount.proofs.PlacingLaws.{batches-all, batches-more, batches-none, both-kept}
use Rattle.remount.proofs.tables.places.place_batches.Goals as goal

pub loop-batch-init : goal.loop-batch-init
loop-batch-init c = (batches-none c.args.zone_size (heads_in c.args.scanned.now) c.args.tables.now.map.places c.args.batches.items, record { size = refl; zones = refl; zone_size = refl; given = refl; unreadable = refl })

pub loop-batch-preserved : goal.loop-batch-preserved
loop-batch-preserved c = (
  batches-more c.args.zone_size (heads_in c.args.scanned.now) c.args.tables.now.map.places c.loop-batch.tables.map.places c.place_batch.new.tables.map.places c.loop-batch.batches.items c.pop.new.self.items c.args.batches.items c.in-Some.batch c.requires.sorted c.in-Some.ensures.items
      (rw c.entries_of-entries.ensures at c.in_ok-place_batch.ensures.places) c.loop-batch.invariant.0,
  both-kept _ _ _ c.loop-batch.invariant.1 c.place_batch.ensures.kept,
)

pub returns-clause-places : goal.returns-clause-places
returns-clause-places c placed =
    batches-all c.args.zone_size (heads_in c.args.scanned.now) c.args.tables.now.map.places c.loop-batch.tables.map.places c.loop-batch.batches.items c.args.batches.items (nil_from_length c.loop-batch.batches.items (omega (arith, c.loop-batch.batches.ok.0, c.in_default.ensures.cases.0))) c.loop-batch.invariant.0 placed
