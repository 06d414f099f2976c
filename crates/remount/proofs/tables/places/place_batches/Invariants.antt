use Rattle.std.proofs.Common.{length}
use Rattle.drive_survey.specs.Scan.{heads_in}
use Rattle.remount.specs.Placing.{SameButPlaces}
use Rattle.remount.proofs.PlacingLaws.{BatchesPlaced}
use Rattle.remount.proofs.tables.places.place_batches.Given as goal

abbrev pub invariant-loop-batch : goal.invariant-loop-batch
invariant-loop-batch l =
    BatchesPlaced l.zone_size (heads_in l.scanned) l.fn.tables.map.places l.tables.map.places l.batches.items l.fn.batches.items × SameButPlaces l.fn.tables l.tables

abbrev pub decreases-loop-batch : goal.decreases-loop-batch
decreases-loop-batch l = length l.batches.items
