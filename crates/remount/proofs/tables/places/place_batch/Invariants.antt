use Rattle.std.proofs.Common.{◌≤◌, drop}
use Rattle.drive_survey.specs.KeptRecords.{kept_entries}
use Rattle.remount.specs.Placing.{SameButPlaces}
use Rattle.remount.proofs.PlacingLaws.{PlacedSoFar}
use Rattle.remount.proofs.tables.places.place_batch.Given as goal

abbrev pub invariant-loop-entry : goal.invariant-loop-entry
invariant-loop-entry l =
    PlacedSoFar l.zone_size l.batch.head.sequence l.fn.tables.map.places l.tables.map.places (kept_entries l.batch.head.sequence l.batch.zone l.batch.head.offset l.before (drop l.entry-index l.entries)) (kept_entries l.batch.head.sequence l.batch.zone l.batch.head.offset 0 l.entries)
    × SameButPlaces l.fn.tables l.tables
    × (l.before ≤ l.entry-index)
