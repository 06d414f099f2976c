use Rattle.drive_survey.specs.Scan.{heads_in}
use Rattle.remount.proofs.ListingLaws.{ListsZones}
use Rattle.remount.proofs.tables.batches.list_all.Given as goal

abbrev pub invariant-loop-zone : goal.invariant-loop-zone
invariant-loop-zone l = ListsZones (heads_in l.scanned) l.batches.items l.zone
