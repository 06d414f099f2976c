use Rattle.std.proofs.Common.{◌≡◌, length}
use Rattle.drive_inspection.proofs.HoldLaws.{EachTold}
use Rattle.drive_inspection.proofs.holding.zone_infos.Given as goal

abbrev pub invariant-loop-zone : goal.invariant-loop-zone
invariant-loop-zone l = record {
  same : l.tables ≡ l.fn.tables;
  count : length l.infos.items ≡ l.zone;
  each : EachTold l.scanned l.fn.tables.map l.infos.items;
}
