use Rattle.std.proofs.Common.{◌≤◌, drop}
use Rattle.zone_report.specs.Report.{matching}
use Rattle.zone_report.proofs.Listing.{Continues}
use Rattle.zone_report.proofs.report.write_descriptors.Given as goal

abbrev pub invariant-loop-number : goal.invariant-loop-number
invariant-loop-number g l =
    let zones = g.Z.ReportedZones.zones l.zones in
    (l.named ≤ l.number) × Continues l.fn.bytes.items l.room (matching l.geometry l.options l.first (drop l.first zones)) l.named l.bytes.items (matching l.geometry l.options l.number (drop l.number zones))
