use Rattle.std.proofs.Common.{◌≡◌, length}
use Rattle.zone_drive.specs.Stored.{zones_of}
use Rattle.drive_images.specs.Reading.{counts_of}
use Rattle.drive_images.specs.Steps.{ReadsStoredZones}
use Rattle.drive_images.proofs.read.read_zones.Given as goal

abbrev pub invariant-loop : goal.invariant-loop
invariant-loop g l = record {
  count : length l.zones.items ≡ l.counter;
  read : ReadsStoredZones l.geometry (g.R.Read.remaining l.fn.reader) (g.R.Read.remaining l.reader) l.zones.items;
  counts : l.counts ≡ counts_of (zones_of l.geometry.block l.zones.items);
}
