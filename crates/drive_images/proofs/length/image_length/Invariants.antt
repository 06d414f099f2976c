use Rattle.std.proofs.Common.{◌≡◌, ◌+◌, ◌*◌, ◌≤◌, length, take}
use Rattle.std.specs.Prelude.{◌^◌}
use Rattle.zone_drive.specs.Stored.{zones_of}
use Rattle.drive_images.specs.Image.{zones_bytes}
use Rattle.drive_images.proofs.length.image_length.Given as goal

abbrev pub invariant-loop-zone : goal.invariant-loop-zone
invariant-loop-zone l = record {
  value : l.bytes ≡ 64 + length (zones_bytes (zones_of l.geometry.block (take l.zone-index l.zones)));
  small : l.bytes ≤ 64 + l.zone-index * (8 + 2 ^ 32);
}
