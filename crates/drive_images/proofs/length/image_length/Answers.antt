use Rattle.std.proofs.Common.{ℕ, List, length, sym, subst, ap, refl, arith}
use Rattle.std.proofs.lemmas.List.{length-append, take_all}
use Rattle.zone_states.specs.Stored.{AreWholeBlocks, StoredZone, zone_stored}
use Rattle.zone_states.specs.Zone.{IsLawfulZone}
use Rattle.zone_states.proofs.ListLaws.{all-at}
use Rattle.zone_drive.specs.Stored.{zones_of}
use Rattle.drive_images.specs.Image.{head_bytes, zones_bytes}
use Rattle.drive_images.proofs.HeadLaws.{length-head}
use Rattle.drive_images.proofs.LengthLaws.{length-more, zone-small}
use Rattle.drive_images.proofs.WritingLaws.{stored-less, zone_here}
use Rattle.drive_images.proofs.length.image_length.Goals as goal

pub loop-zone-preserved : goal.loop-zone-preserved
loop-zone-preserved c =
    let geometry = c.args.geometry.now in
    let zones = c.args.zones.now in
    let i = c.loop-zone.zone-index in
    let zone = c.zone-item.result in
    let less = c.loop-zone-test.true in
    let whole = subst (λ (z : StoredZone). AreWholeBlocks geometry.block z.bytes) (sym c.zone-item.is) (all-at (λ (z : StoredZone). AreWholeBlocks geometry.block z.bytes) zones i zone c.requires.are_zones.whole less) in
    let here = zone_here geometry.block zones (zones_of geometry.block zones) i zone refl c.zone-item.is less in
    let lawful = subst (IsLawfulZone geometry) (sym here) (all-at (IsLawfulZone geometry) (zones_of geometry.block zones) i (zone_stored geometry.block zone) c.requires.are_zones.lawful (stored-less geometry.block zones (zones_of geometry.block zones) i refl less)) in
    let long = ap (λ (l : List ℕ). length l) c.written.ensures in
    record {
      value = omega (arith, c.loop-zone.invariant.value, length-more geometry.block zones i zone less c.zone-item.is whole, long);
      small = omega (arith, c.loop-zone.invariant.small, zone-small geometry zone c.requires.in_range whole lawful, long);
    }

pub returns : goal.returns
returns c =
    let geometry = c.args.geometry.now in
    let zones = c.args.zones.now in
    let all = take_all c.loop-zone.zone-index zones (omega (arith, c.loop-zone-test.false)) in
    omega (arith, rw all at c.loop-zone.invariant.value, length-append (head_bytes geometry) (zones_bytes (zones_of geometry.block zones)), length-head geometry)
