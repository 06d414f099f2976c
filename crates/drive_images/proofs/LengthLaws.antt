-- How long an image is.
use Rattle.std.proofs.Common.{◌≡◌, ℕ, ◌+◌, ◌/◌, ◌<◌, ◌≤◌, List, [], ◌∷◌, ◌++◌, length, take, get_or, inl, inr, sym, ap, ◌∙◌, arith}
use Rattle.std.specs.Prelude.{◌^◌}
use Rattle.std.proofs.lemmas.List.{flat_map_more, length-append, map-append, take_more}
use Rattle.zone_states.proofs.Cutting.{length-cut}
use Rattle.zone_states.specs.Geometry.{IsInRange}
use Rattle.zone_states.specs.Stored.{AreWholeBlocks, StoredZone, zone_stored}
use Rattle.zone_states.specs.Zone.{IsLawfulZone}
use Rattle.zone_states.specs.declared.geometry.Geometry.{Geometry}
use Rattle.zone_states.proofs.HoldLaws.{may_hold-most}
use Rattle.zone_drive.specs.Stored.{zones_of}
use Rattle.drive_images.specs.Image.{zone_bytes, zone_head_bytes, zones_bytes}
use Rattle.drive_images.proofs.HeadLaws.{length-zone_head}
use Rattle.drive_images.proofs.WritingLaws.{zone_text}

length-zone : (block : ℕ) (zone : StoredZone) → AreWholeBlocks block zone.bytes → length (zone_bytes (zone_stored block zone)) ≡ 8 + length zone.bytes
length-zone block zone whole =
    let head = zone_head_bytes zone.state (length (zone_stored block zone).blocks) in
    ap (λ (l : List ℕ). length l) (zone_text block zone whole) ∙ length-append head zone.bytes ∙ ap (λ (n : ℕ). n + length zone.bytes) (length-zone_head zone.state (length (zone_stored block zone).blocks))

-- a zone has 2^32 bytes at most
pub zone-small : (geometry : Geometry) (zone : StoredZone) → IsInRange geometry → AreWholeBlocks geometry.block zone.bytes → IsLawfulZone geometry (zone_stored geometry.block zone) → length zone.bytes ≤ 2 ^ 32
zone-small geometry zone in_range whole lawful =
    let most = may_hold-most zone.state geometry.capacity _ lawful.written in
    let blocks = length-cut geometry.block (length zone.bytes / geometry.block) zone.bytes in
    elim in_range.block [
      | inl small ↦ let all = rw small at whole in let less = rw small at blocks in let up = rw small at most in omega (arith, all, less, up, in_range.size, in_range.capacity)
      | inr large ↦ let all = rw large at whole in let less = rw large at blocks in let up = rw large at most in omega (arith, all, less, up, in_range.size, in_range.capacity)
    ]

-- the first zones, and one more
pub length-more : (block : ℕ) (zones : List StoredZone) (i : ℕ) (zone : StoredZone) → i < length zones → zone ≡ get_or zones i zone → AreWholeBlocks block zone.bytes
    → length (zones_bytes (zones_of block (take (i + 1) zones))) ≡ length (zones_bytes (zones_of block (take i zones))) + (8 + length zone.bytes)
length-more block zones i zone more is whole =
    let before = zones_of block (take i zones) in
    ap (λ (zs : List StoredZone). length (zones_bytes (zones_of block zs))) (take_more zones i zone more ∙ ap (λ (z : StoredZone). take i zones ++ z ∷ []) (sym is))
    ∙ ap (λ zs. length (zones_bytes zs)) (map-append (zone_stored block) (take i zones) (zone ∷ []))
    ∙ ap (λ (l : List ℕ). length l) (sym (flat_map_more zone_bytes [] before (zone_stored block zone)))
    ∙ length-append (zones_bytes before) (zone_bytes (zone_stored block zone))
    ∙ ap (λ (n : ℕ). length (zones_bytes before) + n) (length-zone block zone whole)
