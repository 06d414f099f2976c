-- What is loaded from a file is the drive that was stored there.
use Rattle.std.proofs.Common.{◌≡◌, ℕ, List, ap, sym, ◌∙◌}
use Rattle.zone_states.specs.declared.geometry.Geometry.{Geometry}
use Rattle.drive_port.specs.Drive.{DriveState}
use Rattle.drive_port.specs.Run.{restarted}
use Rattle.zone_drive.specs.Stored.{unused, zones_of}
use Rattle.file_drive.specs.Head.{shape_words}
use Rattle.file_drive.specs.Opening.{opened_zones}
use Rattle.file_drive.specs.Storing.{HoldsDrive}
use Rattle.file_drive.specs.Tables.{words_in, zones_in}
use Rattle.file_drive.specs.declared.boot.Boot.{Boot}
use Rattle.file_drive.specs.declared.entry.Entry.{Entry}
use Rattle.file_drive.proofs.FindsLaws.{shape-is}

pub loaded-is : (drive : DriveState) (boot : Boot) (old new : List ℕ) (g : Geometry) (entries : List Entry) → HoldsDrive drive old → words_in new 0 8 ≡ shape_words g → words_in new 0 8 ≡ words_in old 0 8
    → zones_in g new 0 entries ≡ opened_zones g boot old → unused g (zones_of g.block (zones_in g new 0 entries)) ≡ unused drive.geometry (restarted drive).zones
loaded-is drive boot old new g entries holds head kept found =
    let finds = holds.finds boot in
    let same : g ≡ drive.geometry = shape-is g drive.geometry (sym head ∙ kept ∙ finds.shape) in
    let zones : zones_in g new 0 entries ≡ holds.zones = found ∙ ap (λ (s : Geometry). opened_zones s boot old) same ∙ finds.zones_are in
    let are : zones_of g.block (zones_in g new 0 entries) ≡ (restarted drive).zones =
    ap (zones_of g.block) zones ∙ ap (λ (s : Geometry). zones_of s.block holds.zones) same ∙ holds.are in
    λ i. unused (same i) (are i)
