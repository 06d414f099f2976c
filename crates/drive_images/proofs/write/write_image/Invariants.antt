use Rattle.std.proofs.Common.{◌++◌, take}
use Rattle.std.specs.Io.KnownBytes.{Appends}
use Rattle.drive_images.specs.Image.{head_bytes, zones_bytes}
use Rattle.drive_images.proofs.write.write_image.Given as goal

abbrev pub invariant-loop-zone : goal.invariant-loop-zone
invariant-loop-zone g l =
    Appends (g.W.Write.contents l.fn.writer) (g.W.Write.contents l.writer)
    (head_bytes l.drive.state.geometry ++ zones_bytes (take l.zone-index l.drive.state.zones))
