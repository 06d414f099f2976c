use Rattle.std.proofs.Common.{ap, length, arith}
use Rattle.file_bytes.specs.Overlay.{overlaid}
use Rattle.file_bytes.proofs.OverlayLaws.{length-shown}
use Rattle.file_bytes.proofs.read_only.ReadOnlyFileFileBytes.read.Goals as goal

pub read-requires : goal.read-requires
read-requires g c =
    let long = length-shown (g.F.FileBytes.seen c.self.inside.inner) c.self.inside.pages.keys c.self.inside.kept.items in
    record { within = omega (arith, c.requires.within, long, ap (λ v. length (overlaid g.F.FileBytes.seen v)) c.self.view_is) }
