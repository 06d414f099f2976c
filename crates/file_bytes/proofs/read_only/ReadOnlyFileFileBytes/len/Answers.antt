use Rattle.std.proofs.Common.{ap, sym, ◌∙◌, length}
use Rattle.file_bytes.specs.Overlay.{overlaid}
use Rattle.file_bytes.proofs.OverlayLaws.{length-shown}
use Rattle.file_bytes.proofs.read_only.ReadOnlyFileFileBytes.len.Goals as goal

pub returns : goal.returns
returns g c =
    c.self.invariant.size_is
    ∙ sym (length-shown (g.F.FileBytes.seen c.self.inside.inner) c.self.inside.pages.keys c.self.inside.kept.items)
    ∙ ap (λ v. length (overlaid g.F.FileBytes.seen v)) c.self.view_is
