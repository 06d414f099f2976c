use Rattle.std.proofs.Common.{arith}
use Rattle.file_bytes.specs.Overlay.{overlaid}
use Rattle.file_bytes.proofs.OverlayLaws.{all-shown, length-shown}
use Rattle.file_bytes.proofs.read_only.ReadOnlyFile.show.Goals as goal

pub returns : goal.returns
returns g c =
    let file = g.F.FileBytes.seen c.args.self.now.inner in
    all-shown file (overlaid g.F.FileBytes.seen c.args.self.now) c.loop-done.room c.args.at c.loop-done.done
    (length-shown file c.args.self.now.pages c.args.self.now.kept) c.loop-done.invariant (omega (arith, c.loop-done-test.false))
