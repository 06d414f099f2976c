use Rattle.file_bytes.proofs.OverlayLaws.{shown-file}
use Rattle.file_bytes.proofs.read_only.ReadOnlyFile.new.Goals as goal

pub returns-clause-shown : goal.returns-clause-shown
returns-clause-shown g c = rw (c.new.ensures.empty, c.new-2.ensures.items) (shown-file (g.F.FileBytes.seen c.args.inner))
