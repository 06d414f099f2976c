use Rattle.std.proofs.Common.{arith}
use Rattle.file_bytes.proofs.OverlayLaws.{length-shown}
use Rattle.file_bytes.proofs.read_only.ReadOnlyFileFileBytes.write_word.Goals as goal

pub write_more-requires-clause-within : goal.write_more-requires-clause-within
write_more-requires-clause-within g c =
    let long = length-shown (g.F.FileBytes.seen c.args.self.now.inner) c.args.self.now.pages c.args.self.now.kept in
    omega (arith, c.requires.within, long)
