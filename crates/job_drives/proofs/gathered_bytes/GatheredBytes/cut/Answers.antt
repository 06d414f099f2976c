use Rattle.job_drives.proofs.BackingLaws.{cut-held}
use Rattle.job_drives.proofs.gathered_bytes.GatheredBytes.cut.Goals as goal

pub returns-clause-held : goal.returns-clause-held
returns-clause-held g c =
    let now = c.args.self.now in
    rw (c.cut.ensures.file, c.cut.ensures.length, c.truncate.ensures.items, c.saturating_sub.ensures)
    (cut-held c.args.whole now.file.whole (g.B.Backing.state now.file.file).bytes now.gathered.items c.requires.whole.within)
