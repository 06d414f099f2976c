use Rattle.zone_cleaner.proofs.EntryLaws.{blocks-shown}
use Rattle.zone_cleaner.proofs.gathered.Gathered.len.Goals as goal

pub returns-clause-distinct : goal.returns-clause-distinct
returns-clause-distinct c =
    let s = c.self.inside in
    rw (← c.self.view_is, blocks-shown s.block_bytes s.batch.bytes s.records.entries) c.len.ensures.unique
