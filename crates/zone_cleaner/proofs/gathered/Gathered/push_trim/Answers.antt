use Rattle.zone_cleaner.proofs.EntryLaws.{adds-trim}
use Rattle.zone_cleaner.proofs.gathered.Gathered.push_trim.Goals as goal

pub invariant_of-self-2 : goal.invariant_of-self-2
invariant_of-self-2 c =
    let s = c.self.inside in
    let a = adds-trim s.block_bytes c.args.block s.records.entries c.insert.new.self.entries s.batch.bytes c.self.invariant.1 (rw (← c.self.view_is) at c.requires.above) c.in_ok-insert.ensures.entries in
    (c.self.invariant.0, a.within, λ none. a.order (c.self.invariant.2 none))

pub returns-clause-ok : goal.returns-clause-ok
returns-clause-ok c =
    let s = c.self.inside in
    rw (← c.self.view_is) (adds-trim s.block_bytes c.args.block s.records.entries c.insert.new.self.entries s.batch.bytes c.self.invariant.1 (rw (← c.self.view_is) at c.requires.above) c.in_ok-insert.ensures.entries).shows
