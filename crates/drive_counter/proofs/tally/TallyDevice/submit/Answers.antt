use Rattle.drive_counter.proofs.TallyLaws.{tally-passes}
use Rattle.drive_counter.proofs.tally.TallyDevice.submit.Goals as goal

pub returns-clause-gives : goal.returns-clause-gives
returns-clause-gives g c =
    let e = c.submit.ensures in
    rw (← c.self.view_is) (tally-passes c.self.inside.before c.self.inside.counter c.submit.new.self c.args.entry.now c.args.bytes.now c.submit.result c.submit.new.into.items c.self.invariant e.was_lawful e.counted e.halted e.gives)
