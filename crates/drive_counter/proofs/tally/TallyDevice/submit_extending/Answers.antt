use Rattle.std.proofs.Common.{[]}
use Rattle.drive_port.proofs.CallLaws.{adds-also}
use Rattle.drive_counter.proofs.TallyLaws.{tally-passes}
use Rattle.drive_counter.proofs.tally.TallyDevice.submit_extending.Goals as goal

pub returns-clause-gives : goal.returns-clause-gives
returns-clause-gives g c =
    let e = c.submit_extending.ensures in
    rw (← c.self.view_is) (adds-also _ _ _ _ (λ returned. tally-passes c.self.inside.before c.self.inside.counter c.submit_extending.new.self c.args.entry.now [] c.submit_extending.result returned c.self.invariant e.was_lawful e.counted e.halted) e.gives)
