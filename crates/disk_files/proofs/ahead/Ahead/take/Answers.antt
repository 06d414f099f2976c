use Rattle.std.proofs.Common.{◌≢◌, length, take, sym, arith}
use Rattle.std.specs.Prelude.{slice_range}
use Rattle.std.proofs.lemmas.Bool.Decides.{nat_tests}
use Rattle.disk_files.proofs.AheadLaws.{line_taken, front_taken}
use Rattle.disk_files.proofs.ahead.Ahead.take.Goals as goal

pub returns-in-Some-clause-takes : goal.returns-in-Some-clause-takes
returns-in-Some-clause-takes c =
    let at = c.self.inside in
    let goes_on = rw (← c.self.view_is) at c.requires.goes_on in
    rw (← c.self.view_is)
    (line_taken at.bytes.items at.first at.last at.start at.end c.self.invariant.0 goes_on c.self.invariant.2 c.min.result c.args.room c.in-Some.place (omega (arith, c.min.ensures)) (rw c.deref.ensures.value at (sym c.in-Some.ensures)))

pub returns-in-None-2-clause-takes : goal.returns-in-None-2-clause-takes
returns-in-None-2-clause-takes c =
    let at = c.self.inside in
    let goes_on = rw (← c.self.view_is) at c.requires.goes_on in
    let some : length (take c.min.result (slice_range c.deref.result.now at.start at.end)) ≢ 0 = grind (arith, nat_tests) in
    rw (← c.self.view_is, c.deref.ensures.value)
    (front_taken at.bytes.items at.first at.last at.start at.end c.self.invariant.0 goes_on c.self.invariant.2 c.min.result c.args.room (omega (arith, c.min.ensures)) (rw c.deref.ensures.value at (sym c.in-None.ensures)) (rw c.deref.ensures.value at some))
