use Rattle.std.proofs.Common.{rules, ◌<◌, length}
use Rattle.passthrough.proofs.FirstLaws.{rows-fewer, rows-more}
use Rattle.passthrough.proofs.first_report.see_zones.Goals as goal

pub loop-number-preserved : goal.loop-number-preserved
loop-number-preserved c =
    let low : c.loop-number.number < length c.loop-number.seen = search rules in
    rw (c.set_zone.ensures, c.from.ensures) (rows-more _ _ _ _ _ c.loop-number.invariant low (rw c.descriptor.ensures at c.in-Some.ensures))

pub returns-clause-ok : goal.returns-clause-ok
returns-clause-ok c = rows-fewer _ _ _ _ _ c.loop-number.invariant c.loop-number-test.false
