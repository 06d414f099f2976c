use Rattle.yardsticks.proofs.ImageLaws.{lacks-log}
use Rattle.yardsticks.proofs.logs.zone_logs.Goals as goal

pub returns-in_default-clause-none : goal.returns-in_default-clause-none
returns-in_default-clause-none c =
    let none = rw c.in_default.is at c.in_ok-log.ensures.none in
    lacks-log c.args.geometry.now c.args.zones.now c.loop-zone.zone-index c.zone-item.result c.loop-zone-test.true c.zone-item.is none
