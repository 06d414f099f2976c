use Rattle.std.proofs.Common.{rules, ◌<◌, arith}
use Rattle.passthrough.proofs.SeenLaws.{seen-count, seen-filled, seen-written}
use Rattle.passthrough.proofs.seen_zone.SeenZone.appended.Goals as goal

pub returns-then-written-geometry-clause-seen : goal.returns-then-written-geometry-clause-seen
returns-then-written-geometry-clause-seen c = λ zone bytes is pointed fits.
    let count = seen-count zone c.args.self.now is pointed in
    let small : c.args.geometry.capacity < 4294967296 = search rules in
    seen-filled c.args.geometry.capacity c.args.geometry.block c.args.blocks c.saturating_add-written.result zone bytes
    (omega (arith, small, count, fits, c.saturating_add-written.ensures, c.unwrap_or.ensures)) c.if-written-geometry.true

pub returns-else-written-geometry-clause-seen : goal.returns-else-written-geometry-clause-seen
returns-else-written-geometry-clause-seen c = λ zone bytes is pointed fits.
    let count = seen-count zone c.args.self.now is pointed in
    let small : c.args.geometry.capacity < 4294967296 = search rules in
    rw c.opened-state.ensures (seen-written c.args.geometry.capacity c.args.geometry.block c.args.blocks c.saturating_add-written.result c.args.self.now zone bytes is
    (omega (arith, small, count, fits, c.saturating_add-written.ensures, c.unwrap_or.ensures)) c.if-written-geometry.false)
