use Rattle.std.proofs.Common.{sym, ap, is_some, ◌∙◌, arith}
use Rattle.zone_choice.proofs.MarkLaws.{sealed-parts}
use Rattle.zone_cleaner.proofs.StartLaws.{full-not_due, least-is_sealed, none-of}
use Rattle.zone_cleaner.proofs.cleaner.due.Goals as goal

pub returns-then-fill-geometry : goal.returns-then-fill-geometry
returns-then-fill-geometry c =
    let least = c.in_ok-victim.ensures.some in
    let live_is = c.live.ensures (omega (arith, (sealed-parts c.args.tables.now.roles c.in_ok-victim.victim (least-is_sealed c.args.tables.now c.in_ok-victim.victim least)).in_range, c.requires.zones)) in
    full-not_due c.args.geometry.now c.args.tables.now c.in_ok-victim.victim least (omega (arith, rw live_is at c.fill.ensures, c.if-fill-geometry.true))

pub returns : goal.returns
returns c =
    let least = c.in_ok-victim.ensures.some in
    let live_is = c.live.ensures (omega (arith, (sealed-parts c.args.tables.now.roles c.in_ok-victim.victim (least-is_sealed c.args.tables.now c.in_ok-victim.victim least)).in_range, c.requires.zones)) in
    record {
      alone = none-of c.args.tables.now.roles.second (ap is_some (sym c.second.ensures) ∙ sym c.is_some.ensures ∙ c.if-is_some.false);
      some = omega (arith, c.if-empty-eq0.false, c.empty_count-empty.ensures);
      few = omega (arith, c.if-empty-gt2.false, c.empty_count-empty.ensures);
      least = least;
      fits = omega (arith, rw live_is at c.fill.ensures, c.if-fill-geometry.false);
    }
