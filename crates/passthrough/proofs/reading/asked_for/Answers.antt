use Rattle.std.proofs.Common.{rules, ◌≡◌, ◌≢◌, true, refl}
use Rattle.nvme_wire.specs.declared.zone_state.ZoneState.TheVariants.{Offline}
use Rattle.passthrough.proofs.ReadLaws.{asked-for}
use Rattle.passthrough.proofs.reading.asked_for.Goals as goal

pub returns : goal.returns
returns c = λ zones lawful are.
    let fits : c.is_one_transfer.result ≡ true = search rules in
    let online : c.zone_at-zone.result.state ≢ Offline = search rules in
    asked-for c.args.geometry zones c.args.seen.now c.args.slba c.args.blocks c.min-count.result _ c.requires.in_range c.requires.some
    (c.is_one_transfer.ensures fits) (rw (c.zone_at-zone.ensures, c.from.ensures) at online)
    (rw (c.from-written.ensures, c.unwrap_or.ensures, c.from-2.ensures, c.zone_at-zone.ensures, c.from.ensures) refl)
    (rw (c.min-count.ensures, c.from-3.ensures, c.saturating_sub.ensures) refl) lawful are
