use Rattle.std.proofs.Common.{refl}
use Rattle.zone_drive.proofs.TableLaws.{counted-follow, implicit-follow}
use Rattle.zone_drive.proofs.resources.Resources.follow.Goals as goal

pub moved-requires-clause-held : goal.moved-requires-clause-held
moved-requires-clause-held g c =
    let (was, state, counted) = c.requires.counted in
    rw (c.is_implicit.ensures, ← state) (implicit-follow g.S.HasState.state c.args.zones.now c.args.self.now c.args.index was counted c.requires.in_range)

pub returns : goal.returns
returns g c =
    let (was, state, counted) = c.requires.counted in
    counted-follow g.S.HasState.state c.args.zones.now c.args.self.now _ c.args.index was c.index-zones-index.result counted c.requires.in_range c.index-zones-index.is
    (rw (c.is_active.ensures, c.is_active-2.ensures, c.state-after.ensures, ← state) at c.moved-self.ensures)
    (rw (c.is_open.ensures, c.is_open-2.ensures, c.state-after.ensures, ← state) at c.moved-self-2.ensures)
    (rw (c.moved.ensures, c.is_implicit.ensures, c.is_implicit-2.ensures, c.state-after.ensures, ← state) refl)
