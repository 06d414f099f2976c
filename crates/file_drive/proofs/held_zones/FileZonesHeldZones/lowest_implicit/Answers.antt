use Rattle.std.proofs.Common.{◌∙◌, sym}
use Rattle.nvme_wire.specs.declared.zone_state.ZoneState.TheVariants.{ImplicitlyOpened}
use Rattle.zone_states.specs.Transition.{is_state}
use Rattle.file_drive.proofs.StoreLaws.{zones-position}
use Rattle.file_drive.proofs.held_zones.FileZonesHeldZones.lowest_implicit.Goals as goal

pub returns : goal.returns
returns g c =
    let inside = c.self.inside in
    rw (← c.self.view_is)
    ((rw c.deref.ensures.value at c.lowest_implicit.ensures) ∙ sym (zones-position inside.geometry (g.F.FileBytes.seen inside.file) 0 inside.entries.items (is_state ImplicitlyOpened)))
