use Rattle.std.proofs.Common.{◌∙◌, sym}
use Rattle.zone_states.specs.Transition.{is_active}
use Rattle.file_drive.proofs.StoreLaws.{zones-count}
use Rattle.file_drive.proofs.held_zones.FileZonesHeldZones.active_zones.Goals as goal

pub returns : goal.returns
returns g c =
    let inside = c.self.inside in
    rw (← c.self.view_is)
    (c.self.invariant.3.active ∙ sym (zones-count inside.geometry (g.F.FileBytes.seen inside.file) 0 inside.entries.items is_active))
