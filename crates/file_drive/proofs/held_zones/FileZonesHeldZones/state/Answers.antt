use Rattle.std.proofs.Common.{◌∙◌, sym, ap, arith}
use Rattle.file_drive.proofs.StoreLaws.{entry-read, filed-low, stored-is}
use Rattle.zone_states.specs.Stored.{StoredZone}
use Rattle.file_drive.specs.declared.entry.Entry.{Entry}
use Rattle.file_drive.proofs.held_zones.FileZonesHeldZones.state.Goals as goal

pub index-requires : goal.index-requires
index-requires g c =
    let low = rw (← c.self.view_is) at (filed-low g.F.FileBytes.seen c.args.self.now c.args.index c.requires) in
    omega (arith, low)

pub returns : goal.returns
returns g c =
    let inside = c.self.inside in
    let low = rw (← c.self.view_is) at (filed-low g.F.FileBytes.seen c.args.self.now c.args.index c.requires) in
    let is = entry-read inside.entries.items c.args.index c.index.result.now low c.index.ensures in
    ap (λ (entry : Entry). entry.state) is
    ∙ rw (← c.self.view_is) (sym (ap (λ (zone : StoredZone). zone.state) (stored-is inside.geometry (g.F.FileBytes.seen inside.file) inside.entries.items c.args.index low)))
