use Rattle.std.proofs.Common.{sym, arith}
use Rattle.file_drive.proofs.StoreLaws.{entry-read, filed-low, stored-length}
use Rattle.file_drive.proofs.zones.FileZones.length_of.Goals as goal

pub index-requires : goal.index-requires
index-requires g c =
    let low = rw (← c.self.view_is) at (filed-low g.F.FileBytes.seen c.args.self.now c.args.index c.requires) in
    omega (arith, low)

pub returns : goal.returns
returns g c =
    let low = rw (← c.self.view_is) at (filed-low g.F.FileBytes.seen c.args.self.now c.args.index c.requires) in
    let is = entry-read c.self.inside.entries.items c.args.index c.index.result.now low c.index.ensures in
    rw (← c.self.view_is, is) (sym (stored-length c.self.inside.geometry (g.F.FileBytes.seen c.self.inside.file) c.self.inside.entries.items c.args.index c.self.invariant.4.long c.self.invariant.1 c.self.invariant.2 low))
