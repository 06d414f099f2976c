use Rattle.std.proofs.Common.{◌≡◌, ◌∙◌, length, sym, ap, map, arith}
use Rattle.zone_drive.specs.Table.{sent_stored}
use Rattle.file_drive.specs.InFile.{AreWithin}
use Rattle.file_drive.proofs.ServedLaws.{filed-same, length-safe, zones-kept}
use Rattle.file_drive.proofs.StoreLaws.{all-sent, on-err}
use Rattle.file_drive.proofs.zones.FileZones.act_on_all.Goals as goal

pub returns-in_err-write_spare-clause-err : goal.returns-in_err-write_spare-clause-err
returns-in_err-write_spare-clause-err g c =
    on-err c.from_residual.result _
    (filed-same g.F.FileBytes.seen c.args.self.now c.write_spare.new.self c.write_spare.ensures.shape c.write_spare.ensures.entries c.write_spare.ensures.zones (rw (← c.self.view_is) c.self.invariant.1) (rw (← c.self.view_is) c.self.invariant.2))

pub returns-in_err-pick_spare-clause-err : goal.returns-in_err-pick_spare-clause-err
returns-in_err-pick_spare-clause-err g c =
    let now = c.args.self.now in
    let count : length now.entries ≡ now.shape.zones = (rw (← c.self.view_is) c.self.invariant.1) in
    let within : AreWithin now.shape now.entries = (rw (← c.self.view_is) c.self.invariant.2) in
    let last = rw c.write_spare.ensures.shape at c.pick_spare.ensures.zones in
    on-err c.from_residual-in_err-pick_spare.result _
    (rw (c.pick_spare.ensures.shape, c.in_err-pick_spare.ensures.err, c.write_spare.ensures.shape, c.write_spare.ensures.entries)
    (zones-kept now.shape (g.F.FileBytes.seen c.write_spare.new.self.file) (g.F.FileBytes.seen c.pick_spare.new.self.file) 0 now.entries last (omega (arith, count)) within
    ∙ zones-kept now.shape (g.F.FileBytes.seen now.file) (g.F.FileBytes.seen c.write_spare.new.self.file) 0 now.entries c.write_spare.ensures.zones (omega (arith, count)) within))

pub returns-clause-ok : goal.returns-clause-ok
returns-clause-ok g c =
    let now = c.args.self.now in
    let count : length now.entries ≡ now.shape.zones = (rw (← c.self.view_is) c.self.invariant.1) in
    let within : AreWithin now.shape now.entries = (rw (← c.self.view_is) c.self.invariant.2) in
    let last = rw c.write_spare.ensures.shape at c.pick_spare.ensures.zones in
    let many : length now.safe ≡ length now.entries =
    rw (← c.self.view_is) (length-safe c.self.inside.geometry (g.F.FileBytes.seen c.self.inside.file) c.self.inside.entries.items c.self.inside.live c.self.inside.flushed _ c.self.invariant.4 ∙ sym c.self.invariant.1) in
    rw (c.pick_spare.ensures.shape, c.in_ok-pick_spare.ensures.ok, c.write_spare.ensures.shape, c.write_spare.ensures.entries, c.write_spare.ensures.safe)
    (all-sent now.shape (g.F.FileBytes.seen c.pick_spare.new.self.file) 0 c.args.action now.safe now.entries many
    ∙ ap (map (sent_stored c.args.action))
    (zones-kept now.shape (g.F.FileBytes.seen c.write_spare.new.self.file) (g.F.FileBytes.seen c.pick_spare.new.self.file) 0 now.entries last (omega (arith, count)) within
    ∙ zones-kept now.shape (g.F.FileBytes.seen now.file) (g.F.FileBytes.seen c.write_spare.new.self.file) 0 now.entries c.write_spare.ensures.zones (omega (arith, count)) within))
