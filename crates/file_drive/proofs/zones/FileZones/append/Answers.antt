use Rattle.std.proofs.Common.{◌≡◌, ◌+◌, ◌/◌, ◌*◌, ◌≤◌, ◌∙◌, length, refl, ap, arith}
use Rattle.std.proofs.Math.Nat.{mul-le-mul_right}
use Rattle.zone_drive.proofs.ZonesLaws.{block-some}
use Rattle.file_drive.specs.InFile.{AreWithin, FiledZones, entry_at, flushed_at}
use Rattle.file_drive.specs.Layout.{file_length}
use Rattle.file_drive.specs.Tables.{appended}
use Rattle.file_drive.specs.declared.entry.Entry.{Entry}
use Rattle.file_drive.proofs.ApartLaws.{apart-more}
use Rattle.file_drive.proofs.DataLaws.{within-at}
use Rattle.file_drive.proofs.ServedLaws.{small-capacity, zones-kept}
use Rattle.file_drive.proofs.SumLaws.{kept-few}
use Rattle.file_drive.proofs.StoreLaws.{append-fits, append-stored, append-summed, entry-read, filed-low, no_entry, on-err, others-kept}
use Rattle.file_drive.proofs.zones.FileZones.append.Goals as goal

pub index-before-requires : goal.index-before-requires
index-before-requires g c =
    let low = rw (← c.self.view_is) at (filed-low g.F.FileBytes.seen c.args.self.now c.args.index c.requires.in_range) in
    omega (arith, low)

pub appended-entry-requires : goal.appended-entry-requires
appended-entry-requires g c =
    let low = filed-low g.F.FileBytes.seen c.args.self.now c.args.index c.requires.in_range in
    let low' = rw (← c.self.view_is) at low in
    let fits = append-fits c.self.inside.geometry (g.F.FileBytes.seen c.self.inside.file) c.self.inside.entries.items c.args.index c.args.bytes.now c.self.invariant.4.long c.self.invariant.1 c.self.invariant.2 low'
    (block-some c.self.inside.geometry c.self.invariant.0) (rw (← c.self.view_is) at c.requires.checks) in
    let is = entry-read c.self.inside.entries.items c.args.index c.index-before.result.now low' c.index-before.ensures in
    omega (arith, ap (λ (e : Entry). e.written) is, fits.1, small-capacity c.self.inside.geometry c.self.invariant.0)

pub write_data-requires-clause-in_range : goal.write_data-requires-clause-in_range
write_data-requires-clause-in_range g c = filed-low g.F.FileBytes.seen c.args.self.now c.args.index c.requires.in_range

pub write_data-requires-clause-room : goal.write_data-requires-clause-room
write_data-requires-clause-room g c =
    let low = filed-low g.F.FileBytes.seen c.args.self.now c.args.index c.requires.in_range in
    let low' = rw (← c.self.view_is) at low in
    let fits = append-fits c.self.inside.geometry (g.F.FileBytes.seen c.self.inside.file) c.self.inside.entries.items c.args.index c.args.bytes.now c.self.invariant.4.long c.self.invariant.1 c.self.invariant.2 low'
    (block-some c.self.inside.geometry c.self.invariant.0) (rw (← c.self.view_is) at c.requires.checks) in
    let most = mul-le-mul_right c.self.inside.geometry.block fits.1 in
    rw (← c.self.view_is) (omega (arith, fits.0, most))

pub returns-in_err-write_data-clause-err : goal.returns-in_err-write_data-clause-err
returns-in_err-write_data-clause-err g c =
    let now = c.args.self.now in
    let low = filed-low g.F.FileBytes.seen now c.args.index c.requires.in_range in
    let keeps = c.write_data.ensures.others in
    on-err c.from_residual.result _
    (rw (c.write_data.ensures.shape, c.write_data.ensures.entries)
    (others-kept now.shape (g.F.FileBytes.seen now.file) (g.F.FileBytes.seen c.write_data.new.self.file) now.entries c.args.index keeps (rw (← c.self.view_is) c.self.invariant.1) (rw (← c.self.view_is) c.self.invariant.2) low))

pub put-requires-clause-in_range : goal.put-requires-clause-in_range
put-requires-clause-in_range g c =
    rw c.write_data.ensures.entries (filed-low g.F.FileBytes.seen c.args.self.now c.args.index c.requires.in_range)

pub put-requires-clause-within : goal.put-requires-clause-within
put-requires-clause-within g c =
    let low = filed-low g.F.FileBytes.seen c.args.self.now c.args.index c.requires.in_range in
    let low' = rw (← c.self.view_is) at low in
    let fits = append-fits c.self.inside.geometry (g.F.FileBytes.seen c.self.inside.file) c.self.inside.entries.items c.args.index c.args.bytes.now c.self.invariant.4.long c.self.invariant.1 c.self.invariant.2 low'
    (block-some c.self.inside.geometry c.self.invariant.0) (rw (← c.self.view_is) at c.requires.checks) in
    let is = entry-read c.self.inside.entries.items c.args.index c.index-before.result.now low' c.index-before.ensures in
    rw (c.write_data.ensures.shape, ← c.self.view_is, c.appended-entry.ensures, is) fits.1

pub sum_of-sum-requires : goal.sum_of-sum-requires
sum_of-sum-requires g c =
    let low = filed-low g.F.FileBytes.seen c.args.self.now c.args.index c.requires.in_range in
    let low' = rw (← c.self.view_is) at low in
    let fits = append-fits c.self.inside.geometry (g.F.FileBytes.seen c.self.inside.file) c.self.inside.entries.items c.args.index c.args.bytes.now c.self.invariant.4.long c.self.invariant.1 c.self.invariant.2 low'
    (block-some c.self.inside.geometry c.self.invariant.0) (rw (← c.self.view_is) at c.requires.checks) in
    omega (arith, fits.0)

pub put-requires-clause-summed : goal.put-requires-clause-summed
put-requires-clause-summed g c =
    let inside = c.self.inside in
    let held = c.self.invariant in
    let low = filed-low g.F.FileBytes.seen c.args.self.now c.args.index c.requires.in_range in
    let low' = rw (← c.self.view_is) at low in
    let file = g.F.FileBytes.seen inside.file in
    let middle = g.F.FileBytes.seen c.write_data.new.self.file in
    let some = block-some inside.geometry held.0 in
    let fits = append-fits inside.geometry file inside.entries.items c.args.index c.args.bytes.now held.4.long held.1 held.2 low' some (rw (← c.self.view_is) at c.requires.checks) in
    let is = entry-read inside.entries.items c.args.index c.index-before.result.now low' c.index-before.ensures in
    let last = flushed_at inside.safe.items c.args.index in
    let entry = entry_at inside.entries.items c.args.index in
    let few = within-at inside.geometry inside.entries.items c.args.index no_entry held.2 low' in
    rw (c.write_data.ensures.shape, c.write_data.ensures.safe, ← c.self.view_is, c.appended-entry.ensures, c.sum_of-sum.ensures, is)
    (append-summed inside.geometry file middle middle inside.entries.items c.args.index c.args.bytes.now (length c.args.bytes.now / inside.geometry.block) held.1 held.2 low' held.4.long some fits.0 fits.1
    (rw (← c.self.view_is) at c.write_data.ensures.others) (rw (← c.self.view_is) at c.in_ok-write_data.ensures.data) (λ place written a b. refl)
    last (kept-few last entry (held.8 c.args.index low')) (held.4.summed c.args.index (omega (arith, low', held.1)) few))

pub put-requires-clause-apart : goal.put-requires-clause-apart
put-requires-clause-apart g c =
    let inside = c.self.inside in
    let low = filed-low g.F.FileBytes.seen c.args.self.now c.args.index c.requires.in_range in
    let low' = rw (← c.self.view_is) at low in
    let is = entry-read inside.entries.items c.args.index c.index-before.result.now low' c.index-before.ensures in
    let last = flushed_at inside.safe.items c.args.index in
    let entry = entry_at inside.entries.items c.args.index in
    rw (c.write_data.ensures.safe, ← c.self.view_is, c.appended-entry.ensures, is)
    (apart-more last entry (appended inside.geometry entry (length c.args.bytes.now / inside.geometry.block) c.sum_of-sum.result) refl (omega arith) (c.self.invariant.8 c.args.index low'))

pub returns-in_err-put-clause-err : goal.returns-in_err-put-clause-err
returns-in_err-put-clause-err g c =
    let now = c.args.self.now in
    let low = filed-low g.F.FileBytes.seen now c.args.index c.requires.in_range in
    let keeps = c.write_data.ensures.others in
    let count : length now.entries ≡ now.shape.zones = rw (← c.self.view_is) c.self.invariant.1 in
    let same = rw c.write_data.ensures.shape at c.put.ensures.zones in
    on-err c.from_residual-in_err-put.result _
    (rw (c.put.ensures.shape, c.in_err-put.ensures.err, c.write_data.ensures.shape, c.write_data.ensures.entries)
    (zones-kept now.shape (g.F.FileBytes.seen c.write_data.new.self.file) (g.F.FileBytes.seen c.put.new.self.file) 0 now.entries same (omega (arith, count)) (rw (← c.self.view_is) c.self.invariant.2)
    ∙ others-kept now.shape (g.F.FileBytes.seen now.file) (g.F.FileBytes.seen c.write_data.new.self.file) now.entries c.args.index keeps (rw (← c.self.view_is) c.self.invariant.1) (rw (← c.self.view_is) c.self.invariant.2) low))

pub returns-clause-ok : goal.returns-clause-ok
returns-clause-ok g c =
    let now = c.args.self.now in
    let low = filed-low g.F.FileBytes.seen now c.args.index c.requires.in_range in
    let low' = rw (← c.self.view_is) at low in
    let fits = append-fits c.self.inside.geometry (g.F.FileBytes.seen c.self.inside.file) c.self.inside.entries.items c.args.index c.args.bytes.now c.self.invariant.4.long c.self.invariant.1 c.self.invariant.2 low'
    (block-some c.self.inside.geometry c.self.invariant.0) (rw (← c.self.view_is) at c.requires.checks) in
    let is = entry-read c.self.inside.entries.items c.args.index c.index-before.result.now low' c.index-before.ensures in
    let keeps = c.write_data.ensures.others in
    let same = rw c.write_data.ensures.shape at c.put.ensures.zones in
    let put = c.in_ok-write_data.ensures.data in
    let count : length now.entries ≡ now.shape.zones = rw (← c.self.view_is) c.self.invariant.1 in
    let within : AreWithin now.shape now.entries = rw (← c.self.view_is) c.self.invariant.2 in
    let long : length (g.F.FileBytes.seen now.file) ≡ file_length now.shape = rw (← c.self.view_is) c.self.invariant.4.long in
    let some : 1 ≤ now.shape.block = rw (← c.self.view_is) (block-some c.self.inside.geometry c.self.invariant.0) in
    let blocks = length c.args.bytes.now / now.shape.block in
    let whole : length c.args.bytes.now ≡ blocks * now.shape.block = rw (← c.self.view_is) fits.0 in
    let room : (entry_at now.entries c.args.index).written + blocks ≤ now.shape.capacity = rw (← c.self.view_is) fits.1 in
    let entry = c.appended-entry.ensures
    ∙ ap (λ (e : Entry). appended c.self.inside.geometry e (length c.args.bytes.now / c.self.inside.geometry.block) c.sum_of-sum.result) is
    ∙ ap (λ (z : FiledZones _). appended z.shape (entry_at z.entries c.args.index) (length c.args.bytes.now / z.shape.block) c.sum_of-sum.result) c.self.view_is in
    rw (c.put.ensures.shape, c.in_ok-put.ensures.ok, c.write_data.ensures.shape, c.write_data.ensures.entries, entry)
    (append-stored now.shape (g.F.FileBytes.seen now.file) (g.F.FileBytes.seen c.write_data.new.self.file) (g.F.FileBytes.seen c.put.new.self.file)
    now.entries c.args.index c.args.bytes.now blocks count within low long some whole room keeps put same c.sum_of-sum.result)
