use Rattle.std.proofs.Common.{◌∙◌, ap, arith}
use Rattle.std.proofs.lemmas.Grind.{get_or_default_zero}
use Rattle.file_drive.specs.InFile.{FiledZones, entry_at, flushed_at}
use Rattle.file_drive.specs.Tables.{entry_of}
use Rattle.file_drive.proofs.ApartLaws.{acted-apart}
use Rattle.file_drive.proofs.DataLaws.{within-at}
use Rattle.file_drive.proofs.ServedLaws.{filed-same, length-safe}
use Rattle.file_drive.proofs.StoreLaws.{acted-few, entry-read, filed-low, no_entry, on-err, sent-stored-in}
use Rattle.file_drive.proofs.SumLaws.{acted-summed}
use Rattle.file_drive.proofs.zones.FileZones.act.Goals as goal

pub index-requires : goal.index-requires
index-requires g c =
    let inside = c.self.inside in
    let low = rw (← c.self.view_is) at (filed-low g.F.FileBytes.seen c.args.self.now c.args.index c.requires) in
    let many = length-safe inside.geometry (g.F.FileBytes.seen inside.file) inside.entries.items inside.live inside.flushed _ c.self.invariant.4 in
    omega (arith, low, many, c.self.invariant.1)

pub index-before-requires : goal.index-before-requires
index-before-requires g c =
    let low = rw (← c.self.view_is) at (filed-low g.F.FileBytes.seen c.args.self.now c.args.index c.requires) in
    omega (arith, low)

pub put-requires-clause-apart : goal.put-requires-clause-apart
put-requires-clause-apart g c =
    let inside = c.self.inside in
    let low = rw (← c.self.view_is) at (filed-low g.F.FileBytes.seen c.args.self.now c.args.index c.requires) in
    let many = length-safe inside.geometry (g.F.FileBytes.seen inside.file) inside.entries.items inside.live inside.flushed _ c.self.invariant.4 in
    let is = entry-read inside.entries.items c.args.index c.index-before.result.now low c.index-before.ensures in
    let last = c.of_word-flushed.ensures ∙ ap entry_of (c.index.ensures ∙ get_or_default_zero inside.safe.items c.args.index c.index.result.now (omega (arith, low, many, c.self.invariant.1))) in
    rw (← c.self.view_is, c.acted-entry.ensures, is, last)
    (acted-apart c.args.action (flushed_at inside.safe.items c.args.index) (entry_at inside.entries.items c.args.index) (c.self.invariant.8 c.args.index low))

pub put-requires-clause-summed : goal.put-requires-clause-summed
put-requires-clause-summed g c =
    let inside = c.self.inside in
    let held = c.self.invariant in
    let low = rw (← c.self.view_is) at (filed-low g.F.FileBytes.seen c.args.self.now c.args.index c.requires) in
    let many = length-safe inside.geometry (g.F.FileBytes.seen inside.file) inside.entries.items inside.live inside.flushed _ held.4 in
    let is = entry-read inside.entries.items c.args.index c.index-before.result.now low c.index-before.ensures in
    let last = c.of_word-flushed.ensures ∙ ap entry_of (c.index.ensures ∙ get_or_default_zero inside.safe.items c.args.index c.index.result.now (omega (arith, low, many, held.1))) in
    let few = within-at inside.geometry inside.entries.items c.args.index no_entry held.2 low in
    rw (← c.self.view_is, c.acted-entry.ensures, is, last)
    (acted-summed inside.geometry (g.F.FileBytes.seen inside.file) c.args.index c.args.action (flushed_at inside.safe.items c.args.index) (entry_at inside.entries.items c.args.index)
    (held.4.summed c.args.index (omega (arith, low, held.1)) few))

pub put-requires-clause-in_range : goal.put-requires-clause-in_range
put-requires-clause-in_range g c = filed-low g.F.FileBytes.seen c.args.self.now c.args.index c.requires

pub put-requires-clause-within : goal.put-requires-clause-within
put-requires-clause-within g c =
    let inside = c.self.inside in
    let low = rw (← c.self.view_is) at (filed-low g.F.FileBytes.seen c.args.self.now c.args.index c.requires) in
    let is = entry-read inside.entries.items c.args.index c.index-before.result.now low c.index-before.ensures in
    rw (← c.self.view_is, c.acted-entry.ensures, is)
    (acted-few inside.geometry c.args.action c.of_word-flushed.result (entry_at inside.entries.items c.args.index) (within-at inside.geometry inside.entries.items c.args.index no_entry c.self.invariant.2 low))

pub returns-in_err-put-clause-err : goal.returns-in_err-put-clause-err
returns-in_err-put-clause-err g c =
    on-err c.from_residual.result _
    (filed-same g.F.FileBytes.seen c.args.self.now c.put.new.self c.put.ensures.shape c.in_err-put.ensures.err c.put.ensures.zones
    (rw (← c.self.view_is) c.self.invariant.1) (rw (← c.self.view_is) c.self.invariant.2))

pub returns-clause-ok : goal.returns-clause-ok
returns-clause-ok g c =
    let now = c.args.self.now in
    let low = filed-low g.F.FileBytes.seen now c.args.index c.requires in
    let low' = rw (← c.self.view_is) at low in
    let is = entry-read c.self.inside.entries.items c.args.index c.index-before.result.now low' c.index-before.ensures in
    let is' = is ∙ ap (λ (z : FiledZones _). entry_at z.entries c.args.index) c.self.view_is in
    rw (c.note_freed.ensures, c.put.ensures.shape, c.in_ok-put.ensures.ok, c.acted-entry.ensures, is')
    (sent-stored-in now.shape (g.F.FileBytes.seen now.file) (g.F.FileBytes.seen c.put.new.self.file) now.entries c.args.index c.args.action c.of_word-flushed.result c.put.ensures.zones
    (rw (← c.self.view_is) c.self.invariant.1) (rw (← c.self.view_is) c.self.invariant.2) low)
