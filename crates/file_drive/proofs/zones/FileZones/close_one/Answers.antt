use Rattle.std.proofs.Common.{◌≡◌, ◌∙◌, ap, refl, arith}
use Rattle.std.proofs.lemmas.Grind.{get_or_default_zero}
use Rattle.std.proofs.lemmas.List.{length-set}
use Rattle.nvme_wire.specs.declared.command.Action.TheVariants.{Close}
use Rattle.zone_drive.proofs.TableLaws.{counted-back}
use Rattle.file_drive.specs.InFile.{entry_at, flushed_at}
use Rattle.file_drive.specs.Tables.{acted, entry_of}
use Rattle.file_drive.specs.declared.entry.Entry.{Entry}
use Rattle.file_drive.proofs.ApartLaws.{acted-apart, apart-set}
use Rattle.file_drive.proofs.DataLaws.{within-at}
use Rattle.file_drive.proofs.ServedLaws.{length-safe, served-closed, within-set}
use Rattle.file_drive.proofs.StoreLaws.{acted-few, entry-read, filed-low, no_entry, sent-stored-in}
use Rattle.file_drive.proofs.zones.FileZones.close_one.Goals as goal

pub index-before-requires : goal.index-before-requires
index-before-requires g c =
    let inside = c.self.inside in
    let held = c.self.invariant in
    let low = rw (← c.self.view_is) at (filed-low g.F.FileBytes.seen c.args.self.now c.args.index c.requires) in
    omega (arith, low)

pub index-requires : goal.index-requires
index-requires g c =
    let inside = c.self.inside in
    let low = rw (← c.self.view_is) at (filed-low g.F.FileBytes.seen c.args.self.now c.args.index c.requires) in
    let many = length-safe inside.geometry (g.F.FileBytes.seen inside.file) inside.entries.items inside.live inside.flushed _ c.self.invariant.4 in
    omega (arith, low, many, c.self.invariant.1)

pub index_mut-requires : goal.index_mut-requires
index_mut-requires g c =
    let inside = c.self.inside in
    let held = c.self.invariant in
    let low = rw (← c.self.view_is) at (filed-low g.F.FileBytes.seen c.args.self.now c.args.index c.requires) in
    omega (arith, low)

pub follow-requires-clause-in_range : goal.follow-requires-clause-in_range
follow-requires-clause-in_range g c =
    let inside = c.self.inside in
    let held = c.self.invariant in
    let low = rw (← c.self.view_is) at (filed-low g.F.FileBytes.seen c.args.self.now c.args.index c.requires) in
    rw c.deref.ensures.value (omega (arith, low, length-set inside.entries.items c.args.index c.acted.result))

pub follow-requires-clause-counted : goal.follow-requires-clause-counted
follow-requires-clause-counted g c =
    let inside = c.self.inside in (
      c.index-before.result.now,
      refl,
      rw c.deref.ensures.value
          (counted-back (λ (e : Entry). e.state) inside.entries.items inside.resources c.args.index c.index-before.result.now c.acted.result c.index-before.ensures c.self.invariant.3),
    )

pub invariant_of-self : goal.invariant_of-self
invariant_of-self g c =
    let inside = c.self.inside in
    let held = c.self.invariant in
    let low = rw (← c.self.view_is) at (filed-low g.F.FileBytes.seen c.args.self.now c.args.index c.requires) in
    let is = entry-read inside.entries.items c.args.index c.index-before.result.now low c.index-before.ensures in
    let closed : c.acted.result ≡ acted Close c.of_word.result (entry_at inside.entries.items c.args.index) = c.acted.ensures ∙ ap (acted Close c.of_word.result) is in
    let few = acted-few inside.geometry Close c.of_word.result (entry_at inside.entries.items c.args.index) (within-at inside.geometry inside.entries.items c.args.index no_entry held.2 low) in
    let many = length-safe inside.geometry (g.F.FileBytes.seen inside.file) inside.entries.items inside.live inside.flushed _ held.4 in
    let last : c.of_word.result ≡ flushed_at inside.safe.items c.args.index =
    c.of_word.ensures ∙ ap entry_of (c.index.ensures ∙ get_or_default_zero inside.safe.items c.args.index c.index.result.now (omega (arith, low, many, held.1))) in
    let served = served-closed inside.geometry (g.F.FileBytes.seen inside.file) inside.entries.items inside.live inside.flushed _ c.args.index c.of_word.result low last held.4 in (
      held.0,
      length-set inside.entries.items c.args.index c.acted.result ∙ held.1,
      rw closed (within-set inside.geometry inside.entries.items c.args.index (acted Close c.of_word.result (entry_at inside.entries.items c.args.index)) held.2 few),
      rw c.deref.ensures.value at c.follow.ensures,
      rw closed served,
      held.5,
      held.6,
      held.7,
      rw closed (apart-set inside.safe.items inside.entries.items c.args.index (acted Close c.of_word.result (entry_at inside.entries.items c.args.index)) held.8
          (rw last (acted-apart Close (flushed_at inside.safe.items c.args.index) (entry_at inside.entries.items c.args.index) (held.8 c.args.index low)))),
      held.9,
      held.10,
    )

pub returns-clause-closed : goal.returns-clause-closed
returns-clause-closed g c =
    let inside = c.self.inside in
    let held = c.self.invariant in
    let low = rw (← c.self.view_is) at (filed-low g.F.FileBytes.seen c.args.self.now c.args.index c.requires) in
    let now = c.args.self.now in
    let is = entry-read inside.entries.items c.args.index c.index-before.result.now low c.index-before.ensures in
    let closed : c.acted.result ≡ acted Close c.of_word.result (entry_at inside.entries.items c.args.index) = c.acted.ensures ∙ ap (acted Close c.of_word.result) is in
    rw (closed, ← c.self.view_is)
    (sent-stored-in inside.geometry (g.F.FileBytes.seen inside.file) (g.F.FileBytes.seen inside.file) inside.entries.items c.args.index Close c.of_word.result (λ number written a b. refl) held.1 held.2 low)
