use Rattle.std.proofs.Common.{refl, subst, inl, Err}
use Rattle.zone_choice.specs.Agreement.{MountedView, mounted}
use Rattle.zone_choice.specs.Builder.{built}
use Rattle.zone_choice.specs.Changes.{BatchLeaves, built_for, fault_halt}
use Rattle.zone_choice.proofs.ChangeLaws.{place_halts, place_writes, placed-tables, size-built}
use Rattle.zone_choice.proofs.MayLaws.{address-fits, few-entries, grown-ready, says-size, tables-appended, whole_blocks, written-fits}
use Rattle.zone_choice.proofs.append.append_alone.Goals as goal

pub append-requires : goal.append-requires
append-requires g c =
    let built = rw (← c.disk.view_is) at c.requires.built in
    let may = rw (← c.disk.view_is) at c.requires.may in
    record { whole = whole_blocks _ c.disk.inside.tables c.args.zone c.args.batch.now c.bytes.result.now c.bytes.ensures built may }

pub grow_to-requires : goal.grow_to-requires
grow_to-requires g c =
    let may = rw (← c.disk.view_is) at c.requires.may in
    rw c.size.ensures (says-size c.disk.inside.tables (built (g.D.Device.drive c.disk.inside.device).geometry.block c.args.batch.now) may.grows)

pub place_blocks-blocks-requires-clause-in_range : goal.place_blocks-blocks-requires-clause-in_range
place_blocks-blocks-requires-clause-in_range g c =
    let may = rw (← c.disk.view_is) at c.requires.may in
    rw c.entries.ensures (grown-ready _ c.disk.inside.tables c.grow_to.new.tables c.args.zone c.args.batch.now may (rw c.size.ensures at c.grow_to.ensures)).in_range

pub place_blocks-blocks-requires-clause-ready : goal.place_blocks-blocks-requires-clause-ready
place_blocks-blocks-requires-clause-ready g c =
    let may = rw (← c.disk.view_is) at c.requires.may in
    rw c.entries.ensures (grown-ready _ c.disk.inside.tables c.grow_to.new.tables c.args.zone c.args.batch.now may (rw c.size.ensures at c.grow_to.ensures)).ready

pub place_blocks-blocks-requires-clause-distinct : goal.place_blocks-blocks-requires-clause-distinct
place_blocks-blocks-requires-clause-distinct g c = rw c.entries.ensures c.requires.may.heading.distinct

pub place_blocks-blocks-requires-clause-few : goal.place_blocks-blocks-requires-clause-few
place_blocks-blocks-requires-clause-few g c =
    let may = rw (← c.disk.view_is) at c.requires.may in
    rw c.entries.ensures (few-entries _ c.disk.inside.tables c.args.zone c.args.batch.now may)

pub place_blocks-blocks-requires-clause-size : goal.place_blocks-blocks-requires-clause-size
place_blocks-blocks-requires-clause-size g c =
    let may = rw (← c.disk.view_is) at c.requires.may in
    (grown-ready _ c.disk.inside.tables c.grow_to.new.tables c.args.zone c.args.batch.now may (rw c.size.ensures at c.grow_to.ensures)).short

pub place_blocks-blocks-requires-clause-fits : goal.place_blocks-blocks-requires-clause-fits
place_blocks-blocks-requires-clause-fits g c =
    let may = rw (← c.disk.view_is) at c.requires.may in
    address-fits _ _ c.disk.inside.tables c.args.zone _ c.in-Ok.address c.args.batch.now c.bytes.result.now may (rw (c.start_of-start.ensures, c.geometry.ensures, ← c.disk.view_is) refl) c.append.ensures.obeys.was_lawful c.in-Ok.ensures.appended

pub appended-requires-clause-fits : goal.appended-requires-clause-fits
appended-requires-clause-fits g c =
    let may = rw (← c.disk.view_is) at c.requires.may in
    let size = size-built (g.D.Device.drive c.disk.inside.device).geometry.block _ c.args.batch.now c.entries.result.now c.entries.ensures c.place_blocks-blocks.ensures.blocks in
    rw c.place_blocks-blocks.ensures.placed (written-fits _ c.disk.inside.tables c.grow_to.new.tables c.args.zone c.place_blocks-blocks.result c.args.batch.now may size c.grow_to.ensures.roles)

pub appended-requires-clause-next : goal.appended-requires-clause-next
appended-requires-clause-next g c =
    let may = rw (← c.disk.view_is) at c.requires.may in
    rw c.place_blocks-blocks.ensures.placed (grown-ready _ c.disk.inside.tables c.grow_to.new.tables c.args.zone c.args.batch.now may (rw c.size.ensures at c.grow_to.ensures)).next

pub returns-in-Ok-clause-leaves : goal.returns-in-Ok-clause-leaves
returns-in-Ok-clause-leaves g c = λ clean.
    let built = rw (← c.disk.view_is) at c.requires.built in
    let can = (rw (← c.disk.view_is) at c.requires.can) (c.append.ensures.obeys.trusted clean) in
    let alone = rw (← c.disk.view_is) at c.requires.alone in
    let size = size-built (g.D.Device.drive c.disk.inside.device).geometry.block _ c.args.batch.now c.entries.result.now c.entries.ensures c.place_blocks-blocks.ensures.blocks in
    let tables = placed-tables c.grow_to.new.tables c.place_blocks-blocks.new.tables c.appended.new.self c.args.zone c.in-Ok.address c.place_blocks-blocks.result c.args.batch.now c.entries.result.now c.entries.ensures c.place_blocks-blocks.ensures.placed c.appended.ensures in
    rw (← c.disk.view_is)
    (place_writes _ _ c.disk.inside.tables c.grow_to.new.tables c.appended.new.self c.args.zone _ c.in-Ok.address c.place_blocks-blocks.result c.args.batch.now c.bytes.result.now c.bytes.ensures built can alone (rw (c.start_of-start.ensures, c.geometry.ensures, ← c.disk.view_is) refl)
    c.in-Ok.ensures.appended c.in-Ok.ensures.leaves c.append.ensures.obeys.lawful c.append.ensures.obeys.unfailing c.append.ensures.obeys.durable size (rw c.size.ensures at c.grow_to.ensures) tables)

pub returns-in-Ok-clause-tables : goal.returns-in-Ok-clause-tables
returns-in-Ok-clause-tables g c =
    let may = rw (← c.disk.view_is) at c.requires.may in
    let alone = rw (← c.disk.view_is) at c.requires.alone in
    let size = size-built (g.D.Device.drive c.disk.inside.device).geometry.block _ c.args.batch.now c.entries.result.now c.entries.ensures c.place_blocks-blocks.ensures.blocks in
    let tables = placed-tables c.grow_to.new.tables c.place_blocks-blocks.new.tables c.appended.new.self c.args.zone c.in-Ok.address c.place_blocks-blocks.result c.args.batch.now c.entries.result.now c.entries.ensures c.place_blocks-blocks.ensures.placed c.appended.ensures in
    rw (← c.disk.view_is) (tables-appended (g.D.Device.drive c.disk.inside.device) c.disk.inside.tables c.grow_to.new.tables c.appended.new.self c.args.zone c.in-Ok.address c.place_blocks-blocks.result c.args.batch.now may alone size (rw c.size.ensures at c.grow_to.ensures) tables)

pub returns-in-Ok-clause-stays : goal.returns-in-Ok-clause-stays
returns-in-Ok-clause-stays g c = rw (← c.disk.view_is) (record { geometry = c.append.ensures.obeys.geometry; trusted = c.append.ensures.obeys.trusted; unfailing = c.append.ensures.obeys.unfailing })

pub returns-in-Err-clause-tables : goal.returns-in-Err-clause-tables
returns-in-Err-clause-tables g c = rw (← c.disk.view_is) (inl refl)

pub returns-in-Err-clause-stays : goal.returns-in-Err-clause-stays
returns-in-Err-clause-stays g c = rw (← c.disk.view_is) (record { geometry = c.append.ensures.obeys.geometry; trusted = c.append.ensures.obeys.trusted; unfailing = c.append.ensures.obeys.unfailing })

pub returns-in-Err-clause-leaves : goal.returns-in-Err-clause-leaves
returns-in-Err-clause-leaves g c = λ clean.
    let built = rw (← c.disk.view_is) at c.requires.built in
    let can = (rw (← c.disk.view_is) at c.requires.can) (c.append.ensures.obeys.trusted clean) in
    let alone = rw (← c.disk.view_is) at c.requires.alone in
    let e = c.in-Err.ensures in
    let halts = place_halts _ _ c.disk.inside.tables c.args.zone _ c.args.batch.now c.bytes.result.now c.in-Err.fault c.bytes.ensures built can alone (rw (c.start_of-start.ensures, c.geometry.ensures, ← c.disk.view_is) refl) e.gives e.kept e.leaves e.obeys e.taken in
    (halts.halt, subst (λ (m : MountedView). BatchLeaves m (mounted (g.D.Device.drive c.append.new.device) c.disk.inside.tables) c.args.zone (built_for m c.args.batch.now) (Err (fault_halt c.in-Err.fault))) c.disk.view_is halts.leaves)
