use Rattle.std.proofs.Common.{Err, Ok, refl, arith, subst}
use Rattle.zone_choice.specs.Agreement.{MountedView, mounted}
use Rattle.zone_choice.specs.Changes.{fault_halt}
use Rattle.zone_translator.specs.Answering.{StaysOfSize}
use Rattle.zone_translator.specs.Changes.{RetireLeaves, disk_fault}
use Rattle.zone_choice.proofs.OpenLaws.{finish-opens}
use Rattle.zone_translator.proofs.RangeLaws.{host-within, range-seal, range-sent}
use Rattle.zone_translator.proofs.RoomLaws.{finish_halts, host-full, keeps-finish, keeps-seal}
use Rattle.zone_translator.proofs.room.retire.Goals as goal

-- ---- the zone is full

pub returns-then-host-geometry-clause-leaves : goal.returns-then-host-geometry-clause-leaves
returns-then-host-geometry-clause-leaves g c = λ clean.
    let t = c.disk.inside.tables in
    let agrees = (rw (← c.disk.view_is) at c.requires.agrees) clean in
    let host = rw (← c.disk.view_is) at c.requires.host in
    let few = rw (← c.disk.view_is) at c.requires.few in
    let full = rw (c.geometry-geometry.ensures, ← c.disk.view_is) at c.if-host-geometry.true in
    rw (← c.disk.view_is) (keeps-seal _ t _ c.args.host agrees host c.seal.ensures (omega (arith, few, full, agrees.geometry.capacity)) (host-full _ t c.args.host host agrees full))

pub returns-then-host-geometry-clause-stays : goal.returns-then-host-geometry-clause-stays
returns-then-host-geometry-clause-stays g c =
    let drive = g.D.Device.drive c.disk.inside.device in
    rw (← c.disk.view_is) (range-seal drive drive c.disk.inside.tables c.seal.new.self (record { geometry = refl; trusted = λ t. t; unfailing = λ up. up }) c.seal.ensures (rw (← c.disk.view_is) at c.requires.sane))

-- ---- it is finished

pub returns-in-Err-clause-leaves : goal.returns-in-Err-clause-leaves
returns-in-Err-clause-leaves g c = λ clean.
    let agrees = (rw (← c.disk.view_is) at c.requires.agrees) (c.in-Err.ensures.obeys.trusted clean) in
    let host = rw (← c.disk.view_is) at c.requires.host in
    let capacity = rw (← c.disk.view_is) at c.requires.few in
    let few = (host-within (mounted (g.D.Device.drive c.disk.inside.device) c.disk.inside.tables) c.args.host (rw (← c.disk.view_is) at c.requires.sane) host).1 in
    let other = rw (c.geometry-geometry.ensures, ← c.disk.view_is) at c.if-host-geometry.false in
    let halts = finish_halts _ _ c.disk.inside.tables c.args.host _ c.in-Err.fault agrees host (rw (c.start_of.ensures, c.geometry-geometry.ensures, ← c.disk.view_is) refl) (omega (arith, capacity, agrees.geometry.capacity)) (omega (arith, few, other))
    c.in-Err.ensures.gives c.in-Err.ensures.kept c.in-Err.ensures.leaves c.in-Err.ensures.obeys c.in-Err.ensures.taken in
    let after = mounted (g.D.Device.drive c.finish.new.device) c.disk.inside.tables in
    rw (c.fault_of.ensures halts.halt) (subst (λ (before : MountedView). RetireLeaves before after (Err (disk_fault (fault_halt c.in-Err.fault)))) c.disk.view_is halts.leaves)

pub returns-in-Err-clause-err : goal.returns-in-Err-clause-err
returns-in-Err-clause-err g c = λ clean.
    let agrees = (rw (← c.disk.view_is) at c.requires.agrees) (c.in-Err.ensures.obeys.trusted clean) in
    let host = rw (← c.disk.view_is) at c.requires.host in
    let capacity = rw (← c.disk.view_is) at c.requires.few in
    let few = (host-within (mounted (g.D.Device.drive c.disk.inside.device) c.disk.inside.tables) c.args.host (rw (← c.disk.view_is) at c.requires.sane) host).1 in
    let other = rw (c.geometry-geometry.ensures, ← c.disk.view_is) at c.if-host-geometry.false in
    let halts = finish_halts _ _ c.disk.inside.tables c.args.host _ c.in-Err.fault agrees host (rw (c.start_of.ensures, c.geometry-geometry.ensures, ← c.disk.view_is) refl) (omega (arith, capacity, agrees.geometry.capacity)) (omega (arith, few, other))
    c.in-Err.ensures.gives c.in-Err.ensures.kept c.in-Err.ensures.leaves c.in-Err.ensures.obeys c.in-Err.ensures.taken in
    rw (c.fault_of.ensures halts.halt) halts.cause

pub returns-in-Err-clause-stays : goal.returns-in-Err-clause-stays
returns-in-Err-clause-stays g c =
    let after = mounted (g.D.Device.drive c.finish.new.device) c.disk.inside.tables in
    subst (λ (before : MountedView). StaysOfSize before after) c.disk.view_is
    (range-sent (g.D.Device.drive c.disk.inside.device) (g.D.Device.drive c.finish.new.device) c.disk.inside.tables (record { geometry = c.finish.ensures.obeys.geometry; trusted = c.finish.ensures.obeys.trusted; unfailing = c.finish.ensures.obeys.unfailing }) (rw (← c.disk.view_is) at c.requires.sane))

pub returns-clause-leaves : goal.returns-clause-leaves
returns-clause-leaves g c = λ clean.
    let t = c.disk.inside.tables in
    let agrees = (rw (← c.disk.view_is) at c.requires.agrees) (c.finish.ensures.obeys.trusted clean) in
    let host = rw (← c.disk.view_is) at c.requires.host in
    let capacity = rw (← c.disk.view_is) at c.requires.few in
    let few = (host-within (mounted (g.D.Device.drive c.disk.inside.device) t) c.args.host (rw (← c.disk.view_is) at c.requires.sane) host).1 in
    let other = rw (c.geometry-geometry.ensures, ← c.disk.view_is) at c.if-host-geometry.false in
    rw (← c.disk.view_is) (keeps-finish _ _ t _ c.args.host _ agrees host (rw (c.start_of.ensures, c.geometry-geometry.ensures, ← c.disk.view_is) refl) (omega (arith, capacity, agrees.geometry.capacity)) (omega (arith, few, other))
    c.in_default.ensures.finished (finish-opens {V = Unit {0}} (g.D.Device.drive c.disk.inside.device) (g.D.Device.drive c.finish.new.device) _ (Ok tt) c.in_default.ensures.leaves) c.finish.ensures.obeys.lawful c.finish.ensures.obeys.unfailing c.finish.ensures.obeys.durable c.seal-2.ensures)

pub returns-clause-stays : goal.returns-clause-stays
returns-clause-stays g c =
    rw (← c.disk.view_is) (range-seal (g.D.Device.drive c.disk.inside.device) (g.D.Device.drive c.finish.new.device) c.disk.inside.tables c.seal-2.new.self (record { geometry = c.finish.ensures.obeys.geometry; trusted = c.finish.ensures.obeys.trusted; unfailing = c.finish.ensures.obeys.unfailing }) c.seal-2.ensures (rw (← c.disk.view_is) at c.requires.sane))
