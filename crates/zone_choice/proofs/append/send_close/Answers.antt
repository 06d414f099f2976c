use Rattle.std.proofs.Common.{refl, sym, subst, inl, inr, Err}
use Rattle.zone_choice.specs.Agreement.{MountedView}
use Rattle.zone_choice.specs.Changes.{CloseBesideLeaves, fault_halt}
use Rattle.zone_choice.proofs.CloseLaws.{close_halts, other_closed, other_full}
use Rattle.zone_choice.proofs.append.send_close.Goals as goal

pub returns-in_default-clause-leaves : goal.returns-in_default-clause-leaves
returns-in_default-clause-leaves g c = λ clean. rw (← c.disk.view_is) (inl (sym c.in_default.ensures, refl))

pub returns-in_default-clause-stays : goal.returns-in_default-clause-stays
returns-in_default-clause-stays g c = record { geometry = refl; trusted = λ clean. clean; unfailing = λ up. up }

pub returns-then-other-geometry-clause-leaves : goal.returns-then-other-geometry-clause-leaves
returns-then-other-geometry-clause-leaves g c = λ clean.
    let agrees = (rw (← c.disk.view_is) at c.requires.agrees) (rw (← c.disk.view_is) at clean) in
    let filling = rw (← c.disk.view_is) at c.requires.filling in
    let beside = sym c.in-Some.ensures in
    rw (← c.disk.view_is) (inr (c.in-Some.other, beside, other_full _ c.disk.inside.tables c.args.zone c.in-Some.other agrees filling beside (rw (c.geometry-geometry.ensures, ← c.disk.view_is) at c.if-other-geometry.true)))

pub returns-then-other-geometry-clause-stays : goal.returns-then-other-geometry-clause-stays
returns-then-other-geometry-clause-stays g c = rw (← c.disk.view_is) (record { geometry = refl; trusted = λ clean. clean; unfailing = λ up. up })

pub returns-clause-leaves : goal.returns-clause-leaves
returns-clause-leaves g c = λ clean.
    let agrees = (rw (← c.disk.view_is) at c.requires.agrees) (c.close.ensures.obeys.trusted clean) in
    let filling = rw (← c.disk.view_is) at c.requires.filling in
    let beside = sym c.in-Some.ensures in
    rw (← c.disk.view_is)
    (inr (c.in-Some.other, beside, other_closed _ _ c.disk.inside.tables c.args.zone _ c.in-Some.other agrees filling beside (rw (c.start_of.ensures, c.geometry-geometry.ensures, ← c.disk.view_is) refl) c.close.ensures.kept c.in_default-close.ensures.leaves c.close.ensures.obeys.lawful c.close.ensures.obeys.unfailing c.close.ensures.obeys.durable c.in_default-close.ensures.closed.counts))

pub returns-clause-stays : goal.returns-clause-stays
returns-clause-stays g c = rw (← c.disk.view_is) (record { geometry = c.close.ensures.obeys.geometry; trusted = c.close.ensures.obeys.trusted; unfailing = c.close.ensures.obeys.unfailing })

pub returns-in-Err-clause-leaves : goal.returns-in-Err-clause-leaves
returns-in-Err-clause-leaves g c = λ clean.
    let agrees = (rw (← c.disk.view_is) at c.requires.agrees) (c.close.ensures.obeys.trusted clean) in
    let e = c.in-Err.ensures in
    let halts = close_halts _ _ c.disk.inside.tables c.args.zone _ c.in-Some.other c.in-Err.fault agrees (sym c.in-Some.ensures) (rw (c.geometry-geometry.ensures, ← c.disk.view_is) at c.if-other-geometry.false) (rw (c.start_of.ensures, c.geometry-geometry.ensures, ← c.disk.view_is) refl) e.gives c.close.ensures.kept e.leaves e.obeys e.taken in
    (halts.halt, subst (λ (m : MountedView). CloseBesideLeaves m.drive m.tables c.args.zone (g.D.Device.drive c.close.new.device) (Err (fault_halt c.in-Err.fault))) c.disk.view_is halts.leaves)

pub returns-in-Err-clause-stays : goal.returns-in-Err-clause-stays
returns-in-Err-clause-stays g c = rw (← c.disk.view_is) (record { geometry = c.close.ensures.obeys.geometry; trusted = c.close.ensures.obeys.trusted; unfailing = c.close.ensures.obeys.unfailing })
