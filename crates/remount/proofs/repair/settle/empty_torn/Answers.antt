use Rattle.std.proofs.Common.{◌*◌, ap, ◌∙◌}
use Rattle.zone_states.specs.declared.geometry.Geometry.{Geometry}
use Rattle.remount.specs.Moving.{move_count}
use Rattle.remount.proofs.CallLaws.{can-reset, has-halted}
use Rattle.remount.proofs.SettleLaws.{can-empty, emptied-mountable, reset-done, reset-halts}
use Rattle.remount.proofs.repair.settle.empty_torn.Goals as goal

pub returns-in-Err-clause-err : goal.returns-in-Err-clause-err
returns-in-Err-clause-err g c = λ clean.
    let now = g.D.Device.drive c.args.device.now in
    let d = c.requires.done (c.in-Err.ensures.obeys.trusted clean) in
    let can = can-empty d.0 d.1 now d.2 c.args.plan.now (move_count c.args.plan.now) d.3 _ d.4 (c.start_of-start.ensures ∙ ap (λ (x : Geometry). c.args.plan.now.torn * x.size) c.geometry.ensures.value) in
    let h = has-halted {V = Unit {0}} now (g.D.Device.drive c.reset.new.device) c.in-Err.fault (c.in-Err.ensures.taken (can-reset now c.args.plan.now.torn _ can.at can.usable)) c.in-Err.ensures.obeys in
    rw (c.fault_or_damaged.ensures h.halt) h.cause

pub returns-in-Err-clause-kept : goal.returns-in-Err-clause-kept
returns-in-Err-clause-kept g c =
    let now = g.D.Device.drive c.args.device.now in
    λ n start tables heads clean a.
    let can = can-empty n start now tables c.args.plan.now (move_count c.args.plan.now) heads _ a (c.start_of-start.ensures ∙ ap (λ (x : Geometry). c.args.plan.now.torn * x.size) c.geometry.ensures.value) in
    reset-halts n start now (g.D.Device.drive c.reset.new.device) tables c.args.plan.now heads _ c.in-Err.fault a can.at c.in-Err.ensures.kept c.in-Err.ensures.leaves c.in-Err.ensures.obeys (c.in-Err.ensures.taken (can-reset now c.args.plan.now.torn _ can.at can.usable))

pub returns-in-Err-clause-stays : goal.returns-in-Err-clause-stays
returns-in-Err-clause-stays g c = record { geometry = c.in-Err.ensures.obeys.geometry; lawful = c.in-Err.ensures.obeys.lawful; trusted = c.in-Err.ensures.obeys.trusted; unfailing = c.in-Err.ensures.obeys.unfailing }

pub returns-clause-ok : goal.returns-clause-ok
returns-clause-ok g c =
    let now = g.D.Device.drive c.args.device.now in
    λ n start tables heads clean a.
    let can = can-empty n start now tables c.args.plan.now (move_count c.args.plan.now) heads _ a (c.start_of-start.ensures ∙ ap (λ (x : Geometry). c.args.plan.now.torn * x.size) c.geometry.ensures.value) in
    reset-done n start now (g.D.Device.drive c.reset.new.device) tables c.args.plan.now heads _ a can.at c.in_default.ensures.reset c.in_default.ensures.leaves c.in_default.ensures.obeys

pub returns-clause-kept : goal.returns-clause-kept
returns-clause-kept g c =
    let now = g.D.Device.drive c.args.device.now in
    λ n start tables heads clean a.
    let can = can-empty n start now tables c.args.plan.now (move_count c.args.plan.now) heads _ a (c.start_of-start.ensures ∙ ap (λ (x : Geometry). c.args.plan.now.torn * x.size) c.geometry.ensures.value) in
    emptied-mountable n start now (g.D.Device.drive c.reset.new.device) tables c.args.plan.now heads a c.in_default.ensures.reset.geometry c.in_default.ensures.obeys.lawful c.in_default.ensures.reset.counts.refused c.in_default.ensures.obeys.durable (rw can.at.index at c.in_default.ensures.reset.contents)

pub returns-clause-stays : goal.returns-clause-stays
returns-clause-stays g c = record { geometry = c.in_default.ensures.obeys.geometry; lawful = c.in_default.ensures.obeys.lawful; trusted = c.in_default.ensures.obeys.trusted; unfailing = c.in_default.ensures.obeys.unfailing }
