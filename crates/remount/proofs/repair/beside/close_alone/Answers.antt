use Rattle.std.proofs.Common.{◌*◌, sym, ap, ◌∙◌}
use Rattle.zone_states.specs.declared.geometry.Geometry.{Geometry}
use Rattle.remount.proofs.CallLaws.{can-close, close-done, close-halts, close-shuts, has-halted}
use Rattle.remount.proofs.repair.beside.close_alone.Goals as goal

pub fault_of-requires : goal.fault_of-requires
fault_of-requires g c =
    let old = g.D.Device.drive c.args.device.now in
    let can = can-close old c.args.zone _ c.args.reported c.requires.known (sym c.if-not-is_open.ensures) (c.start_of.ensures ∙ ap (λ (x : Geometry). c.args.zone * x.size) c.geometry-geometry.ensures.value) in
    (has-halted {V = Unit {0}} old (g.D.Device.drive c.close.new.device) c.in-Err.fault (c.in-Err.ensures.taken can.can) c.in-Err.ensures.obeys).halt

pub returns-in-Err-clause-err : goal.returns-in-Err-clause-err
returns-in-Err-clause-err g c =
    let old = g.D.Device.drive c.args.device.now in
    let can = can-close old c.args.zone _ c.args.reported c.requires.known (sym c.if-not-is_open.ensures) (c.start_of.ensures ∙ ap (λ (x : Geometry). c.args.zone * x.size) c.geometry-geometry.ensures.value) in
    rw c.fault_of.ensures (has-halted {V = Unit {0}} old (g.D.Device.drive c.close.new.device) c.in-Err.fault (c.in-Err.ensures.taken can.can) c.in-Err.ensures.obeys).cause

pub returns-in-Err-clause-kept : goal.returns-in-Err-clause-kept
returns-in-Err-clause-kept g c =
    let old = g.D.Device.drive c.args.device.now in
    let can = can-close old c.args.zone _ c.args.reported c.requires.known (sym c.if-not-is_open.ensures) (c.start_of.ensures ∙ ap (λ (x : Geometry). c.args.zone * x.size) c.geometry-geometry.ensures.value) in
    close-halts old (g.D.Device.drive c.close.new.device) _ c.in-Err.fault c.in-Err.ensures.kept c.in-Err.ensures.leaves c.in-Err.ensures.obeys (c.in-Err.ensures.taken can.can)

pub returns-clause-shut : goal.returns-clause-shut
returns-clause-shut g c =
    let old = g.D.Device.drive c.args.device.now in
    let can = can-close old c.args.zone _ c.args.reported c.requires.known (sym c.if-not-is_open.ensures) (c.start_of.ensures ∙ ap (λ (x : Geometry). c.args.zone * x.size) c.geometry-geometry.ensures.value) in
    λ few. close-shuts old (g.D.Device.drive c.close.new.device) c.args.zone _ can.at c.requires.known.in_range c.in_default.ensures.leaves

pub returns-clause-kept : goal.returns-clause-kept
returns-clause-kept g c = close-done (g.D.Device.drive c.args.device.now) (g.D.Device.drive c.close.new.device) _ c.in_default.ensures.kept c.in_default.ensures.leaves c.in_default.ensures.obeys c.in_default.ensures.closed
