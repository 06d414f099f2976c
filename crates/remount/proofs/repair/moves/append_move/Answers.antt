use Rattle.std.proofs.Common.{ℕ, ◌*◌, ◌∙◌, ap}
use Rattle.zone_states.specs.declared.geometry.Geometry.{Geometry}
use Rattle.remount.proofs.CallLaws.{has-halted}
use Rattle.remount.proofs.TakingLaws.{take-can, takeable-whole, takes-all, takes-some}
use Rattle.remount.proofs.repair.moves.append_move.Goals as goal

pub append-requires : goal.append-requires
append-requires g c = record { whole = takeable-whole (g.D.Device.drive c.args.device.now).geometry c.args.batch.now _ c.bytes.ensures c.requires.takeable }

pub returns-in-Ok-clause-ok : goal.returns-in-Ok-clause-ok
returns-in-Ok-clause-ok g c = λ clean.
    let old = g.D.Device.drive c.args.device.now in
    takes-all old (g.D.Device.drive c.append.new.device) c.args.zone _ _ c.args.batch.now _ c.bytes.ensures (c.start_of-start.ensures ∙ ap (λ (x : Geometry). c.args.zone * x.size) c.geometry.ensures.value) (c.requires.can (c.in-Ok.ensures.obeys.trusted clean)) c.in-Ok.ensures.appended c.in-Ok.ensures.leaves c.in-Ok.ensures.obeys.lawful c.in-Ok.ensures.obeys.durable

pub returns-in-Ok-clause-stays : goal.returns-in-Ok-clause-stays
returns-in-Ok-clause-stays g c = record { geometry = c.in-Ok.ensures.obeys.geometry; lawful = c.in-Ok.ensures.obeys.lawful; trusted = c.in-Ok.ensures.obeys.trusted; unfailing = c.in-Ok.ensures.obeys.unfailing }

pub returns-in-Err-clause-left : goal.returns-in-Err-clause-left
returns-in-Err-clause-left g c = λ clean.
    let old = g.D.Device.drive c.args.device.now in
    let can = c.requires.can (c.in-Err.ensures.obeys.trusted clean) in
    let start-is = c.start_of-start.ensures ∙ ap (λ (x : Geometry). c.args.zone * x.size) c.geometry.ensures.value in
    takes-some old (g.D.Device.drive c.append.new.device) c.args.zone _ c.args.batch.now _ c.in-Err.fault c.bytes.ensures start-is can c.in-Err.ensures.kept c.in-Err.ensures.leaves c.in-Err.ensures.obeys (c.in-Err.ensures.taken (take-can old c.args.zone _ c.args.batch.now _ c.bytes.ensures start-is can))

pub returns-in-Err-clause-err : goal.returns-in-Err-clause-err
returns-in-Err-clause-err g c = λ clean.
    let old = g.D.Device.drive c.args.device.now in
    let can = c.requires.can (c.in-Err.ensures.obeys.trusted clean) in
    let start-is = c.start_of-start.ensures ∙ ap (λ (x : Geometry). c.args.zone * x.size) c.geometry.ensures.value in
    let h = has-halted {V = ℕ} old (g.D.Device.drive c.append.new.device) c.in-Err.fault (c.in-Err.ensures.taken (take-can old c.args.zone _ c.args.batch.now _ c.bytes.ensures start-is can)) c.in-Err.ensures.obeys in
    rw (c.fault_or_damaged.ensures h.halt) h.cause

pub returns-in-Err-clause-stays : goal.returns-in-Err-clause-stays
returns-in-Err-clause-stays g c = record { geometry = c.in-Err.ensures.obeys.geometry; lawful = c.in-Err.ensures.obeys.lawful; trusted = c.in-Err.ensures.obeys.trusted; unfailing = c.in-Err.ensures.obeys.unfailing }
