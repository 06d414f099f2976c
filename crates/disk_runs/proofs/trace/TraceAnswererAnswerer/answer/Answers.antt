use Rattle.std.proofs.Common.{◌≡◌, false, true, Some, refl, rules}
use Rattle.disk_runs.specs.Taken.{flushes, takes_call}
use Rattle.disk_runs.specs.declared.fault.RunFault.TheVariants.{Disk}
use Rattle.disk_runs.proofs.AnyLaws.{any_answered, any_stopped, stays_flushed, stays_unflushed}
use Rattle.disk_runs.proofs.TakenLaws.{Says, answered, if_err, not_taken, refused, unflushed}
use Rattle.disk_runs.proofs.trace.TraceAnswererAnswerer.answer.Goals as goal

pub returns-then-not-takes-clause-err : goal.returns-then-not-takes-clause-err
returns-then-not-takes-clause-err g c =
    let call = c.in-Ok.request in
    let bytes = c.parse.new.bytes.items in
    let disk = c.args.self.now.disk in
    let says : Says c.args.line.now call bytes = record { some = search rules; said = c.in-Ok.ensures.ok } in
    let not : takes_call c.args.self.now.taking disk.drive.geometry.block call bytes ≡ false = search rules in
    (refl, not_taken c.args.self.now.taking disk.drive.geometry.block c.args.line.now bytes call says not, refl)

pub returns-in_err-answer_request-clause-err : goal.returns-in_err-answer_request-clause-err
returns-in_err-answer_request-clause-err g c =
    let taking = c.args.self.now.taking in
    let fault = c.in_err-answer_request.field-0.0 in
    let stops = c.in_err-answer_request.ensures in
    let says : Says c.args.line.now c.in-Ok.request c.deref-2.result.now = record { some = search rules; said = search rules } in
    let taken : takes_call taking c.args.self.now.disk.drive.geometry.block c.in-Ok.request c.deref-2.result.now ≡ true = search rules in
    if_err c.from_residual-in_err-answer_request.result fault _ c.from_residual-in_err-answer_request.ensures.1
    (any_stopped taking c.args.number c.args.self.now.disk c.answer_request.new.disk c.args.line.now c.deref-2.result.now c.in-Ok.request fault says taken stops.kind
    (stays_unflushed (flushes taking c.in-Ok.request) (Some (c.in-Ok.request, c.deref-2.result.now)) c.args.self.now.disk c.answer_request.new.disk c.answer_request.ensures.stays) stops.memory
    (λ clean. refused taking c.args.number c.args.self.now.disk c.answer_request.new.disk c.args.line.now c.deref-2.result.now c.in-Ok.request fault
    (record { says = says; taken = taken; flat = stops.err clean; cause = stops.cause clean; keeps = stops.leaves clean; does = stops.stops clean; durable = stops.durable clean })))

-- the flush of the line was refused
pub returns-in-Err-clause-err : goal.returns-in-Err-clause-err
returns-in-Err-clause-err g c =
    let taking = c.args.self.now.taking in
    let did = c.in_ok-answer_request.ensures in
    let then = c.flush_if.ensures.alike.shape.trusted in
    let says : Says c.args.line.now c.in-Ok.request c.deref-2.result.now = record { some = search rules; said = search rules } in
    let taken : takes_call taking c.args.self.now.disk.drive.geometry.block c.in-Ok.request c.deref-2.result.now ≡ true = search rules in
    let stays =
    stays_flushed (flushes taking c.in-Ok.request) (Some (c.in-Ok.request, c.deref-2.result.now)) c.args.self.now.disk c.answer_request.new.disk c.flush_if.new.disk did.stays c.flush_if.ensures.alike
    (rw c.flushes.ensures at c.flush_if.ensures.completed) in
    any_stopped taking c.args.number c.args.self.now.disk c.flush_if.new.disk c.args.line.now c.deref-2.result.now c.in-Ok.request (Disk c.in-Err.fault) says taken tt stays (λ e. absurd (cc))
    (λ clean. unflushed taking c.args.number c.in-Err.fault c.args.self.now.disk c.answer_request.new.disk c.flush_if.new.disk c.args.line.now c.answer_request.new.reply.items c.deref-2.result.now c.in-Ok.request
    (record { says = says; taken = taken; flat = did.ok (then clean); does = did.does (then clean); durable = did.durable (then clean) }) (rw c.flushes.ensures at c.in-Err.ensures.flushes clean))

pub returns-clause-ok : goal.returns-clause-ok
returns-clause-ok g c =
    let taking = c.args.self.now.taking in
    let did = c.in_ok-answer_request.ensures in
    let then = c.flush_if.ensures.alike.shape.trusted in
    let says : Says c.args.line.now c.in-Ok.request c.deref-2.result.now = record { some = search rules; said = search rules } in
    let taken : takes_call taking c.args.self.now.disk.drive.geometry.block c.in-Ok.request c.deref-2.result.now ≡ true = search rules in
    let stays =
    stays_flushed (flushes taking c.in-Ok.request) (Some (c.in-Ok.request, c.deref-2.result.now)) c.args.self.now.disk c.answer_request.new.disk c.flush_if.new.disk did.stays c.flush_if.ensures.alike
    (rw c.flushes.ensures at c.flush_if.ensures.completed) in
    any_answered taking c.args.self.now.disk c.flush_if.new.disk c.args.line.now c.answer_request.new.reply.items c.deref-2.result.now c.in-Ok.request says taken stays did.form
    (λ clean. answered taking c.args.self.now.disk c.answer_request.new.disk c.flush_if.new.disk c.args.line.now c.answer_request.new.reply.items c.deref-2.result.now c.in-Ok.request
    (record { says = says; taken = taken; flat = did.ok (then clean); does = did.does (then clean); durable = did.durable (then clean) }) (rw c.flushes.ensures at c.in_default.ensures.flushes clean))
