use Rattle.std.proofs.Common.{◌+◌, ◌-◌, Err, Ok, Some, ap, inr, refl, rules, subst, sym, ◌∙◌}
use Rattle.std.specs.Prelude.{IsTrue}
use Rattle.drive_port.specs.Drive.{DriveState}
use Rattle.zone_choice.specs.declared.roles.Filling.{Filling}
use Rattle.zone_choice.specs.Changes.{built_for, fault_halt}
use Rattle.zone_translator.proofs.CleaningLaws.{append-stays, stays-cleaning, stays-join}
use Rattle.zone_translator.proofs.CostLaws.{costs-sent, costs-unsent}
use Rattle.zone_translator.proofs.RangeLaws.{range-more}
use Rattle.zone_translator.proofs.RoomLaws.{room-keeps}
use Rattle.zone_translator.proofs.SendLaws.{range-appended, range-ready}
use Rattle.zone_translator.proofs.WriteLaws.{batch-counted, cut-appended, cut-found, found-stays, halted-logs, kept-room, rest-kept, same-room, write_halts, write_no_memory, write_no_room, writes}
use Rattle.zone_translator.proofs.write.next_batch.Goals as goal

-- ---- no zone was found

pub returns-in_err-host-clause-leaves : goal.returns-in_err-host-clause-leaves
returns-in_err-host-clause-leaves g c = λ clean.
    write_no_room c.args.disk.now c.find_room.new.disk c.find_room.new.cleaner c.args.rest c.in_err-host.field-0.0 c.from_residual.result (search rules) (c.in_err-host.ensures.leaves clean) (c.in_err-host.ensures.cause clean)

pub returns-in_err-host-clause-cut : goal.returns-in_err-host-clause-cut
returns-in_err-host-clause-cut g c = λ clean.
    cut-found c.args.disk.now c.find_room.new.disk c.find_room.new.disk.drive (c.args.rest.first + c.args.rest.left - 1) (room-keeps Filling c.args.disk.now c.find_room.new.disk c.find_room.new.cleaner c.in_err-host.field-0.0 (c.in_err-host.ensures.leaves clean)) refl

-- ---- or no memory

pub build_batch-requires-clause-agrees : goal.build_batch-requires-clause-agrees
build_batch-requires-clause-agrees g c = λ clean.
    (c.in_ok-host.ensures.leaves clean).1.0

pub build_batch-requires-clause-can : goal.build_batch-requires-clause-can
build_batch-requires-clause-can g c = let stays = c.find_room.ensures.stays in rest-kept c.args.disk.now c.find_room.new.disk c.args.rest stays.range.shape.geometry stays.size c.requires.can

pub returns-in_err-count-clause-leaves : goal.returns-in_err-count-clause-leaves
returns-in_err-count-clause-leaves g c = λ clean.
    let then = subst (λ (d : DriveState). IsTrue d.clean) c.build_batch.ensures.drive clean in
    let found = (c.in_ok-host.ensures.leaves then) in
    write_no_memory c.args.disk.now c.build_batch.new.disk c.find_room.new.cleaner c.args.rest c.from_residual-in_err-count.result (search rules)
    (kept-room c.args.disk.now c.find_room.new.disk c.build_batch.new.disk c.find_room.new.cleaner found.0 found.1 c.build_batch.ensures.drive c.build_batch.ensures.kept)

pub returns-in_err-count-clause-cut : goal.returns-in_err-count-clause-cut
returns-in_err-count-clause-cut g c = λ clean.
    let then = subst (λ (d : DriveState). IsTrue d.clean) c.build_batch.ensures.drive clean in
    rw c.build_batch.ensures.drive (cut-found c.args.disk.now c.find_room.new.disk c.find_room.new.disk.drive (c.args.rest.first + c.args.rest.left - 1) (c.in_ok-host.ensures.leaves then).0 refl)

pub returns-in_err-count-clause-clean : goal.returns-in_err-count-clause-clean
returns-in_err-count-clause-clean g c = λ clean.
    let then = subst (λ (d : DriveState). IsTrue d.clean) c.build_batch.ensures.drive clean in
    let found = c.in_ok-host.ensures in
    let ready = found-stays c.args.disk.now c.find_room.new.disk c.build_batch.new.disk c.args.cleaner.now c.find_room.new.cleaner c.in_ok-host.host (found.leaves then) (found.clean then) c.build_batch.ensures.drive c.build_batch.ensures.kept in
    stays-cleaning c.args.disk.now c.build_batch.new.disk c.args.cleaner.now c.find_room.new.cleaner c.from_residual-in_err-count.result ready

-- ---- the Append

pub append_batch-requires-clause-cleaned : goal.append_batch-requires-clause-cleaned
append_batch-requires-clause-cleaned g c = λ clean.
    let then = subst (λ (d : DriveState). IsTrue d.clean) c.build_batch.ensures.drive clean in
    let found = (c.in_ok-host.ensures.leaves then) in
    (kept-room c.args.disk.now c.find_room.new.disk c.build_batch.new.disk c.find_room.new.cleaner found.0 found.1 c.build_batch.ensures.drive c.build_batch.ensures.kept).1

pub append_batch-requires-clause-host : goal.append_batch-requires-clause-host
append_batch-requires-clause-host g c = (same-room c.find_room.new.disk c.build_batch.new.disk c.in_ok-host.host c.build_batch.ensures.drive c.build_batch.ensures.kept c.in_ok-host.ensures.ok).host_is

pub append_batch-requires-clause-built : goal.append_batch-requires-clause-built
append_batch-requires-clause-built g c = c.in_ok-count.ensures.may.built_is

pub append_batch-requires-clause-may : goal.append_batch-requires-clause-may
append_batch-requires-clause-may g c = c.in_ok-count.ensures.may.may

pub append_batch-requires-clause-can : goal.append_batch-requires-clause-can
append_batch-requires-clause-can g c = λ clean.
    let then = subst (λ (d : DriveState). IsTrue d.clean) c.build_batch.ensures.drive clean in
    (c.in_ok-count.ensures.ok clean).can

pub returns-in-Ok-clause-leaves : goal.returns-in-Ok-clause-leaves
returns-in-Ok-clause-leaves g c = λ clean.
    let now = c.append_batch.ensures.stays.trusted clean in
    let then = subst (λ (d : DriveState). IsTrue d.clean) c.build_batch.ensures.drive now in
    let found = (c.in_ok-host.ensures.leaves then) in
    let ready = kept-room c.args.disk.now c.find_room.new.disk c.build_batch.new.disk c.find_room.new.cleaner found.0 found.1 c.build_batch.ensures.drive c.build_batch.ensures.kept in
    writes c.args.disk.now c.build_batch.new.disk c.append_batch.new.disk c.find_room.new.cleaner c.append_batch.new.self c.in_ok-host.host c.args.rest c.in_ok-count.count c.build_batch.new.batch ready.0 ready.1 c.requires.can (c.in_ok-count.ensures.ok now) (c.in-Ok.ensures.leaves clean)

pub returns-in-Ok-clause-count : goal.returns-in-Ok-clause-count
returns-in-Ok-clause-count g c =
    let found = c.in_ok-host.ensures in
    let stays = c.find_room.ensures.stays.range in
    batch-counted c.args.disk.now.drive.geometry c.find_room.new.disk.drive.geometry c.in_ok-host.host c.args.rest.left _ c.in_ok-count.count stays.shape.geometry stays.sane.geometry found.ok.free c.requires.can.some c.in_ok-count.ensures.count

pub returns-in-Ok-clause-cut : goal.returns-in-Ok-clause-cut
returns-in-Ok-clause-cut g c = λ clean.
    let now = c.append_batch.ensures.stays.trusted clean in
    let then = subst (λ (d : DriveState). IsTrue d.clean) c.build_batch.ensures.drive now in
    let found = (c.in_ok-host.ensures.leaves then) in
    let ready = kept-room c.args.disk.now c.find_room.new.disk c.build_batch.new.disk c.find_room.new.cleaner found.0 found.1 c.build_batch.ensures.drive c.build_batch.ensures.kept in
    let here = same-room c.find_room.new.disk c.build_batch.new.disk c.in_ok-host.host c.build_batch.ensures.drive c.build_batch.ensures.kept c.in_ok-host.ensures.ok in
    cut-appended c.args.disk.now c.build_batch.new.disk c.append_batch.new.disk.drive c.in_ok-host.host c.args.rest c.in_ok-count.count c.build_batch.new.batch ready.0 ready.1.0 here c.requires.can.some
    (rw c.build_batch.ensures.drive c.in_ok-count.ensures.count) (c.in_ok-count.ensures.ok now).entries (inr (c.in-Ok.ensures.leaves clean).0.logs)

pub returns-in-Ok-clause-clean : goal.returns-in-Ok-clause-clean
returns-in-Ok-clause-clean g c = λ clean.
    let now = c.append_batch.ensures.stays.trusted clean in
    let then = subst (λ (d : DriveState). IsTrue d.clean) c.build_batch.ensures.drive now in
    let found = c.in_ok-host.ensures in
    let ready = found-stays c.args.disk.now c.find_room.new.disk c.build_batch.new.disk c.args.cleaner.now c.find_room.new.cleaner c.in_ok-host.host (found.leaves then) (found.clean then) c.build_batch.ensures.drive c.build_batch.ensures.kept in
    let last = append-stays c.build_batch.new.disk c.append_batch.new.disk c.find_room.new.cleaner c.append_batch.new.self c.in_ok-host.host.zone _ (Ok tt) (c.in_ok-count.ensures.ok now).can (c.in-Ok.ensures.leaves clean) in
    stays-cleaning c.args.disk.now c.append_batch.new.disk c.args.cleaner.now c.append_batch.new.self (Ok c.in_ok-count.count) (stays-join c.args.disk.now c.build_batch.new.disk c.append_batch.new.disk c.args.cleaner.now c.find_room.new.cleaner c.append_batch.new.self ready last)

pub returns-in-Err-clause-leaves : goal.returns-in-Err-clause-leaves
returns-in-Err-clause-leaves g c = λ clean.
    let now = c.append_batch.ensures.stays.trusted clean in
    let then = subst (λ (d : DriveState). IsTrue d.clean) c.build_batch.ensures.drive now in
    let found = (c.in_ok-host.ensures.leaves then) in
    let ready = kept-room c.args.disk.now c.find_room.new.disk c.build_batch.new.disk c.find_room.new.cleaner found.0 found.1 c.build_batch.ensures.drive c.build_batch.ensures.kept in
    rw (c.fault_of.ensures (c.in-Err.ensures.leaves clean).0)
    (write_halts c.args.disk.now c.build_batch.new.disk c.append_batch.new.disk c.find_room.new.cleaner c.append_batch.new.self c.in_ok-host.host c.args.rest c.in_ok-count.count c.build_batch.new.batch (fault_halt c.in-Err.fault) ready.0 ready.1 (c.in_ok-count.ensures.ok now) (c.in-Err.ensures.leaves clean).1).0

pub returns-in-Err-clause-cause : goal.returns-in-Err-clause-cause
returns-in-Err-clause-cause g c = λ clean.
    let now = c.append_batch.ensures.stays.trusted clean in
    let then = subst (λ (d : DriveState). IsTrue d.clean) c.build_batch.ensures.drive now in
    let found = (c.in_ok-host.ensures.leaves then) in
    let ready = kept-room c.args.disk.now c.find_room.new.disk c.build_batch.new.disk c.find_room.new.cleaner found.0 found.1 c.build_batch.ensures.drive c.build_batch.ensures.kept in
    rw (c.fault_of.ensures (c.in-Err.ensures.leaves clean).0)
    (write_halts c.args.disk.now c.build_batch.new.disk c.append_batch.new.disk c.find_room.new.cleaner c.append_batch.new.self c.in_ok-host.host c.args.rest c.in_ok-count.count c.build_batch.new.batch (fault_halt c.in-Err.fault) ready.0 ready.1 (c.in_ok-count.ensures.ok now) (c.in-Err.ensures.leaves clean).1).1

pub returns-in-Err-clause-cut : goal.returns-in-Err-clause-cut
returns-in-Err-clause-cut g c = λ clean.
    let now = c.append_batch.ensures.stays.trusted clean in
    let then = subst (λ (d : DriveState). IsTrue d.clean) c.build_batch.ensures.drive now in
    let found = (c.in_ok-host.ensures.leaves then) in
    let ready = kept-room c.args.disk.now c.find_room.new.disk c.build_batch.new.disk c.find_room.new.cleaner found.0 found.1 c.build_batch.ensures.drive c.build_batch.ensures.kept in
    let here = same-room c.find_room.new.disk c.build_batch.new.disk c.in_ok-host.host c.build_batch.ensures.drive c.build_batch.ensures.kept c.in_ok-host.ensures.ok in
    cut-appended c.args.disk.now c.build_batch.new.disk c.append_batch.new.disk.drive c.in_ok-host.host c.args.rest c.in_ok-count.count c.build_batch.new.batch ready.0 ready.1.0 here c.requires.can.some
    (rw c.build_batch.ensures.drive c.in_ok-count.ensures.count) (c.in_ok-count.ensures.ok now).entries
    (halted-logs c.build_batch.new.disk c.append_batch.new.disk c.find_room.new.cleaner c.append_batch.new.self c.in_ok-host.host.zone _ (fault_halt c.in-Err.fault) (c.in-Err.ensures.leaves clean).1)

pub returns-in-Err-clause-clean : goal.returns-in-Err-clause-clean
returns-in-Err-clause-clean g c = λ clean.
    let now = c.append_batch.ensures.stays.trusted clean in
    let then = subst (λ (d : DriveState). IsTrue d.clean) c.build_batch.ensures.drive now in
    let found = c.in_ok-host.ensures in
    let ready = found-stays c.args.disk.now c.find_room.new.disk c.build_batch.new.disk c.args.cleaner.now c.find_room.new.cleaner c.in_ok-host.host (found.leaves then) (found.clean then) c.build_batch.ensures.drive c.build_batch.ensures.kept in
    let last = append-stays c.build_batch.new.disk c.append_batch.new.disk c.find_room.new.cleaner c.append_batch.new.self c.in_ok-host.host.zone _ (Err (fault_halt c.in-Err.fault)) (c.in_ok-count.ensures.ok now).can (c.in-Err.ensures.leaves clean).1 in
    stays-cleaning c.args.disk.now c.append_batch.new.disk c.args.cleaner.now c.append_batch.new.self (Err c.fault_of.result) (stays-join c.args.disk.now c.build_batch.new.disk c.append_batch.new.disk c.args.cleaner.now c.find_room.new.cleaner c.append_batch.new.self ready last)

-- ---- whatever the Reads returned

pub returns-in_err-count-clause-stays : goal.returns-in_err-count-clause-stays
returns-in_err-count-clause-stays g c =
    let found = c.find_room.ensures.stays in
    range-more c.args.disk.now c.find_room.new.disk c.build_batch.new.disk found (range-ready c.find_room.new.disk c.build_batch.new.disk c.build_batch.ensures.drive c.build_batch.ensures.kept found.range.sane)

pub returns-in-Ok-clause-stays : goal.returns-in-Ok-clause-stays
returns-in-Ok-clause-stays g c =
    let found = c.find_room.ensures.stays in
    let ready = range-ready c.find_room.new.disk c.build_batch.new.disk c.build_batch.ensures.drive c.build_batch.ensures.kept found.range.sane in
    let says = c.in_ok-count.ensures.size ∙ ap (λ n. Some n) (sym ready.size) in
    let sent = range-appended c.build_batch.new.disk c.append_batch.new.disk c.in_ok-host.host.zone (built_for c.build_batch.new.disk c.build_batch.new.batch) c.append_batch.result says c.append_batch.ensures.stays c.append_batch.ensures.sane c.append_batch.ensures.tables in
    range-more c.args.disk.now c.build_batch.new.disk c.append_batch.new.disk (range-more c.args.disk.now c.find_room.new.disk c.build_batch.new.disk found ready) sent

pub returns-in-Err-clause-stays : goal.returns-in-Err-clause-stays
returns-in-Err-clause-stays g c =
    let found = c.find_room.ensures.stays in
    let ready = range-ready c.find_room.new.disk c.build_batch.new.disk c.build_batch.ensures.drive c.build_batch.ensures.kept found.range.sane in
    let says = c.in_ok-count.ensures.size ∙ ap (λ n. Some n) (sym ready.size) in
    let sent = range-appended c.build_batch.new.disk c.append_batch.new.disk c.in_ok-host.host.zone (built_for c.build_batch.new.disk c.build_batch.new.batch) c.append_batch.result says c.append_batch.ensures.stays c.append_batch.ensures.sane c.append_batch.ensures.tables in
    range-more c.args.disk.now c.build_batch.new.disk c.append_batch.new.disk (range-more c.args.disk.now c.find_room.new.disk c.build_batch.new.disk found ready) sent

-- ---- what it costs

pub returns-in_err-host-clause-costs : goal.returns-in_err-host-clause-costs
returns-in_err-host-clause-costs g c = costs-unsent c.args.disk.now.drive c.find_room.new.disk.drive c.find_room.ensures.costs

pub returns-in_err-count-clause-costs : goal.returns-in_err-count-clause-costs
returns-in_err-count-clause-costs g c = rw c.build_batch.ensures.drive (costs-unsent c.args.disk.now.drive c.find_room.new.disk.drive c.find_room.ensures.costs)

pub returns-in-Ok-clause-costs : goal.returns-in-Ok-clause-costs
returns-in-Ok-clause-costs g c = costs-sent c.args.disk.now.drive c.build_batch.new.disk.drive c.append_batch.new.disk.drive (rw c.build_batch.ensures.drive c.find_room.ensures.costs) c.append_batch.ensures.stays.unfailing c.append_batch.ensures.completed

pub returns-in-Err-clause-costs : goal.returns-in-Err-clause-costs
returns-in-Err-clause-costs g c = costs-sent c.args.disk.now.drive c.build_batch.new.disk.drive c.append_batch.new.disk.drive (rw c.build_batch.ensures.drive c.find_room.ensures.costs) c.append_batch.ensures.stays.unfailing c.append_batch.ensures.completed
