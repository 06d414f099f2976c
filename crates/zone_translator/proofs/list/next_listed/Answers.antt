use Rattle.std.proofs.Common.{Err, Ok, Some, ap, inr, refl, rules, subst, sym, ◌∙◌}
use Rattle.std.specs.Prelude.{IsTrue}
use Rattle.drive_port.specs.Drive.{DriveState}
use Rattle.zone_choice.specs.declared.roles.Filling.{Filling}
use Rattle.zone_choice.specs.Changes.{built_for, fault_halt}
use Rattle.zone_translator.proofs.CleaningLaws.{append-stays, stays-cleaning, stays-join}
use Rattle.zone_translator.proofs.CostLaws.{costs-sent, costs-unsent}
use Rattle.zone_translator.proofs.RangeLaws.{range-more}
use Rattle.zone_translator.proofs.RoomLaws.{room-keeps}
use Rattle.zone_translator.proofs.SendLaws.{range-appended, range-ready}
use Rattle.zone_translator.specs.Listed.{last_block}
use Rattle.zone_translator.proofs.ListedWriteLaws.{cut-listed_appended, list-kept, listed_halts, listed_no_memory, listed_no_room, puts-written}
use Rattle.zone_translator.proofs.WriteLaws.{cut-found, found-stays, halted-logs, kept-room, same-room}
use Rattle.zone_translator.proofs.list.next_listed.Goals as goal

-- ---- no zone was found

pub returns-in_err-host-clause-leaves : goal.returns-in_err-host-clause-leaves
returns-in_err-host-clause-leaves g c = λ clean.
    listed_no_room c.args.disk.now c.find_room.new.disk c.find_room.new.cleaner c.args.left c.in_err-host.field-0.0 c.from_residual.result (search rules) (c.in_err-host.ensures.leaves clean) (c.in_err-host.ensures.cause clean)

pub returns-in_err-host-clause-cut : goal.returns-in_err-host-clause-cut
returns-in_err-host-clause-cut g c = λ clean.
    cut-found c.args.disk.now c.find_room.new.disk c.find_room.new.disk.drive (last_block c.args.left.entries.now) (room-keeps Filling c.args.disk.now c.find_room.new.disk c.find_room.new.cleaner c.in_err-host.field-0.0 (c.in_err-host.ensures.leaves clean)) refl

-- ---- or no memory

pub build_listed-requires-clause-agrees : goal.build_listed-requires-clause-agrees
build_listed-requires-clause-agrees g c = λ clean.
    (c.in_ok-host.ensures.leaves clean).1.0

pub build_listed-requires-clause-can : goal.build_listed-requires-clause-can
build_listed-requires-clause-can g c = let stays = c.find_room.ensures.stays in list-kept c.args.disk.now c.find_room.new.disk c.args.left stays.range.shape.geometry stays.size c.requires.can

pub returns-in_err-taken-clause-leaves : goal.returns-in_err-taken-clause-leaves
returns-in_err-taken-clause-leaves g c = λ clean.
    let then = subst (λ (d : DriveState). IsTrue d.clean) c.build_listed.ensures.drive clean in
    let found = (c.in_ok-host.ensures.leaves then) in
    listed_no_memory c.args.disk.now c.build_listed.new.disk c.find_room.new.cleaner c.args.left c.from_residual-in_err-taken.result (search rules)
    (kept-room c.args.disk.now c.find_room.new.disk c.build_listed.new.disk c.find_room.new.cleaner found.0 found.1 c.build_listed.ensures.drive c.build_listed.ensures.kept)

pub returns-in_err-taken-clause-cut : goal.returns-in_err-taken-clause-cut
returns-in_err-taken-clause-cut g c = λ clean.
    let then = subst (λ (d : DriveState). IsTrue d.clean) c.build_listed.ensures.drive clean in
    rw c.build_listed.ensures.drive (cut-found c.args.disk.now c.find_room.new.disk c.find_room.new.disk.drive (last_block c.args.left.entries.now) (c.in_ok-host.ensures.leaves then).0 refl)

pub returns-in_err-taken-clause-clean : goal.returns-in_err-taken-clause-clean
returns-in_err-taken-clause-clean g c = λ clean.
    let then = subst (λ (d : DriveState). IsTrue d.clean) c.build_listed.ensures.drive clean in
    let found = c.in_ok-host.ensures in
    let ready = found-stays c.args.disk.now c.find_room.new.disk c.build_listed.new.disk c.args.cleaner.now c.find_room.new.cleaner c.in_ok-host.host (found.leaves then) (found.clean then) c.build_listed.ensures.drive c.build_listed.ensures.kept in
    stays-cleaning c.args.disk.now c.build_listed.new.disk c.args.cleaner.now c.find_room.new.cleaner c.from_residual-in_err-taken.result ready

-- ---- the Append

pub append_batch-requires-clause-cleaned : goal.append_batch-requires-clause-cleaned
append_batch-requires-clause-cleaned g c = λ clean.
    let then = subst (λ (d : DriveState). IsTrue d.clean) c.build_listed.ensures.drive clean in
    let found = (c.in_ok-host.ensures.leaves then) in
    (kept-room c.args.disk.now c.find_room.new.disk c.build_listed.new.disk c.find_room.new.cleaner found.0 found.1 c.build_listed.ensures.drive c.build_listed.ensures.kept).1

pub append_batch-requires-clause-host : goal.append_batch-requires-clause-host
append_batch-requires-clause-host g c = (same-room c.find_room.new.disk c.build_listed.new.disk c.in_ok-host.host c.build_listed.ensures.drive c.build_listed.ensures.kept c.in_ok-host.ensures.ok).host_is

pub append_batch-requires-clause-built : goal.append_batch-requires-clause-built
append_batch-requires-clause-built g c = c.in_ok-taken.ensures.may.built_is

pub append_batch-requires-clause-may : goal.append_batch-requires-clause-may
append_batch-requires-clause-may g c = c.in_ok-taken.ensures.may.may

pub append_batch-requires-clause-can : goal.append_batch-requires-clause-can
append_batch-requires-clause-can g c = λ clean.
    let then = subst (λ (d : DriveState). IsTrue d.clean) c.build_listed.ensures.drive clean in
    (c.in_ok-taken.ensures.ok clean).can

pub returns-in-Ok-clause-leaves : goal.returns-in-Ok-clause-leaves
returns-in-Ok-clause-leaves g c = λ clean.
    let now = c.append_batch.ensures.stays.trusted clean in
    let then = subst (λ (d : DriveState). IsTrue d.clean) c.build_listed.ensures.drive now in
    let found = (c.in_ok-host.ensures.leaves then) in
    let ready = kept-room c.args.disk.now c.find_room.new.disk c.build_listed.new.disk c.find_room.new.cleaner found.0 found.1 c.build_listed.ensures.drive c.build_listed.ensures.kept in
    puts-written c.args.disk.now c.build_listed.new.disk c.append_batch.new.disk c.find_room.new.cleaner c.append_batch.new.self c.in_ok-host.host c.args.left c.in_ok-taken.taken c.build_listed.new.batch ready.0 ready.1 c.requires.can (c.in_ok-taken.ensures.ok now) (c.in-Ok.ensures.leaves clean)

pub returns-in-Ok-clause-taken : goal.returns-in-Ok-clause-taken
returns-in-Ok-clause-taken g c = c.in_ok-taken.ensures.count.front

pub returns-in-Ok-clause-cut : goal.returns-in-Ok-clause-cut
returns-in-Ok-clause-cut g c = λ clean.
    let now = c.append_batch.ensures.stays.trusted clean in
    let then = subst (λ (d : DriveState). IsTrue d.clean) c.build_listed.ensures.drive now in
    let found = (c.in_ok-host.ensures.leaves then) in
    let ready = kept-room c.args.disk.now c.find_room.new.disk c.build_listed.new.disk c.find_room.new.cleaner found.0 found.1 c.build_listed.ensures.drive c.build_listed.ensures.kept in
    let here = same-room c.find_room.new.disk c.build_listed.new.disk c.in_ok-host.host c.build_listed.ensures.drive c.build_listed.ensures.kept c.in_ok-host.ensures.ok in
    cut-listed_appended c.args.disk.now c.build_listed.new.disk c.append_batch.new.disk.drive c.in_ok-host.host c.args.left c.in_ok-taken.taken c.build_listed.new.batch ready.0 ready.1.0 here
    (rw c.build_listed.ensures.drive c.in_ok-taken.ensures.count) (c.in_ok-taken.ensures.ok now).entries (inr (c.in-Ok.ensures.leaves clean).0.logs)

pub returns-in-Ok-clause-clean : goal.returns-in-Ok-clause-clean
returns-in-Ok-clause-clean g c = λ clean.
    let now = c.append_batch.ensures.stays.trusted clean in
    let then = subst (λ (d : DriveState). IsTrue d.clean) c.build_listed.ensures.drive now in
    let found = c.in_ok-host.ensures in
    let ready = found-stays c.args.disk.now c.find_room.new.disk c.build_listed.new.disk c.args.cleaner.now c.find_room.new.cleaner c.in_ok-host.host (found.leaves then) (found.clean then) c.build_listed.ensures.drive c.build_listed.ensures.kept in
    let last = append-stays c.build_listed.new.disk c.append_batch.new.disk c.find_room.new.cleaner c.append_batch.new.self c.in_ok-host.host.zone _ (Ok tt) (c.in_ok-taken.ensures.ok now).can (c.in-Ok.ensures.leaves clean) in
    stays-cleaning c.args.disk.now c.append_batch.new.disk c.args.cleaner.now c.append_batch.new.self (Ok c.in_ok-taken.taken) (stays-join c.args.disk.now c.build_listed.new.disk c.append_batch.new.disk c.args.cleaner.now c.find_room.new.cleaner c.append_batch.new.self ready last)

pub returns-in-Err-clause-leaves : goal.returns-in-Err-clause-leaves
returns-in-Err-clause-leaves g c = λ clean.
    let now = c.append_batch.ensures.stays.trusted clean in
    let then = subst (λ (d : DriveState). IsTrue d.clean) c.build_listed.ensures.drive now in
    let found = (c.in_ok-host.ensures.leaves then) in
    let ready = kept-room c.args.disk.now c.find_room.new.disk c.build_listed.new.disk c.find_room.new.cleaner found.0 found.1 c.build_listed.ensures.drive c.build_listed.ensures.kept in
    rw (c.fault_of.ensures (c.in-Err.ensures.leaves clean).0)
    (listed_halts c.args.disk.now c.build_listed.new.disk c.append_batch.new.disk c.find_room.new.cleaner c.append_batch.new.self c.in_ok-host.host c.args.left c.in_ok-taken.taken.entries c.build_listed.new.batch (fault_halt c.in-Err.fault) ready.0 ready.1 (c.in_ok-taken.ensures.ok now) (c.in-Err.ensures.leaves clean).1).0

pub returns-in-Err-clause-cause : goal.returns-in-Err-clause-cause
returns-in-Err-clause-cause g c = λ clean.
    let now = c.append_batch.ensures.stays.trusted clean in
    let then = subst (λ (d : DriveState). IsTrue d.clean) c.build_listed.ensures.drive now in
    let found = (c.in_ok-host.ensures.leaves then) in
    let ready = kept-room c.args.disk.now c.find_room.new.disk c.build_listed.new.disk c.find_room.new.cleaner found.0 found.1 c.build_listed.ensures.drive c.build_listed.ensures.kept in
    rw (c.fault_of.ensures (c.in-Err.ensures.leaves clean).0)
    (listed_halts c.args.disk.now c.build_listed.new.disk c.append_batch.new.disk c.find_room.new.cleaner c.append_batch.new.self c.in_ok-host.host c.args.left c.in_ok-taken.taken.entries c.build_listed.new.batch (fault_halt c.in-Err.fault) ready.0 ready.1 (c.in_ok-taken.ensures.ok now) (c.in-Err.ensures.leaves clean).1).1

pub returns-in-Err-clause-cut : goal.returns-in-Err-clause-cut
returns-in-Err-clause-cut g c = λ clean.
    let now = c.append_batch.ensures.stays.trusted clean in
    let then = subst (λ (d : DriveState). IsTrue d.clean) c.build_listed.ensures.drive now in
    let found = (c.in_ok-host.ensures.leaves then) in
    let ready = kept-room c.args.disk.now c.find_room.new.disk c.build_listed.new.disk c.find_room.new.cleaner found.0 found.1 c.build_listed.ensures.drive c.build_listed.ensures.kept in
    let here = same-room c.find_room.new.disk c.build_listed.new.disk c.in_ok-host.host c.build_listed.ensures.drive c.build_listed.ensures.kept c.in_ok-host.ensures.ok in
    cut-listed_appended c.args.disk.now c.build_listed.new.disk c.append_batch.new.disk.drive c.in_ok-host.host c.args.left c.in_ok-taken.taken c.build_listed.new.batch ready.0 ready.1.0 here
    (rw c.build_listed.ensures.drive c.in_ok-taken.ensures.count) (c.in_ok-taken.ensures.ok now).entries
    (halted-logs c.build_listed.new.disk c.append_batch.new.disk c.find_room.new.cleaner c.append_batch.new.self c.in_ok-host.host.zone _ (fault_halt c.in-Err.fault) (c.in-Err.ensures.leaves clean).1)

pub returns-in-Err-clause-clean : goal.returns-in-Err-clause-clean
returns-in-Err-clause-clean g c = λ clean.
    let now = c.append_batch.ensures.stays.trusted clean in
    let then = subst (λ (d : DriveState). IsTrue d.clean) c.build_listed.ensures.drive now in
    let found = c.in_ok-host.ensures in
    let ready = found-stays c.args.disk.now c.find_room.new.disk c.build_listed.new.disk c.args.cleaner.now c.find_room.new.cleaner c.in_ok-host.host (found.leaves then) (found.clean then) c.build_listed.ensures.drive c.build_listed.ensures.kept in
    let last = append-stays c.build_listed.new.disk c.append_batch.new.disk c.find_room.new.cleaner c.append_batch.new.self c.in_ok-host.host.zone _ (Err (fault_halt c.in-Err.fault)) (c.in_ok-taken.ensures.ok now).can (c.in-Err.ensures.leaves clean).1 in
    stays-cleaning c.args.disk.now c.append_batch.new.disk c.args.cleaner.now c.append_batch.new.self (Err c.fault_of.result) (stays-join c.args.disk.now c.build_listed.new.disk c.append_batch.new.disk c.args.cleaner.now c.find_room.new.cleaner c.append_batch.new.self ready last)

-- ---- whatever the Reads returned

pub returns-in_err-taken-clause-stays : goal.returns-in_err-taken-clause-stays
returns-in_err-taken-clause-stays g c =
    let found = c.find_room.ensures.stays in
    range-more c.args.disk.now c.find_room.new.disk c.build_listed.new.disk found (range-ready c.find_room.new.disk c.build_listed.new.disk c.build_listed.ensures.drive c.build_listed.ensures.kept found.range.sane)

pub returns-in-Ok-clause-stays : goal.returns-in-Ok-clause-stays
returns-in-Ok-clause-stays g c =
    let found = c.find_room.ensures.stays in
    let ready = range-ready c.find_room.new.disk c.build_listed.new.disk c.build_listed.ensures.drive c.build_listed.ensures.kept found.range.sane in
    let says = c.in_ok-taken.ensures.size ∙ ap (λ n. Some n) (sym ready.size) in
    let sent = range-appended c.build_listed.new.disk c.append_batch.new.disk c.in_ok-host.host.zone (built_for c.build_listed.new.disk c.build_listed.new.batch) c.append_batch.result says c.append_batch.ensures.stays c.append_batch.ensures.sane c.append_batch.ensures.tables in
    range-more c.args.disk.now c.build_listed.new.disk c.append_batch.new.disk (range-more c.args.disk.now c.find_room.new.disk c.build_listed.new.disk found ready) sent

pub returns-in-Err-clause-stays : goal.returns-in-Err-clause-stays
returns-in-Err-clause-stays g c =
    let found = c.find_room.ensures.stays in
    let ready = range-ready c.find_room.new.disk c.build_listed.new.disk c.build_listed.ensures.drive c.build_listed.ensures.kept found.range.sane in
    let says = c.in_ok-taken.ensures.size ∙ ap (λ n. Some n) (sym ready.size) in
    let sent = range-appended c.build_listed.new.disk c.append_batch.new.disk c.in_ok-host.host.zone (built_for c.build_listed.new.disk c.build_listed.new.batch) c.append_batch.result says c.append_batch.ensures.stays c.append_batch.ensures.sane c.append_batch.ensures.tables in
    range-more c.args.disk.now c.build_listed.new.disk c.append_batch.new.disk (range-more c.args.disk.now c.find_room.new.disk c.build_listed.new.disk found ready) sent

-- ---- what it costs

pub returns-in_err-host-clause-costs : goal.returns-in_err-host-clause-costs
returns-in_err-host-clause-costs g c = costs-unsent c.args.disk.now.drive c.find_room.new.disk.drive c.find_room.ensures.costs

pub returns-in_err-taken-clause-costs : goal.returns-in_err-taken-clause-costs
returns-in_err-taken-clause-costs g c = rw c.build_listed.ensures.drive (costs-unsent c.args.disk.now.drive c.find_room.new.disk.drive c.find_room.ensures.costs)

pub returns-in-Ok-clause-costs : goal.returns-in-Ok-clause-costs
returns-in-Ok-clause-costs g c = costs-sent c.args.disk.now.drive c.build_listed.new.disk.drive c.append_batch.new.disk.drive (rw c.build_listed.ensures.drive c.find_room.ensures.costs) c.append_batch.ensures.stays.unfailing c.append_batch.ensures.completed

pub returns-in-Err-clause-costs : goal.returns-in-Err-clause-costs
returns-in-Err-clause-costs g c = costs-sent c.args.disk.now.drive c.build_listed.new.disk.drive c.append_batch.new.disk.drive (rw c.build_listed.ensures.drive c.find_room.ensures.costs) c.append_batch.ensures.stays.unfailing c.append_batch.ensures.completed
