use Rattle.std.proofs.Common.{◌∙◌, Err, Ok, ap, refl, rules, arith, true}
use Rattle.zone_translator.proofs.CostLaws.{costs-nothing, costs-sent, costs-unsent}
use Rattle.zone_translator.proofs.BatchLaws.{host-heading}
use Rattle.zone_translator.proofs.CleaningLaws.{append-stays, cleaning-stays, stays-cleaning, stays-join}
use Rattle.zone_choice.specs.declared.roles.Filling.{Filling}
use Rattle.zone_choice.specs.Changes.{built_for, fault_halt}
use Rattle.zone_translator.proofs.GrowthLaws.{grow-next, growth-halts, growth-no_memory, growth-no_room, growth-writes}
use Rattle.zone_translator.proofs.SendLaws.{grown-size, may-grow, range-grown, refused-size}
use Rattle.zone_translator.proofs.write.grow_batch.Goals as goal

pub returns-in_err-host-clause-leaves : goal.returns-in_err-host-clause-leaves
returns-in_err-host-clause-leaves g c = λ clean.
    growth-no_room c.args.disk.now c.find_room.new.disk c.find_room.new.cleaner c.args.blocks c.in_err-host.field-0.0 c.from_residual.result (search rules) (c.in_err-host.ensures.leaves clean) (c.in_err-host.ensures.cause clean)

pub encode-requires-clause-heading : goal.encode-requires-clause-heading
encode-requires-clause-heading g c =
    rw c.start.ensures.heading (host-heading c.geometry.result.block c.args.blocks c.next_sequence.result true 0 0 (omega (arith, c.if-blocks-eq0.false), c.requires.short) (omega arith) (omega arith) (omega arith))

pub returns-in_err-encode-clause-leaves : goal.returns-in_err-encode-clause-leaves
returns-in_err-encode-clause-leaves g c = λ clean.
    growth-no_memory c.args.disk.now c.find_room.new.disk c.find_room.new.cleaner c.args.blocks c.from_residual-in_err-encode.result (search rules) (c.in_ok-host.ensures.leaves clean)

pub returns-in_err-encode-clause-clean : goal.returns-in_err-encode-clause-clean
returns-in_err-encode-clause-clean g c = λ clean.
    let found = c.in_ok-host.ensures in
    let keeps = (found.leaves clean).0 in
    stays-cleaning c.args.disk.now c.find_room.new.disk c.args.cleaner.now c.find_room.new.cleaner c.from_residual-in_err-encode.result
    (cleaning-stays {V = Filling} c.args.disk.now c.find_room.new.disk c.args.cleaner.now c.find_room.new.cleaner c.in_ok-host.host (omega (arith, keeps.next, keeps.appended)) keeps.geometry (found.clean clean))

pub append_batch-requires-clause-built : goal.append_batch-requires-clause-built
append_batch-requires-clause-built g c =
    (may-grow c.find_room.new.disk c.in_ok-host.host c.args.blocks c.encode.new.self c.geometry.result c.geometry.ensures c.find_room.ensures.stays.range.sane c.in_ok-host.ensures.apart c.in_ok-host.ensures.ok (omega (arith, c.find_room.ensures.stays.size, c.requires.grows)) (omega (arith, c.if-blocks-eq0.false), c.requires.short)
    (c.encode.ensures.heading ∙ rw c.next_sequence.ensures at c.start.ensures.heading) (rw (c.start.ensures.heading, c.next_sequence.ensures) at c.in_ok-encode.ensures.bytes)).built_is

pub append_batch-requires-clause-may : goal.append_batch-requires-clause-may
append_batch-requires-clause-may g c =
    (may-grow c.find_room.new.disk c.in_ok-host.host c.args.blocks c.encode.new.self c.geometry.result c.geometry.ensures c.find_room.ensures.stays.range.sane c.in_ok-host.ensures.apart c.in_ok-host.ensures.ok (omega (arith, c.find_room.ensures.stays.size, c.requires.grows)) (omega (arith, c.if-blocks-eq0.false), c.requires.short)
    (c.encode.ensures.heading ∙ rw c.next_sequence.ensures at c.start.ensures.heading) (rw (c.start.ensures.heading, c.next_sequence.ensures) at c.in_ok-encode.ensures.bytes)).may

pub append_batch-requires-clause-can : goal.append_batch-requires-clause-can
append_batch-requires-clause-can g c = λ clean.
    let found = c.in_ok-host.ensures in
    (grow-next c.args.disk.now c.find_room.new.disk c.in_ok-host.host c.args.blocks c.encode.new.self c.geometry.result c.geometry.ensures (found.leaves clean).0 (found.leaves clean).1.0 found.ok c.requires.grows (c.requires.reserve (c.find_room.ensures.stays.range.shape.trusted clean))
    (c.encode.ensures.heading ∙ rw c.next_sequence.ensures at c.start.ensures.heading) (rw (c.start.ensures.heading, c.next_sequence.ensures) at c.in_ok-encode.ensures.bytes)).can

pub returns-in-Ok-clause-leaves : goal.returns-in-Ok-clause-leaves
returns-in-Ok-clause-leaves g c = λ clean.
    let now = c.append_batch.ensures.stays.trusted clean in
    let found = c.in_ok-host.ensures in
    let next = grow-next c.args.disk.now c.find_room.new.disk c.in_ok-host.host c.args.blocks c.encode.new.self c.geometry.result c.geometry.ensures (found.leaves now).0 (found.leaves now).1.0 found.ok c.requires.grows (c.requires.reserve (c.find_room.ensures.stays.range.shape.trusted now))
    (c.encode.ensures.heading ∙ rw c.next_sequence.ensures at c.start.ensures.heading) (rw (c.start.ensures.heading, c.next_sequence.ensures) at c.in_ok-encode.ensures.bytes) in
    growth-writes c.args.disk.now c.find_room.new.disk c.append_batch.new.disk c.find_room.new.cleaner c.append_batch.new.self c.in_ok-host.host c.args.blocks c.encode.new.self (found.leaves now).0 (found.leaves now).1 next (c.in-Ok.ensures.leaves clean)

pub returns-in-Ok-clause-clean : goal.returns-in-Ok-clause-clean
returns-in-Ok-clause-clean g c = λ clean.
    let now = c.append_batch.ensures.stays.trusted clean in
    let found = c.in_ok-host.ensures in
    let keeps = (found.leaves now).0 in
    let next = grow-next c.args.disk.now c.find_room.new.disk c.in_ok-host.host c.args.blocks c.encode.new.self c.geometry.result c.geometry.ensures keeps (found.leaves now).1.0 found.ok c.requires.grows (c.requires.reserve (c.find_room.ensures.stays.range.shape.trusted now))
    (c.encode.ensures.heading ∙ rw c.next_sequence.ensures at c.start.ensures.heading) (rw (c.start.ensures.heading, c.next_sequence.ensures) at c.in_ok-encode.ensures.bytes) in
    let first = cleaning-stays {V = Filling} c.args.disk.now c.find_room.new.disk c.args.cleaner.now c.find_room.new.cleaner c.in_ok-host.host (omega (arith, keeps.next, keeps.appended)) keeps.geometry (found.clean now) in
    let last = append-stays c.find_room.new.disk c.append_batch.new.disk c.find_room.new.cleaner c.append_batch.new.self c.in_ok-host.host.zone _ (Ok tt) next.can (c.in-Ok.ensures.leaves clean) in
    stays-cleaning c.args.disk.now c.append_batch.new.disk c.args.cleaner.now c.append_batch.new.self (Ok tt) (stays-join c.args.disk.now c.find_room.new.disk c.append_batch.new.disk c.args.cleaner.now c.find_room.new.cleaner c.append_batch.new.self first last)

pub returns-in-Err-clause-leaves : goal.returns-in-Err-clause-leaves
returns-in-Err-clause-leaves g c = λ clean.
    let now = c.append_batch.ensures.stays.trusted clean in
    let found = c.in_ok-host.ensures in
    let next = grow-next c.args.disk.now c.find_room.new.disk c.in_ok-host.host c.args.blocks c.encode.new.self c.geometry.result c.geometry.ensures (found.leaves now).0 (found.leaves now).1.0 found.ok c.requires.grows (c.requires.reserve (c.find_room.ensures.stays.range.shape.trusted now))
    (c.encode.ensures.heading ∙ rw c.next_sequence.ensures at c.start.ensures.heading) (rw (c.start.ensures.heading, c.next_sequence.ensures) at c.in_ok-encode.ensures.bytes) in
    rw (c.fault_of.ensures (c.in-Err.ensures.leaves clean).0)
    (growth-halts c.args.disk.now c.find_room.new.disk c.append_batch.new.disk c.find_room.new.cleaner c.append_batch.new.self c.in_ok-host.host c.args.blocks c.encode.new.self (fault_halt c.in-Err.fault) (found.leaves now).0 (found.leaves now).1 next (c.in-Err.ensures.leaves clean).1).0

pub returns-in-Err-clause-cause : goal.returns-in-Err-clause-cause
returns-in-Err-clause-cause g c = λ clean.
    let now = c.append_batch.ensures.stays.trusted clean in
    let found = c.in_ok-host.ensures in
    let next = grow-next c.args.disk.now c.find_room.new.disk c.in_ok-host.host c.args.blocks c.encode.new.self c.geometry.result c.geometry.ensures (found.leaves now).0 (found.leaves now).1.0 found.ok c.requires.grows (c.requires.reserve (c.find_room.ensures.stays.range.shape.trusted now))
    (c.encode.ensures.heading ∙ rw c.next_sequence.ensures at c.start.ensures.heading) (rw (c.start.ensures.heading, c.next_sequence.ensures) at c.in_ok-encode.ensures.bytes) in
    rw (c.fault_of.ensures (c.in-Err.ensures.leaves clean).0)
    (growth-halts c.args.disk.now c.find_room.new.disk c.append_batch.new.disk c.find_room.new.cleaner c.append_batch.new.self c.in_ok-host.host c.args.blocks c.encode.new.self (fault_halt c.in-Err.fault) (found.leaves now).0 (found.leaves now).1 next (c.in-Err.ensures.leaves clean).1).1

pub returns-in-Err-clause-clean : goal.returns-in-Err-clause-clean
returns-in-Err-clause-clean g c = λ clean.
    let now = c.append_batch.ensures.stays.trusted clean in
    let found = c.in_ok-host.ensures in
    let keeps = (found.leaves now).0 in
    let next = grow-next c.args.disk.now c.find_room.new.disk c.in_ok-host.host c.args.blocks c.encode.new.self c.geometry.result c.geometry.ensures keeps (found.leaves now).1.0 found.ok c.requires.grows (c.requires.reserve (c.find_room.ensures.stays.range.shape.trusted now))
    (c.encode.ensures.heading ∙ rw c.next_sequence.ensures at c.start.ensures.heading) (rw (c.start.ensures.heading, c.next_sequence.ensures) at c.in_ok-encode.ensures.bytes) in
    let first = cleaning-stays {V = Filling} c.args.disk.now c.find_room.new.disk c.args.cleaner.now c.find_room.new.cleaner c.in_ok-host.host (omega (arith, keeps.next, keeps.appended)) keeps.geometry (found.clean now) in
    let last = append-stays c.find_room.new.disk c.append_batch.new.disk c.find_room.new.cleaner c.append_batch.new.self c.in_ok-host.host.zone _ (Err (fault_halt c.in-Err.fault)) next.can (c.in-Err.ensures.leaves clean).1 in
    stays-cleaning c.args.disk.now c.append_batch.new.disk c.args.cleaner.now c.append_batch.new.self (Err c.fault_of.result) (stays-join c.args.disk.now c.find_room.new.disk c.append_batch.new.disk c.args.cleaner.now c.find_room.new.cleaner c.append_batch.new.self first last)

-- ---- whatever the Reads returned

pub returns-in_err-host-clause-stays : goal.returns-in_err-host-clause-stays
returns-in_err-host-clause-stays g c = c.find_room.ensures.stays.range

pub returns-in_err-encode-clause-stays : goal.returns-in_err-encode-clause-stays
returns-in_err-encode-clause-stays g c = c.find_room.ensures.stays.range

pub returns-in-Ok-clause-stays : goal.returns-in-Ok-clause-stays
returns-in-Ok-clause-stays g c =
    range-grown c.args.disk.now c.find_room.new.disk c.append_batch.new.disk c.in_ok-host.host.zone (built_for c.find_room.new.disk c.encode.new.self) c.append_batch.result c.find_room.ensures.stays c.append_batch.ensures.stays c.append_batch.ensures.sane c.append_batch.ensures.tables

pub returns-in-Err-clause-stays : goal.returns-in-Err-clause-stays
returns-in-Err-clause-stays g c =
    range-grown c.args.disk.now c.find_room.new.disk c.append_batch.new.disk c.in_ok-host.host.zone (built_for c.find_room.new.disk c.encode.new.self) c.append_batch.result c.find_room.ensures.stays c.append_batch.ensures.stays c.append_batch.ensures.sane c.append_batch.ensures.tables

pub returns-in-Ok-clause-size : goal.returns-in-Ok-clause-size
returns-in-Ok-clause-size g c =
    let heading = c.encode.ensures.heading ∙ c.start.ensures.heading in
    grown-size c.find_room.new.disk c.append_batch.new.disk c.in_ok-host.host.zone c.args.blocks (built_for c.find_room.new.disk c.encode.new.self) (ap (λ h. h.size) heading) c.in-Ok.ensures.tables

pub returns-in-Err-clause-same : goal.returns-in-Err-clause-same
returns-in-Err-clause-same g c =
    refused-size c.find_room.new.disk c.append_batch.new.disk c.in_ok-host.host.zone (built_for c.find_room.new.disk c.encode.new.self) c.in-Err.fault c.in-Err.ensures.tables ∙ c.find_room.ensures.stays.size

-- ---- while the drive is clean, a disk has a block

pub returns-then-blocks-eq0-clause-leaves : goal.returns-then-blocks-eq0-clause-leaves
returns-then-blocks-eq0-clause-leaves g c = λ clean. absurd (omega (arith, (c.requires.reserve clean).0, c.if-blocks-eq0.true))

pub returns-then-blocks-eq0-clause-cause : goal.returns-then-blocks-eq0-clause-cause
returns-then-blocks-eq0-clause-cause g c = λ clean. absurd (omega (arith, (c.requires.reserve clean).0, c.if-blocks-eq0.true))

pub returns-then-blocks-eq0-clause-clean : goal.returns-then-blocks-eq0-clause-clean
returns-then-blocks-eq0-clause-clean g c = λ clean. absurd (omega (arith, (c.requires.reserve clean).0, c.if-blocks-eq0.true))

pub returns-then-blocks-eq0-clause-stays : goal.returns-then-blocks-eq0-clause-stays
returns-then-blocks-eq0-clause-stays g c = record { shape = record { geometry = refl; trusted = λ t. t; unfailing = λ up. up }; sane = c.requires.sane; given = refl }

-- ---- what it costs

pub returns-in_err-host-clause-costs : goal.returns-in_err-host-clause-costs
returns-in_err-host-clause-costs g c = costs-unsent c.args.disk.now.drive c.find_room.new.disk.drive c.find_room.ensures.costs

pub returns-in_err-encode-clause-costs : goal.returns-in_err-encode-clause-costs
returns-in_err-encode-clause-costs g c = costs-unsent c.args.disk.now.drive c.find_room.new.disk.drive c.find_room.ensures.costs

pub returns-then-blocks-eq0-clause-costs : goal.returns-then-blocks-eq0-clause-costs
returns-then-blocks-eq0-clause-costs g c = costs-nothing c.args.disk.now.drive

pub returns-in-Ok-clause-costs : goal.returns-in-Ok-clause-costs
returns-in-Ok-clause-costs g c = costs-sent c.args.disk.now.drive c.find_room.new.disk.drive c.append_batch.new.disk.drive c.find_room.ensures.costs c.append_batch.ensures.stays.unfailing c.append_batch.ensures.completed

pub returns-in-Err-clause-costs : goal.returns-in-Err-clause-costs
returns-in-Err-clause-costs g c = costs-sent c.args.disk.now.drive c.find_room.new.disk.drive c.append_batch.new.disk.drive c.find_room.ensures.costs c.append_batch.ensures.stays.unfailing c.append_batch.ensures.completed
