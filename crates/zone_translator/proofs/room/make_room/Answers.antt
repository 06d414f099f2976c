use Rattle.std.proofs.Common.{Ok, arith}
use Rattle.zone_choice.specs.declared.roles.Filling.{Filling}
use Rattle.zone_choice.proofs.ChangeLaws.{keeps-refl}
use Rattle.zone_cleaner.proofs.TurnLaws.{keeps-none}
use Rattle.zone_translator.proofs.CleaningLaws.{array-first, array-stays, stays-cleaning}
use Rattle.zone_translator.proofs.CostLaws.{costs-after, costs-few, costs-less}
use Rattle.zone_translator.proofs.RangeLaws.{range-more, range-same}
use Rattle.zone_translator.proofs.RoomLaws.{keeps-serving, retire_clean, retire_room, room-join}
use Rattle.zone_translator.proofs.room.make_room.Goals as goal

-- ---- the host zone has room

pub returns-then-host-geometry-clause-leaves : goal.returns-then-host-geometry-clause-leaves
returns-then-host-geometry-clause-leaves g c = λ clean. (keeps-none c.args.disk.now c.args.cleaner.now (c.requires.agrees clean), c.requires.agrees clean)

pub returns-then-host-geometry-clause-clean : goal.returns-then-host-geometry-clause-clean
returns-then-host-geometry-clause-clean g c = λ clean.
    let disk = c.args.disk.now in
    let agrees = c.requires.agrees clean in
    stays-cleaning {V = Filling} disk disk c.args.cleaner.now c.args.cleaner.now (Ok c.in-Some.host) (array-stays disk disk c.args.cleaner.now agrees (keeps-refl disk.drive disk.tables agrees.0))

pub returns-then-host-geometry-clause-stays : goal.returns-then-host-geometry-clause-stays
returns-then-host-geometry-clause-stays g c = range-same c.args.disk.now c.requires.sane

-- ---- it is sealed

pub returns-in-Err-clause-leaves : goal.returns-in-Err-clause-leaves
returns-in-Err-clause-leaves g c = λ clean.
    retire_room Filling c.args.disk.now c.retire.new.disk c.args.cleaner.now c.in-Err.fault (c.requires.agrees (c.retire.ensures.stays.range.shape.trusted clean)) (c.in-Err.ensures.leaves clean)

pub returns-in-Err-clause-clean : goal.returns-in-Err-clause-clean
returns-in-Err-clause-clean g c = λ clean.
    retire_clean Filling c.args.disk.now c.retire.new.disk c.args.cleaner.now c.in-Err.fault (c.requires.agrees (c.retire.ensures.stays.range.shape.trusted clean)) (c.in-Err.ensures.leaves clean)

pub find_host-requires-2-clause-agrees : goal.find_host-requires-2-clause-agrees
find_host-requires-2-clause-agrees g c = λ clean.
    (keeps-serving c.args.disk.now c.retire.new.disk c.args.cleaner.now (c.requires.agrees (c.retire.ensures.stays.range.shape.trusted clean)) (c.in_default-retire.ensures.leaves clean)).1

pub returns-clause-leaves : goal.returns-clause-leaves
returns-clause-leaves g c = λ clean.
    let then = c.find_host-2.ensures.stays.range.shape.trusted clean in
    room-join {V = Filling} c.args.disk.now c.retire.new.disk c.find_host-2.new.disk c.find_host-2.new.cleaner c.find_host-2.result
    (keeps-serving c.args.disk.now c.retire.new.disk c.args.cleaner.now (c.requires.agrees (c.retire.ensures.stays.range.shape.trusted then)) (c.in_default-retire.ensures.leaves then)).0 (c.find_host-2.ensures.leaves clean)

pub returns-clause-clean : goal.returns-clause-clean
returns-clause-clean g c = λ clean.
    let then = c.find_host-2.ensures.stays.range.shape.trusted clean in
    array-first {V = Filling} c.args.disk.now c.retire.new.disk c.find_host-2.new.disk c.args.cleaner.now c.find_host-2.new.cleaner c.find_host-2.result (c.requires.agrees (c.retire.ensures.stays.range.shape.trusted then)) (c.in_default-retire.ensures.leaves then) (c.find_host-2.ensures.clean clean)

pub returns-clause-stays : goal.returns-clause-stays
returns-clause-stays g c = range-more c.args.disk.now c.retire.new.disk c.find_host-2.new.disk c.retire.ensures.stays c.find_host-2.ensures.stays

-- ---- what it costs

pub returns-in_default-clause-costs : goal.returns-in_default-clause-costs
returns-in_default-clause-costs g c = costs-less c.args.disk.now.drive c.find_host.new.disk.drive c.find_host.ensures.costs

pub returns-then-host-geometry-clause-costs : goal.returns-then-host-geometry-clause-costs
returns-then-host-geometry-clause-costs g c = costs-few 1 c.args.disk.now.drive c.args.disk.now.drive c.requires.sane.geometry (omega arith) (omega arith)

pub returns-in-Err-clause-costs : goal.returns-in-Err-clause-costs
returns-in-Err-clause-costs g c = costs-few 1 c.args.disk.now.drive c.retire.new.disk.drive c.requires.sane.geometry (omega arith) c.retire.ensures.completed

pub returns-clause-costs : goal.returns-clause-costs
returns-clause-costs g c = costs-after c.args.disk.now.drive c.retire.new.disk.drive c.find_host-2.new.disk.drive c.retire.ensures.stays.range.shape.geometry c.retire.ensures.completed c.find_host-2.ensures.costs
