use Rattle.std.proofs.Common.{Err, Ok, subst, arith, ◌≤◌, ◌+◌, ◌*◌}
use Rattle.std.specs.Prelude.{IsTrue}
use Rattle.drive_port.specs.Drive.{DriveState}
use Rattle.zone_choice.specs.Agreement.{MountedView}
use Rattle.zone_choice.specs.declared.roles.Filling.{Filling}
use Rattle.zone_cleaner.specs.Answering.{CleanAnswers, CostsClean}
use Rattle.zone_cleaner.specs.Start.{CleanLeaves, KeepsByCleaning}
use Rattle.zone_translator.specs.Answering.{StaysOfSize}
use Rattle.zone_translator.proofs.CleaningLaws.{stays-cleaning, stays-join, zone-fails, zone-stays}
use Rattle.zone_translator.proofs.CostLaws.{costs-few}
use Rattle.zone_translator.proofs.RangeLaws.{range-cleaned, range-more, range-take}
use Rattle.zone_translator.proofs.RoomLaws.{clean_cause, room-cleaned, room-join, take_gives}
use Rattle.zone_translator.proofs.room.find_host.Goals as goal

-- ---- a zone is there

pub returns-in-Some-clause-leaves : goal.returns-in-Some-clause-leaves
returns-in-Some-clause-leaves g c = λ clean.
    let agrees = c.requires.agrees (subst (λ (d : DriveState). IsTrue d.clean) c.take.ensures.drive clean) in
    (take_gives c.args.disk.now c.take.new.disk c.args.cleaner.now c.in-Some.host agrees c.requires.host c.take.ensures.drive c.in-Some.ensures.some).leaves

pub returns-in-Some-clause-ok : goal.returns-in-Some-clause-ok
returns-in-Some-clause-ok g c = λ clean.
    let agrees = c.requires.agrees (subst (λ (d : DriveState). IsTrue d.clean) c.take.ensures.drive clean) in
    (take_gives c.args.disk.now c.take.new.disk c.args.cleaner.now c.in-Some.host agrees c.requires.host c.take.ensures.drive c.in-Some.ensures.some).host_is

pub returns-in-Some-clause-clean : goal.returns-in-Some-clause-clean
returns-in-Some-clause-clean g c = λ clean.
    let agrees = c.requires.agrees (subst (λ (d : DriveState). IsTrue d.clean) c.take.ensures.drive clean) in
    stays-cleaning {V = Filling} c.args.disk.now c.take.new.disk c.args.cleaner.now c.args.cleaner.now (Ok c.in-Some.host)
    (take_gives c.args.disk.now c.take.new.disk c.args.cleaner.now c.in-Some.host agrees c.requires.host c.take.ensures.drive c.in-Some.ensures.some).stays

pub returns-in-Some-clause-stays : goal.returns-in-Some-clause-stays
returns-in-Some-clause-stays g c = range-take c.args.disk.now c.take.new.disk c.in-Some.host c.requires.host c.take.ensures.drive c.in-Some.ensures.some c.requires.sane

pub returns-in-Some-clause-costs : goal.returns-in-Some-clause-costs
returns-in-Some-clause-costs g c = costs-few 2 c.args.disk.now.drive c.take.new.disk.drive c.requires.sane.geometry (omega arith) (rw c.take.ensures.drive (omega arith))

-- ---- one is cleaned

pub clean_zone-requires-clause-sane : goal.clean_zone-requires-clause-sane
clean_zone-requires-clause-sane g c = rw c.in_default.ensures.none.1 c.requires.sane

pub clean_zone-requires-clause-lacks : goal.clean_zone-requires-clause-lacks
clean_zone-requires-clause-lacks g c = rw c.in_default.ensures.none.1 c.in_default.ensures.none.0

pub clean_zone-requires-clause-cleaned : goal.clean_zone-requires-clause-cleaned
clean_zone-requires-clause-cleaned g c = rw c.in_default.ensures.none.1 c.requires.agrees

pub returns-in-Err-clause-leaves : goal.returns-in-Err-clause-leaves
returns-in-Err-clause-leaves g c = λ clean.
    let cleaned = subst (λ (d : MountedView). CleanAnswers d c.args.cleaner.now (Err c.in-Err.fault) c.clean_zone.new.disk c.clean_zone.new.self) c.in_default.ensures.none.1 (c.in-Err.ensures.answers clean) in
    rw c.from.ensures (room-cleaned Filling c.args.disk.now c.clean_zone.new.disk c.clean_zone.new.self c.in-Err.fault cleaned.cleaning.keeps cleaned.cleaning.goes_on cleaned.cleaning.cause)

pub returns-in-Err-clause-err : goal.returns-in-Err-clause-err
returns-in-Err-clause-err g c = λ clean.
    rw c.from.ensures (clean_cause c.clean_zone.new.disk.drive c.clean_zone.new.disk.tables.next c.in-Err.fault (c.in-Err.ensures.answers clean).cleaning.cause)

pub returns-in-Err-clause-clean : goal.returns-in-Err-clause-clean
returns-in-Err-clause-clean g c = λ clean.
    let same = c.in_default.ensures.none.1 in
    let agrees = c.requires.agrees (subst (λ (d : MountedView). IsTrue d.drive.clean) same (c.clean_zone.ensures.stays.shape.trusted clean)) in
    let leaves = subst (λ (d : MountedView). CleanLeaves d c.args.cleaner.now (Err c.in-Err.fault) c.clean_zone.new.disk c.clean_zone.new.self) same (c.in-Err.ensures.answers clean).leaves in
    rw c.from.ensures (zone-fails {V = Filling} c.args.disk.now c.clean_zone.new.disk c.args.cleaner.now c.clean_zone.new.self c.in-Err.fault agrees leaves (c.in-Err.ensures.answers clean).cleaning.cause)

pub returns-in-Err-clause-stays : goal.returns-in-Err-clause-stays
returns-in-Err-clause-stays g c = subst (λ (d : MountedView). StaysOfSize d c.clean_zone.new.disk) c.in_default.ensures.none.1 (range-cleaned c.take.new.disk c.clean_zone.new.disk c.clean_zone.ensures.stays)

pub returns-in-Err-clause-costs : goal.returns-in-Err-clause-costs
returns-in-Err-clause-costs g c = subst (λ (d : MountedView). CostsClean 2 d.drive c.clean_zone.new.disk.drive) c.in_default.ensures.none.1 c.clean_zone.ensures.costs

-- ---- the zone that it leaves is taken

pub take-requires-2 : goal.take-requires-2
take-requires-2 g c = c.clean_zone.ensures.stays.host (rw c.in_default.ensures.none.1 c.in_default.ensures.none.0.host)

pub returns-in-Some-take-clause-leaves : goal.returns-in-Some-take-clause-leaves
returns-in-Some-take-clause-leaves g c = λ clean.
    let middle = c.clean_zone.new.disk in
    let cleaned = c.in_default-clean_zone.ensures.answers (subst (λ (d : DriveState). IsTrue d.clean) c.take-2.ensures.drive clean) in
    let keeps = subst (λ (d : MountedView). KeepsByCleaning d middle) c.in_default.ensures.none.1 cleaned.cleaning.keeps in
    room-join {V = Filling} c.args.disk.now middle c.take-2.new.disk c.clean_zone.new.self (Ok c.in-Some-take.host) keeps
    (take_gives middle c.take-2.new.disk c.clean_zone.new.self c.in-Some-take.host cleaned.cleaning.goes_on cleaned.done.host c.take-2.ensures.drive c.in-Some-take.ensures.some).leaves

pub returns-in-Some-take-clause-ok : goal.returns-in-Some-take-clause-ok
returns-in-Some-take-clause-ok g c = λ clean.
    let middle = c.clean_zone.new.disk in
    let cleaned = c.in_default-clean_zone.ensures.answers (subst (λ (d : DriveState). IsTrue d.clean) c.take-2.ensures.drive clean) in
    (take_gives middle c.take-2.new.disk c.clean_zone.new.self c.in-Some-take.host cleaned.cleaning.goes_on cleaned.done.host c.take-2.ensures.drive c.in-Some-take.ensures.some).host_is

pub returns-in-Some-take-clause-clean : goal.returns-in-Some-take-clause-clean
returns-in-Some-take-clause-clean g c = λ clean.
    let first = c.args.disk.now in
    let middle = c.clean_zone.new.disk in
    let here = c.clean_zone.new.self in
    let then = subst (λ (d : DriveState). IsTrue d.clean) c.take-2.ensures.drive clean in
    let agrees = c.requires.agrees (subst (λ (d : MountedView). IsTrue d.drive.clean) c.in_default.ensures.none.1 (c.clean_zone.ensures.stays.shape.trusted then)) in
    let cleaned = c.in_default-clean_zone.ensures.answers then in
    let leaves = subst (λ (d : MountedView). CleanLeaves d c.args.cleaner.now (Ok tt) middle here) c.in_default.ensures.none.1 cleaned.leaves in
    let took = take_gives middle c.take-2.new.disk here c.in-Some-take.host cleaned.cleaning.goes_on cleaned.done.host c.take-2.ensures.drive c.in-Some-take.ensures.some in
    stays-cleaning {V = Filling} first c.take-2.new.disk c.args.cleaner.now here (Ok c.in-Some-take.host)
    (stays-join first middle c.take-2.new.disk c.args.cleaner.now here here (zone-stays first middle c.args.cleaner.now here agrees leaves cleaned.done.ended) took.stays)

pub returns-in-Some-take-clause-stays : goal.returns-in-Some-take-clause-stays
returns-in-Some-take-clause-stays g c =
    let middle = c.clean_zone.new.disk in
    let none = c.clean_zone.ensures.stays.host (rw c.in_default.ensures.none.1 c.in_default.ensures.none.0.host) in
    range-more c.args.disk.now middle c.take-2.new.disk (subst (λ (d : MountedView). StaysOfSize d middle) c.in_default.ensures.none.1 (range-cleaned c.take.new.disk middle c.clean_zone.ensures.stays))
    (range-take middle c.take-2.new.disk c.in-Some-take.host none c.take-2.ensures.drive c.in-Some-take.ensures.some c.clean_zone.ensures.stays.sane)

pub returns-in-Some-take-clause-costs : goal.returns-in-Some-take-clause-costs
returns-in-Some-take-clause-costs g c =
    let costs = subst (λ (d : MountedView). CostsClean 2 d.drive c.clean_zone.new.disk.drive) c.in_default.ensures.none.1 c.clean_zone.ensures.costs in
    rw c.take-2.ensures.drive costs
