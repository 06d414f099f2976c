use Rattle.drive_survey.proofs.ReadLaws.{keeps-both}
use Rattle.tail_repair.proofs.CauseLaws.{find-repair, if-fault, repair-before}
use Rattle.tail_repair.proofs.TailLaws.{known-in}
use Rattle.tail_repair.proofs.repair.check_room.Goals as goal

pub returns-in_err-zones-clause-err : goal.returns-in_err-zones-clause-err
returns-in_err-zones-clause-err g c = if-fault c.from_residual.result c.in_err-zones.field-0.0 _ c.from_residual.ensures.1 (find-repair (g.D.Device.drive c.args.device.now) (g.D.Device.drive c.known_zones.new.device) c.in_err-zones.field-0.0 c.in_err-zones.ensures.err)

pub destination-requires-clause-from : goal.destination-requires-clause-from
destination-requires-clause-from g c = known-in _ c.in_ok-zones.zones.items c.args.tail.zone c.in-Some.zone.number c.in-Some.zone.reported c.in_ok-zones.ensures.ok c.in-Some.ensures.0 (rw (← c.deref.ensures.value) c.in-Some.ensures.1)

pub returns-in_err-destination-clause-err : goal.returns-in_err-destination-clause-err
returns-in_err-destination-clause-err g c =
    if-fault c.from_residual-in_err-destination.result c.in_err-destination.field-0.0 _ c.from_residual-in_err-destination.ensures.1 (repair-before (g.D.Device.drive c.args.device.now) (g.D.Device.drive c.known_zones.new.device) (g.D.Device.drive c.destination.new.device) c.in_err-destination.field-0.0 c.known_zones.ensures.kept c.in_err-destination.ensures.err)

pub returns-in_err-destination-clause-kept : goal.returns-in_err-destination-clause-kept
returns-in_err-destination-clause-kept g c = keeps-both _ _ _ c.known_zones.ensures.kept c.destination.ensures.kept

pub returns : goal.returns
returns g c = record { err = tt; kept = keeps-both _ _ _ c.known_zones.ensures.kept c.destination.ensures.kept }
