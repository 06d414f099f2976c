use Rattle.tail_repair.proofs.CauseLaws.{if-fault, look-repair, none-empty}
use Rattle.tail_repair.proofs.repair.destination.Goals as goal

pub returns-in_err-to-clause-err : goal.returns-in_err-to-clause-err
returns-in_err-to-clause-err g c = if-fault c.from_residual.result c.in_err-to.field-0.0 _ c.from_residual.ensures.1 (look-repair (g.D.Device.drive c.args.device.now) (g.D.Device.drive c.copy_of.new.device) c.in_err-to.field-0.0 c.in_err-to.ensures.err)

pub returns-in-None-clause-err : goal.returns-in-None-clause-err
returns-in-None-clause-err g c =
    none-empty (g.D.Device.drive c.args.device.now) c.args.zones.now c.args.front.zone.number c.args.front.blocks c.args.front.zone.reported c.requires.known c.requires.from c.requires.some c.requires.within c.in-None.ensures.none
