use Rattle.zonedisk_program.proofs.EndLaws.{ends-found}
use Rattle.zonedisk_program.proofs.repairing.end_found.Goals as goal

pub returns : goal.returns
returns g c = ends-found c.args.mended.now.found c.tell_found.result c.send-sent.result _ _ c.end_told.result c.tell_found.ensures.ok c.send-sent.ensures.ok c.end_told.ensures
