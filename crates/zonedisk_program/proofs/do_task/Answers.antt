use Rattle.zonedisk_program.proofs.EndLaws.{ends-task}
use Rattle.zonedisk_program.proofs.do_task.Goals as goal

pub returns : goal.returns
returns g c = ends-task c.begins_in_place-begins.result _ c.args.task c.do_asked.result c.begins_in_place-begins.ensures c.do_asked.ensures
