use Rattle.zone_drive.specs.declared.habit.Habit.TheVariants.{Lazy}
use Rattle.repair_jobs.proofs.FileLaws.{tails-told}
use Rattle.repair_jobs.proofs.file.list_file.Goals as goal

pub returns-in-Ok-clause-ok : goal.returns-in-Ok-clause-ok
returns-in-Ok-clause-ok g c =
    tails-told (g.I.Read.remaining c.args.bytes.now) Lazy c.in-Ok.begun c.in-Ok.ensures.ok (g.W.Write.contents c.args.output.now) (g.W.Write.contents c.list_tails-told.new.output)
    c.list_tails-told.result (c.list_tails-told.ensures.ok c.vouch.ensures)
