use Rattle.zone_drive.specs.declared.habit.Habit.TheVariants.{Lazy}
use Rattle.tool_jobs.proofs.CheckLaws.{not-asked}
use Rattle.tool_jobs.proofs.InfoLaws.{info-found}
use Rattle.tool_jobs.proofs.informing.find_info.Goals as goal

pub returns-in-Ok-clause-ok : goal.returns-in-Ok-clause-ok
returns-in-Ok-clause-ok g c =
    let found = rw c.in-Ok.is at (c.inspect_and_rehearse-drive.ensures.ok c.vouch.ensures) in
    info-found (g.I.Read.remaining c.args.bytes.now) Lazy c.in_ok-drive.field-0 c.in_ok-drive.ensures.ok c.blocks_taken-given.result c.geometry.result c.in-Ok.found c.geometry.ensures.value c.blocks_taken-given.ensures found

pub returns-clause-err : goal.returns-clause-err
returns-clause-err g c =
    let up = rw c.in-Err.is at (c.inspect_and_rehearse-drive.ensures.err c.vouch.ensures) in
    not-asked (g.I.Read.remaining c.args.bytes.now) Lazy c.in_ok-drive.field-0 c.in_ok-drive.ensures.ok up.last c.in-Err.fault c.interrupted.result up.keeps c.interrupted.ensures.told up.interrupted
