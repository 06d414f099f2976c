use Rattle.std.proofs.Common.{sym, ◌∙◌}
use Rattle.drive_rescue.proofs.RescueLaws.{no-blocks}
use Rattle.rescue_jobs.proofs.rescuing.find_disk.Goals as goal

pub returns-then-blocks-eq0-clause-err : goal.returns-then-blocks-eq0-clause-err
returns-then-blocks-eq0-clause-err g c = no-blocks (g.S.Source.view c.find.new.source) c.args.given c.in-Ok.findings c.in-Ok.ensures.ok (sym c.blocks-2.ensures ∙ c.if-blocks-eq0.true)
