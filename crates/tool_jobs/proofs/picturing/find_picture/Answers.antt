use Rattle.tool_jobs.proofs.PictureLaws.{not-drawn}
use Rattle.tool_jobs.proofs.picturing.find_picture.Goals as goal

pub returns-in-Ok-clause-ok : goal.returns-in-Ok-clause-ok
returns-in-Ok-clause-ok g c = record { saved = c.in_ok-drive.drive.state; is_read = c.in_ok-drive.ensures.ok; keeps = c.find_live-looked.ensures.kept; live = c.in-Ok.ensures.ok c.vouch.ensures }

pub returns-in-Err-clause-err : goal.returns-in-Err-clause-err
returns-in-Err-clause-err g c =
    not-drawn (g.I.Read.remaining c.args.bytes.now) c.in_ok-drive.drive.state _ c.in-Err.fault c.in_ok-drive.ensures.ok c.find_live-looked.ensures.kept (c.in-Err.ensures.err c.vouch.ensures)
