use Rattle.job_drives.proofs.KeptLaws.{left-file}
use Rattle.nbd_session.specs.Streams.{streams}
use Rattle.nbd_jobs.specs.Serving.{ServesKept}
use Rattle.nbd_jobs.proofs.serving.serve_drive.Goals as goal

pub returns-clause-left : goal.returns-clause-left
returns-clause-left g c =
    let ended = c.serve_stopping-ended.result.told in
    let bytes = streams (g.R.Read.remaining c.args.reader.now) (g.R.Read.remaining c.serve_stopping-ended.new.reader) (g.W.Write.contents c.args.writer.now) (g.W.Write.contents c.serve_stopping-ended.new.writer) in
    left-file (ServesKept c.args.job.now bytes _ ended.result _ ended.disk ended.forgotten) (g.I.Read.remaining c.args.file.bytes) c.args.job.now.habit _ _ _ _ _ _
    c.in-Ok.ensures.ok (record { serves = c.serve_stopping-ended.ensures.serves; tells = c.serve_stopping-ended.ensures.tells }) c.leave-left.ensures.was_image c.leave-left.ensures.left
