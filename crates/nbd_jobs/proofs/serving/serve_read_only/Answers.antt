use Rattle.nbd_session.specs.Streams.{streams}
use Rattle.nbd_jobs.proofs.SessionLaws.{file-read}
use Rattle.nbd_jobs.proofs.serving.serve_read_only.Goals as goal

pub returns-clause-reads : goal.returns-clause-reads
returns-clause-reads g c =
    let bytes = streams (g.R.Read.remaining c.args.reader.now) (g.R.Read.remaining c.serve_stopping-ended.new.reader) (g.W.Write.contents c.args.writer.now) (g.W.Write.contents c.serve_stopping-ended.new.writer) in
    file-read c.args.job.now (g.I.Read.remaining c.args.bytes.now) bytes c.serve_stopping-ended.result.told.result c.serve_stopping-ended.result.told.forgotten (record {
      first = c.in-Ok.begun;
      begins = c.in-Ok.ensures.ok;
      syncs = _;
      drive = c.serve_stopping-ended.result.device.state;
      serves = c.serve_stopping-ended.ensures.serves;
    })
