use Rattle.nbd_jobs.proofs.SessionLaws.{job-while_clean}
use Rattle.nbd_jobs.proofs.serving.serve_stopping.Goals as goal

pub returns-clause-serves : goal.returns-clause-serves
returns-clause-serves g c =
    job-while_clean c.args.kept.read_only c.args.job.now _ _ _ c.serve_any_stopping-ended.result.told.result c.serve_any_stopping-ended.result.told.forgotten _ c.serve_any_stopping-ended.ensures.serves c.vouch.ensures

pub returns-clause-tells : goal.returns-clause-tells
returns-clause-tells g c = c.serve_any_stopping-ended.ensures.tells c.vouch.ensures
