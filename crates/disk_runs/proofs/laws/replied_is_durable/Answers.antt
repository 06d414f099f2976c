use Rattle.disk_runs.proofs.LossLaws.{answered_is_durable, drive_is_durable, run_is_durable}
use Rattle.disk_runs.proofs.laws.replied_is_durable.Goals as goal

pub returns-clause-answered : goal.returns-clause-answered
returns-clause-answered c = answered_is_durable

pub returns-clause-runs : goal.returns-clause-runs
returns-clause-runs c = run_is_durable

pub returns-clause-drives : goal.returns-clause-drives
returns-clause-drives c = drive_is_durable
