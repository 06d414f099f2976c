use Rattle.disk_runs.proofs.ProgressLaws.{cleans_end, commands_are_few, last_is_few, turns_are_few}
use Rattle.disk_runs.proofs.laws.runs_make_progress.Goals as goal

pub returns-clause-commands : goal.returns-clause-commands
returns-clause-commands c = commands_are_few

pub returns-clause-few : goal.returns-clause-few
returns-clause-few c = turns_are_few

pub returns-clause-ends : goal.returns-clause-ends
returns-clause-ends c = cleans_end

pub returns-clause-last : goal.returns-clause-last
returns-clause-last c = last_is_few
