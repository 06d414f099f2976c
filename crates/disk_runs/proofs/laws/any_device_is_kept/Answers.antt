use Rattle.disk_runs.proofs.AnyLaws.{any_commands_are_few, any_last_is_few, lines_keep_size, run_keeps_shape}
use Rattle.disk_runs.proofs.laws.any_device_is_kept.Goals as goal

pub returns-clause-shape : goal.returns-clause-shape
returns-clause-shape c = run_keeps_shape

pub returns-clause-size : goal.returns-clause-size
returns-clause-size c = lines_keep_size

pub returns-clause-commands : goal.returns-clause-commands
returns-clause-commands c = any_commands_are_few

pub returns-clause-last : goal.returns-clause-last
returns-clause-last c = any_last_is_few
