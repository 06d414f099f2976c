use Rattle.drive_array.proofs.MountLaws.{finish_mounts, restart_mounts}
use Rattle.drive_array.proofs.laws.finish_mounts.Goals as goal

pub returns-clause-finish : goal.returns-clause-finish
returns-clause-finish c = finish_mounts

pub returns-clause-restart : goal.returns-clause-restart
returns-clause-restart c = restart_mounts
