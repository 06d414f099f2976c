use Rattle.drive_array.proofs.FitLaws.{few_fit}
use Rattle.drive_array.proofs.MountLaws.{torn_mounts}
use Rattle.drive_array.proofs.laws.torn_mounts.Goals as goal

pub returns-clause-fit : goal.returns-clause-fit
returns-clause-fit c = few_fit

pub returns-clause-mounts : goal.returns-clause-mounts
returns-clause-mounts c = torn_mounts
