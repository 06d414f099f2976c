use Rattle.drive_array.proofs.MountLaws.{lowest_resets, spare_resets, vacant_resets}
use Rattle.drive_array.proofs.laws.resets_mount.Goals as goal

pub returns-clause-lowest : goal.returns-clause-lowest
returns-clause-lowest c = lowest_resets

pub returns-clause-vacant : goal.returns-clause-vacant
returns-clause-vacant c = vacant_resets

pub returns-clause-spare : goal.returns-clause-spare
returns-clause-spare c = spare_resets
