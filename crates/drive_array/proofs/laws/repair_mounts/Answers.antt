use Rattle.drive_array.proofs.RepairingEnds.{needed_stays, repair_ends}
use Rattle.drive_array.proofs.RepairingMounts.{repair_begins, repair_mounts}
use Rattle.drive_array.proofs.RepairingMoves.{move_repairs, torn_move_repairs}
use Rattle.drive_array.proofs.laws.repair_mounts.Goals as goal

pub returns-clause-begins : goal.returns-clause-begins
returns-clause-begins c = repair_begins

pub returns-clause-mounts : goal.returns-clause-mounts
returns-clause-mounts c = repair_mounts

pub returns-clause-whole : goal.returns-clause-whole
returns-clause-whole c = move_repairs

pub returns-clause-torn : goal.returns-clause-torn
returns-clause-torn c = torn_move_repairs

pub returns-clause-ends : goal.returns-clause-ends
returns-clause-ends c = repair_ends

pub returns-clause-needed : goal.returns-clause-needed
returns-clause-needed c = needed_stays
