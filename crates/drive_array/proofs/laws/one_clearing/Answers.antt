use Rattle.drive_array.proofs.ClearingLaws.{clearing_keeps}
use Rattle.drive_array.proofs.DecideLaws.{has_clearing}
use Rattle.drive_array.proofs.laws.one_clearing.Goals as goal

pub returns-clause-one : goal.returns-clause-one
returns-clause-one c = has_clearing

pub returns-clause-keeps : goal.returns-clause-keeps
returns-clause-keeps c = clearing_keeps
