use Rattle.drive_images.proofs.MeaningLaws.{no-fault, one-fault}
use Rattle.drive_images.proofs.laws.one_fault.Goals as goal

pub returns-clause-none : goal.returns-clause-none
returns-clause-none c = no-fault

pub returns-clause-first : goal.returns-clause-first
returns-clause-first c = one-fault
