use Rattle.drive_survey.proofs.ReadLaws.{keeps-none}
use Rattle.drive_survey.proofs.clearing.shown.read_shown.Goals as goal

pub returns-in_err-write_zeros-clause-kept : goal.returns-in_err-write_zeros-clause-kept
returns-in_err-write_zeros-clause-kept g c = keeps-none _ c.requires.zones.lawful

pub returns-clause-kept : goal.returns-clause-kept
returns-clause-kept g c = keeps-none _ c.requires.zones.lawful
