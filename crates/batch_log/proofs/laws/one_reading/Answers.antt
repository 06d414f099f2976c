use Rattle.batch_log.proofs.EndingLaws.{one_reading, reading_says}
use Rattle.batch_log.proofs.laws.one_reading.Goals as goal

pub returns-clause-one : goal.returns-clause-one
returns-clause-one c = one_reading

pub returns-clause-says : goal.returns-clause-says
returns-clause-says c = reading_says
