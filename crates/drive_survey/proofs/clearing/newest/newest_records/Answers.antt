use Rattle.std.proofs.Common.{[]}
use Rattle.drive_survey.proofs.NewestRecordLaws.{keeps-none, newest-few}
use Rattle.drive_survey.proofs.clearing.newest.newest_records.Goals as goal

pub returns-clause-newest : goal.returns-clause-newest
returns-clause-newest c = (c.in_ok-take_zone.ensures [] (keeps-none c.new.result c.new-2.result c.new.ensures.items c.new-2.ensures.empty)).are

pub returns-clause-few : goal.returns-clause-few
returns-clause-few c = newest-few c.args.zone c.args.heads.now c.take_zone.new.newest (c.in_ok-take_zone.ensures [] (keeps-none c.new.result c.new-2.result c.new.ensures.items c.new-2.ensures.empty))
