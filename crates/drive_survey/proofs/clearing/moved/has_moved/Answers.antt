use Rattle.drive_survey.proofs.MovedLaws.{none-moved}
use Rattle.drive_survey.proofs.clearing.moved.has_moved.Goals as goal

pub returns : goal.returns
returns c = λ logs are. none-moved c.args.scanned.now logs c.loop-zone.zone are c.loop-zone-test.false (c.loop-zone.invariant logs are)
