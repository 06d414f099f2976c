use Rattle.std.proofs.Common.{sym}
use Rattle.drive_survey.proofs.RecordNewestLaws.{outside-newest}
use Rattle.drive_survey.proofs.clearing.block_records.BlockRecords.newest_outside.Goals as goal

pub returns : goal.returns
returns c = λ logs holds some.
    outside-newest logs c.args.self.now c.args.block c.args.zone c.in_ok-held.held.now c.last_outside.result (sym c.in_ok-held.ensures.value) c.last_outside.ensures.ordered c.last_outside.ensures.last holds
