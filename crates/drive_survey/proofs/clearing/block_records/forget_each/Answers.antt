use Rattle.std.proofs.Common.{arith}
use Rattle.drive_survey.specs.BlockRecords.{forgets}
use Rattle.drive_survey.proofs.RecordTableLaws.{each-step}
use Rattle.drive_survey.proofs.clearing.block_records.forget_each.Goals as goal

pub loop-found-preserved : goal.loop-found-preserved
loop-found-preserved c = λ block sequence.
    each-step forgets block sequence c.loop-found.found-index _ c.args.own.now _ _ _ _ c.loop-found-test.true (omega arith) (c.forget_record.ensures block sequence) (c.loop-found.invariant block sequence)
