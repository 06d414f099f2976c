use Rattle.std.proofs.Common.{arith}
use Rattle.drive_survey.proofs.RecordHoldLaws.{holds-all, holds-step}
use Rattle.drive_survey.proofs.clearing.block_records.hold_blocks.Goals as goal

pub loop-found-preserved : goal.loop-found-preserved
loop-found-preserved c = (
  holds-step c.args.table.now c.loop-found.table (record { blocks = c.insert.new.self; own = c.loop-found.table.own }) c.new-none.result c.args.own.now _ c.loop-found.found-index _ c.new-none.ensures.empty c.loop-found-test.true (omega arith) c.in_ok-insert.ensures.updates.0 c.loop-found.invariant.0,
  c.loop-found.invariant.1,
)

pub returns-clause-holds : goal.returns-clause-holds
returns-clause-holds c = holds-all c.args.table.now c.loop-found.table c.args.own.now c.loop-found.found-index c.loop-found-test.false c.loop-found.invariant.0
