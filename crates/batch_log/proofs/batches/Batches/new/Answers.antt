use Rattle.std.proofs.Common.{arith}
use Rattle.batch_log.proofs.ReadingLaws.{all_read}
use Rattle.batch_log.proofs.batches.Batches.new.Goals as goal

pub returns : goal.returns
returns c = λ blocks all e. all_read c.args.block_bytes c.args.is_full c.args.bytes.now blocks c.requires.room (omega arith) all e
