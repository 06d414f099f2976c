use Rattle.std.proofs.Common.{arith}
use Rattle.drive_array.proofs.NewestLaws.{newest-append_log}
use Rattle.drive_array.proofs.laws.append_first.Goals as goal

pub returns : goal.returns
returns c = λ block zone logs batch. newest-append_log block 0 logs zone zone batch (omega arith)
