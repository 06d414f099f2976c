use Rattle.drive_array.proofs.SizeLaws.{append_keeps_spare, append_writes, next_is_last}
use Rattle.drive_array.proofs.laws.append_writes.Goals as goal

pub returns-clause-writes : goal.returns-clause-writes
returns-clause-writes c = append_writes

pub returns-clause-next : goal.returns-clause-next
returns-clause-next c = next_is_last

pub returns-clause-spare : goal.returns-clause-spare
returns-clause-spare c = append_keeps_spare
