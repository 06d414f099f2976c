use Rattle.disk_runs.proofs.ReadLaws.{keeps_array}
use Rattle.disk_runs.proofs.laws.reads_keep_array.Goals as goal

pub returns : goal.returns
returns c = keeps_array
