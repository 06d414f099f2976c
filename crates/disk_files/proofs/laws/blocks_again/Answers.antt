use Rattle.disk_files.proofs.ReplyLaws.{blocks_in-concat, length-concat}
use Rattle.disk_files.proofs.laws.blocks_again.Goals as goal

pub returns-clause-long : goal.returns-clause-long
returns-clause-long c = length-concat

pub returns-clause-blocks : goal.returns-clause-blocks
returns-clause-blocks c = blocks_in-concat
