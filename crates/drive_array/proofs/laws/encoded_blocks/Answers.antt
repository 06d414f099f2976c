use Rattle.drive_array.proofs.WholeLaws.{length-encoded, whole-encoded}
use Rattle.drive_array.proofs.laws.encoded_blocks.Goals as goal

pub returns-clause-count : goal.returns-clause-count
returns-clause-count c = length-encoded

pub returns-clause-whole : goal.returns-clause-whole
returns-clause-whole c = whole-encoded
