use Rattle.std.proofs.Common.{◌/◌, length, rules}
use Rattle.zone_states.proofs.Cutting.{length-cut}
use Rattle.zone_states.proofs.zone.Zone.blocks.Goals as goal

pub returns-clause-value : goal.returns-clause-value
returns-clause-value c =
    let bytes = c.args.self.now.bytes in
    let block = c.args.geometry.now.block in
    rw (length-cut block (length bytes / block) bytes) (search rules)
