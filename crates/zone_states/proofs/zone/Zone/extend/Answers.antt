use Rattle.std.proofs.Common.{rules}
use Rattle.zone_states.proofs.Cutting.{written-after}
use Rattle.zone_states.proofs.zone.Zone.extend.Goals as goal

pub returns-then-blocks-geometry-clause-in_blocks : goal.returns-then-blocks-geometry-clause-in_blocks
returns-then-blocks-geometry-clause-in_blocks c = λ whole whole_bytes. written-after c.args.geometry.now c.args.self.now c.args.bytes.now _ (search rules) whole whole_bytes

pub returns-else-blocks-geometry-clause-in_blocks : goal.returns-else-blocks-geometry-clause-in_blocks
returns-else-blocks-geometry-clause-in_blocks c = λ whole whole_bytes. written-after c.args.geometry.now c.args.self.now c.args.bytes.now _ (search rules) whole whole_bytes
