use Rattle.std.proofs.Common.{◌∙◌, arith}
use Rattle.nvme_wire.proofs.NumberLaws.{little_from-part}
use Rattle.passthrough.proofs.number.u32_at.Goals as goal

pub returns : goal.returns
returns c = c.read_u32.ensures ∙ little_from-part c.args.at _ 4 c.args.page.now (omega arith)
