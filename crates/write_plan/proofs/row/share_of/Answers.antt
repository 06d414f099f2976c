use Rattle.std.proofs.Common.{arith}
use Rattle.write_plan.proofs.RowLaws.{share_fits}
use Rattle.write_plan.proofs.row.share_of.Goals as goal

pub returns-clause-fits : goal.returns-clause-fits
returns-clause-fits c =
    rw c.max.ensures (share_fits c.args.geometry.now c.most_blocks.result c.from.result c.most_blocks.ensures.fits (omega arith))
