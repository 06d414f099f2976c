use Rattle.drive_array.proofs.ReserveLaws.{most-fits, positive-most}
use Rattle.drive_array.proofs.reserve.most_blocks.Goals as goal

pub returns-clause-fits : goal.returns-clause-fits
returns-clause-fits c =
    let range = c.requires in
    most-fits c.args.geometry.now c.quota.result c.min.result (positive-most c.args.geometry.now range) range.capacity.0 range.zones.0 c.quota.ensures.quota c.min.ensures
