use Rattle.drive_inspection.proofs.CountLaws.{live-below-none}
use Rattle.drive_inspection.proofs.counting.all_live.Goals as goal

pub loop-block-init : goal.loop-block-init
loop-block-init c = live-below-none c.args.tables.now.map.places
