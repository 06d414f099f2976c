use Rattle.zone_drive.proofs.GroupLaws.{grouped-none}
use Rattle.zone_drive.proofs.resources.implicit_counts.Goals as goal

pub loop-index-init : goal.loop-index-init
loop-index-init g c = grouped-none _
