use Rattle.passthrough.proofs.FlushLaws.{covers-none}
use Rattle.passthrough.proofs.flushing.due_stretch.Goals as goal

pub loop-i-init : goal.loop-i-init
loop-i-init c = covers-none _ _
