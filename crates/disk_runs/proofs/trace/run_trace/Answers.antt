use Rattle.disk_runs.specs.Run.{exchange}
use Rattle.disk_runs.specs.declared.taking.Taking.TheVariants.{All}
use Rattle.disk_runs.proofs.TraceLaws.{led, led_gives, led_leaves}
use Rattle.disk_runs.proofs.trace.run_trace.Goals as goal

pub returns-clause-gives : goal.returns-clause-gives
returns-clause-gives g c =
    let made = c.in-Ok.ensures in
    let bytes = exchange c.args.reader.now.left (g.W.Write.contents c.args.writer.now) (g.W.Write.contents c.answer_trace-disk.new.writer) in
    rw c.into_device.ensures
    (led_gives All c.args.blocks bytes (g.D.Device.drive c.args.device) c.answer_trace-disk.result.1 _
    (led All c.args.blocks bytes (g.D.Device.drive c.args.device) c.in-Ok.disk c.answer_trace-disk.result.0 c.answer_trace-disk.result.1 made.disk.mounts made.disk.kept made.disk.mountable c.answer_trace-disk.ensures))

pub returns-clause-leaves : goal.returns-clause-leaves
returns-clause-leaves g c =
    let made = c.in-Ok.ensures in
    let bytes = exchange c.args.reader.now.left (g.W.Write.contents c.args.writer.now) (g.W.Write.contents c.answer_trace-disk.new.writer) in
    rw c.into_device.ensures
    (led_leaves All c.args.blocks bytes (g.D.Device.drive c.args.device) c.answer_trace-disk.result.1 _
    (led All c.args.blocks bytes (g.D.Device.drive c.args.device) c.in-Ok.disk c.answer_trace-disk.result.0 c.answer_trace-disk.result.1 made.disk.mounts made.disk.kept made.disk.mountable c.answer_trace-disk.ensures))
