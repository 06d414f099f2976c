use Rattle.std.proofs.Common.{List, ap, ◌∙◌}
use Rattle.batch_log.specs.Log.{Batch}
use Rattle.drive_array.specs.Sizes.{array_of}
use Rattle.yardsticks.specs.Zones.{held_logs}
use Rattle.drive_array.specs.ZoneLogs.{encoded_array}
use Rattle.yardsticks.proofs.array.encoded_array.Goals as goal

pub returns-clause-some : goal.returns-clause-some
unfolding encoded_array
returns-clause-some c =
    let are = rw c.in-Some.is at c.in_ok-drive.ensures.some in
    c.in_ok-array.ensures ∙ ap (λ (logs : List (List Batch)). array_of c.args.geometry.now.block c.args.n logs) (ap held_logs c.deref.ensures.value ∙ are.logs_are)
