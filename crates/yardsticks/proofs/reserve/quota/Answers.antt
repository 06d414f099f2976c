use Rattle.std.proofs.Common.{◌<◌, arith}
use Rattle.drive_array.specs.Reserve.{batch_most}
use Rattle.drive_array.proofs.ReserveLaws.{fill-quota}
use Rattle.yardsticks.proofs.reserve.quota.Goals as goal

pub returns : goal.returns
returns c =
    let most = batch_most c.args.geometry.now in
    let positive : 0 < most = omega (arith, c.requires.block, c.requires.transfer) in
    let more = c.loop-records-test.false in
    record {
      fits = c.loop-records.invariant;
      greatest = λ records h. fill-quota most c.args.geometry.now.capacity c.loop-records.records records positive c.loop-records.invariant (omega (arith, more, c.fill.ensures)) h;
    }
