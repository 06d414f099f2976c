use Rattle.std.proofs.Common.{◌^◌}
use Rattle.std.proofs.lemmas.Result.{IfOk-weaker}
use Rattle.yardsticks.specs.Zones.{held_logs}
use Rattle.yardsticks.proofs.RepairLaws.{one-torn}
use Rattle.yardsticks.proofs.repair.can_repair.Goals as goal

pub returns : goal.returns
returns c =
    let found = c.in-Some.ensures.some in
    let above = c.in-None.ensures.none in
    IfOk-weaker c.fits.result _ _ (λ b fits. (
      λ e. one-torn c.args.geometry.now (2 ^ 63) c.args.size c.in-Some.zone (held_logs c.args.logs.now) c.args.tails.now found.none_before above (fits.0 e),
      λ can. fits.1 (can.fits c.in-Some.zone found.torn),
    )) c.fits.ensures
