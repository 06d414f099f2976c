use Rattle.std.proofs.Common.{◌≡◌, ◌∙◌, drop, length, [], sym, ap, arith}
use Rattle.std.proofs.lemmas.List.{drop_all, length-map}
use Rattle.drive_array.specs.Sizes.{larger}
use Rattle.drive_array.proofs.SizeLaws.{larger-none}
use Rattle.yardsticks.specs.Zones.{logs_but, held_log, held_logs}
use Rattle.yardsticks.proofs.GreatestLaws.{greatest-step}
use Rattle.yardsticks.proofs.HeardLaws.{length-logs_but}
use Rattle.yardsticks.proofs.sizes.greatest.Goals as goal

pub loop-zone-preserved : goal.loop-zone-preserved
loop-zone-preserved c =
    let logs = logs_but c.args.left_out (held_logs c.args.logs.now) in
    let long : length logs ≡ length c.args.logs.now = length-logs_but c.args.left_out (held_logs c.args.logs.now) ∙ length-map c.args.logs.now (λ log. held_log log.items) in
    greatest-step c.loop-zone.zone logs _ _ _ _ (omega arith) c.log_but.ensures c.loop-zone.invariant (c.larger-found.ensures ∙ ap (larger c.loop-zone.found) c.log_greatest.ensures)

pub returns : goal.returns
returns c =
    let logs = logs_but c.args.left_out (held_logs c.args.logs.now) in
    let long : length logs ≡ length c.args.logs.now = length-logs_but c.args.left_out (held_logs c.args.logs.now) ∙ length-map c.args.logs.now (λ log. held_log log.items) in
    let done : drop c.loop-zone.zone logs ≡ [] = drop_all c.loop-zone.zone logs (omega arith) in
    sym (larger-none c.loop-zone.found) ∙ (rw done at c.loop-zone.invariant)
