use Rattle.std.proofs.Common.{◌≡◌, ◌∙◌, drop, length, [], arith}
use Rattle.std.proofs.lemmas.List.{drop_all, length-map}
use Rattle.drive_array.specs.Records.{records}
use Rattle.yardsticks.specs.Zones.{logs_but, held_log, held_logs}
use Rattle.yardsticks.proofs.HeardLaws.{heard-newest, length-logs_but, zone-step}
use Rattle.yardsticks.proofs.array.newest.Goals as goal

pub loop-zone-preserved : goal.loop-zone-preserved
loop-zone-preserved c =
    let logs = logs_but c.args.left_out (held_logs c.args.logs.now) in
    let long : length logs ≡ length c.args.logs.now = length-logs_but c.args.left_out (held_logs c.args.logs.now) ∙ length-map c.args.logs.now (λ log. held_log log.items) in
    zone-step c.args.block c.loop-zone.zone logs _ _ _ _ (omega arith) c.log_but.ensures c.loop-zone.invariant c.heard_in_log-latest.ensures

pub returns : goal.returns
returns c =
    let logs = logs_but c.args.left_out (held_logs c.args.logs.now) in
    let long : length logs ≡ length c.args.logs.now = length-logs_but c.args.left_out (held_logs c.args.logs.now) ∙ length-map c.args.logs.now (λ log. held_log log.items) in
    let done : drop c.loop-zone.zone logs ≡ [] = drop_all c.loop-zone.zone logs (omega arith) in
    (rw done at c.loop-zone.invariant) ∙ heard-newest c.args.block (records 0 logs)
