use Rattle.std.proofs.Common.{◌∙◌, ap, set}
use Rattle.std.proofs.lemmas.List.{map-set}
use Rattle.yardsticks.specs.Zones.{held_log, held_logs}
use Rattle.yardsticks.proofs.spare.empty_zone.Goals as goal

pub returns : goal.returns
returns c =
    map-set (λ log. held_log log.items) c.args.logs.now.items c.args.zone c.clear.new.self ∙ ap (λ items. set (held_logs c.args.logs.now.items) c.args.zone (held_log items)) c.clear.ensures.items
