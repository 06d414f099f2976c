use Rattle.std.proofs.Common.{refl}
use Rattle.std.proofs.lemmas.Result.{IfOk-weaker}
use Rattle.command_line.proofs.CommandLaws.{options_more}
use Rattle.command_line.proofs.command.geometry_options.Goals as goal

pub returns : goal.returns
returns c =
    let old = c.args.command in
    let first = options_more old old c.in_ok-command.command _ _ (refl, refl) c.in_ok-command.ensures in
    IfOk-weaker c.limit_options.result _ _ (λ new adds.
    let last = options_more old c.in_ok-command.command new _ _ first adds in
    record { app = last.0; globals = last.1 }) c.limit_options.ensures
