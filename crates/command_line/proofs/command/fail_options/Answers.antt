use Rattle.std.proofs.Common.{refl}
use Rattle.std.proofs.lemmas.Result.{IfOk-weaker}
use Rattle.command_line.proofs.CommandLaws.{one_more}
use Rattle.command_line.proofs.command.fail_options.Goals as goal

pub returns : goal.returns
returns c =
    let old = c.args.command in
    let first = one_more old old c.in_ok-arg.field-0 _ c.count_option.result _ (refl, refl) c.in_ok-arg.ensures c.count_option.ensures.rule c.count_option.ensures.local in
    IfOk-weaker c.arg-2.result _ _ (λ new adds.
    let last = one_more old c.in_ok-arg.field-0 new _ c.percent_option.result _ first adds c.percent_option.ensures.rule c.percent_option.ensures.local in
    record { app = last.0; globals = last.1 }) c.arg-2.ensures
