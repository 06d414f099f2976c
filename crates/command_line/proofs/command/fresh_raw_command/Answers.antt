use Rattle.std.proofs.lemmas.Result.{IfOk-weaker}
use Rattle.command_line.proofs.CommandLaws.{dressed, is_command, one_more, options_more}
use Rattle.command_line.proofs.command.fresh_raw_command.Goals as goal

pub returns : goal.returns
returns c =
    let made = c.new.result in
    let m0 = dressed made c.about.result c.after_help-command.result _ c.new.ensures.app c.about.ensures c.after_help-command.ensures in
    let m1 = options_more made c.after_help-command.result c.in_ok-geometry_options.field-0 _ _ m0 c.in_ok-geometry_options.ensures in
    IfOk-weaker c.arg.result _ _ (λ new adds.
    is_command made new _ c.new.ensures.local (one_more made c.in_ok-geometry_options.field-0 new _ c.habit_option.result _ m1 adds c.habit_option.ensures.rule c.habit_option.ensures.local)) c.arg.ensures
