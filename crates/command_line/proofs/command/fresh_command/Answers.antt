use Rattle.std.proofs.lemmas.Result.{IfOk-weaker}
use Rattle.command_line.proofs.CommandLaws.{dressed, is_command, one_more, options_more}
use Rattle.command_line.proofs.command.fresh_command.Goals as goal

pub returns : goal.returns
returns c =
    let made = c.new.result in
    let m0 = dressed made c.about.result c.after_help-command.result _ c.new.ensures.app c.about.ensures c.after_help-command.ensures in
    let m1 = options_more made c.after_help-command.result c.in_ok-geometry_options.field-0 _ _ m0 c.in_ok-geometry_options.ensures in
    let m2 = one_more made c.in_ok-geometry_options.field-0 c.in_ok-arg.field-0 _ c.blocks_option.result _ m1 c.in_ok-arg.ensures c.blocks_option.ensures.rule c.blocks_option.ensures.local in
    let m3 = one_more made c.in_ok-arg.field-0 c.in_ok-arg-2.field-0 _ c.flag.result _ m2 c.in_ok-arg-2.ensures c.flag.ensures.rule c.flag.ensures.local in
    let m4 = one_more made c.in_ok-arg-2.field-0 c.in_ok-arg-3.field-0 _ c.flag-2.result _ m3 c.in_ok-arg-3.ensures c.flag-2.ensures.rule c.flag-2.ensures.local in
    let m5 = one_more made c.in_ok-arg-3.field-0 c.in_ok-command.command _ c.habit_option.result _ m4 c.in_ok-command.ensures c.habit_option.ensures.rule c.habit_option.ensures.local in
    IfOk-weaker c.stop_options.result _ _ (λ new adds.
    is_command made new _ c.new.ensures.local (options_more made c.in_ok-command.command new _ _ m5 adds)) c.stop_options.ensures
