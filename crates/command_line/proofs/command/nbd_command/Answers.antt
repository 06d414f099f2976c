use Rattle.std.proofs.lemmas.Result.{IfOk-weaker}
use Rattle.command_line.proofs.CommandLaws.{dressed, is_command, one_more, options_more}
use Rattle.command_line.proofs.command.nbd_command.Goals as goal

pub returns : goal.returns
returns c =
    let made = c.new.result in
    let m0 = dressed made c.about.result c.after_help.result _ c.new.ensures.app c.about.ensures c.after_help.ensures in
    let m1 = one_more made c.after_help.result c.in_ok-arg.field-0 _ c.image_option.result _ m0 c.in_ok-arg.ensures c.image_option.ensures.rule c.image_option.ensures.local in
    let m2 = one_more made c.in_ok-arg.field-0 c.in_ok-arg-2.field-0 _ c.device_option.result _ m1 c.in_ok-arg-2.ensures c.device_option.ensures.rule c.device_option.ensures.local in
    let m3 = one_more made c.in_ok-arg-2.field-0 c.in_ok-arg-3.field-0 _ c.blocks_if_fresh_option.result _ m2 c.in_ok-arg-3.ensures c.blocks_if_fresh_option.ensures.rule c.blocks_if_fresh_option.ensures.local in
    let m4 = one_more made c.in_ok-arg-3.field-0 c.in_ok-arg-4.field-0 _ c.flag.result _ m3 c.in_ok-arg-4.ensures c.flag.ensures.rule c.flag.ensures.local in
    let m5 = one_more made c.in_ok-arg-4.field-0 c.in_ok-arg-5.field-0 _ c.flag-2.result _ m4 c.in_ok-arg-5.ensures c.flag-2.ensures.rule c.flag-2.ensures.local in
    let m6 = one_more made c.in_ok-arg-5.field-0 c.in_ok-arg-6.field-0 _ c.flag-3.result _ m5 c.in_ok-arg-6.ensures c.flag-3.ensures.rule c.flag-3.ensures.local in
    let m7 = one_more made c.in_ok-arg-6.field-0 c.in_ok-command.command _ c.habit_option.result _ m6 c.in_ok-command.ensures c.habit_option.ensures.rule c.habit_option.ensures.local in
    let m8 = options_more made c.in_ok-command.command c.in_ok-command-2.command _ _ m7 c.in_ok-command-2.ensures in
    let m9 = options_more made c.in_ok-command-2.command c.in_ok-command-3.command _ _ m8 c.in_ok-command-3.ensures in
    IfOk-weaker c.fail_options.result _ _ (λ new adds.
    is_command made new _ c.new.ensures.local (options_more made c.in_ok-command-3.command new _ _ m9 adds)) c.fail_options.ensures
