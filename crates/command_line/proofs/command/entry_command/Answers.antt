use Rattle.std.proofs.lemmas.Result.{IfOk-weaker}
use Rattle.command_line.proofs.CommandLaws.{dressed, is_command, one_more, options_more}
use Rattle.command_line.proofs.command.entry_command.Goals as goal

pub returns : goal.returns
returns c =
    let made = c.new.result in
    let m0 = dressed made c.about.result c.after_help.result _ c.new.ensures.app c.about.ensures c.after_help.ensures in
    let m1 = one_more made c.after_help.result c.in_ok-command.command _ c.command_argument.result _ m0 c.in_ok-command.ensures c.command_argument.ensures.rule c.command_argument.ensures.local in
    let m2 = options_more made c.in_ok-command.command c.in_ok-entry_numbers.field-0 _ _ m1 c.in_ok-entry_numbers.ensures in
    let m3 = one_more made c.in_ok-entry_numbers.field-0 c.in_ok-arg.field-0 _ c.flag.result _ m2 c.in_ok-arg.ensures c.flag.ensures.rule c.flag.ensures.local in
    let m4 = one_more made c.in_ok-arg.field-0 c.in_ok-arg-2.field-0 _ c.flag-2.result _ m3 c.in_ok-arg-2.ensures c.flag-2.ensures.rule c.flag-2.ensures.local in
    let m5 = one_more made c.in_ok-arg-2.field-0 c.in_ok-arg-3.field-0 _ c.text_option.result _ m4 c.in_ok-arg-3.ensures c.text_option.ensures.rule c.text_option.ensures.local in
    IfOk-weaker c.arg-5.result _ _ (λ new adds.
    is_command made new _ c.new.ensures.local (one_more made c.in_ok-arg-3.field-0 new _ c.text_option-2.result _ m5 adds c.text_option-2.ensures.rule c.text_option-2.ensures.local)) c.arg-5.ensures
