use Rattle.std.proofs.lemmas.Result.{IfOk-weaker}
use Rattle.command_line.proofs.CommandLaws.{dressed, is_command, one_more}
use Rattle.command_line.proofs.command.rescue_command.Goals as goal

pub returns : goal.returns
returns c =
    let made = c.new.result in
    let m0 = dressed made c.about.result c.after_help.result _ c.new.ensures.app c.about.ensures c.after_help.ensures in
    let m1 = one_more made c.after_help.result c.in_ok-arg.field-0 _ c.image_option.result _ m0 c.in_ok-arg.ensures c.image_option.ensures.rule c.image_option.ensures.local in
    let m2 = one_more made c.in_ok-arg.field-0 c.in_ok-arg-2.field-0 _ c.device_option.result _ m1 c.in_ok-arg-2.ensures c.device_option.ensures.rule c.device_option.ensures.local in
    let m3 = one_more made c.in_ok-arg-2.field-0 c.in_ok-arg-3.field-0 _ c.count_option.result _ m2 c.in_ok-arg-3.ensures c.count_option.ensures.rule c.count_option.ensures.local in
    let m4 = one_more made c.in_ok-arg-3.field-0 c.in_ok-arg-4.field-0 _ c.path_option.result _ m3 c.in_ok-arg-4.ensures c.path_option.ensures.rule c.path_option.ensures.local in
    let m5 = one_more made c.in_ok-arg-4.field-0 c.in_ok-arg-5.field-0 _ c.path_option-2.result _ m4 c.in_ok-arg-5.ensures c.path_option-2.ensures.rule c.path_option-2.ensures.local in
    IfOk-weaker c.arg-6.result _ _ (λ new adds.
    is_command made new _ c.new.ensures.local (one_more made c.in_ok-arg-5.field-0 new _ c.flag.result _ m5 adds c.flag.ensures.rule c.flag.ensures.local)) c.arg-6.ensures
