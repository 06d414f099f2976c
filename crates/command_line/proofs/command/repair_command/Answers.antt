use Rattle.std.proofs.lemmas.Result.{IfOk-weaker}
use Rattle.command_line.proofs.CommandLaws.{dressed, is_command, one_more}
use Rattle.command_line.proofs.command.repair_command.Goals as goal

pub returns : goal.returns
returns c =
    let made = c.new.result in
    let m0 = dressed made c.about.result c.after_help.result _ c.new.ensures.app c.about.ensures c.after_help.ensures in
    let m1 = one_more made c.after_help.result c.in_ok-arg.field-0 _ c.image_option.result _ m0 c.in_ok-arg.ensures c.image_option.ensures.rule c.image_option.ensures.local in
    let m2 = one_more made c.in_ok-arg.field-0 c.in_ok-arg-2.field-0 _ c.device_option.result _ m1 c.in_ok-arg-2.ensures c.device_option.ensures.rule c.device_option.ensures.local in
    IfOk-weaker c.arg-3.result _ _ (λ new adds.
    is_command made new _ c.new.ensures.local (one_more made c.in_ok-arg-2.field-0 new _ c.flag.result _ m2 adds c.flag.ensures.rule c.flag.ensures.local)) c.arg-3.ensures
