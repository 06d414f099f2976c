use Rattle.std.proofs.lemmas.Result.{IfOk-weaker}
use Rattle.command_line.proofs.CommandLaws.{dressed, is_command, one_more}
use Rattle.command_line.proofs.command.convert_command.Goals as goal

pub returns : goal.returns
returns c =
    let made = c.new.result in
    let m0 = dressed made c.about.result c.after_help.result _ c.new.ensures.app c.about.ensures c.after_help.ensures in
    let m1 = one_more made c.after_help.result c.in_ok-arg.field-0 _ c.needed_path.result _ m0 c.in_ok-arg.ensures c.needed_path.ensures.rule c.needed_path.ensures.local in
    IfOk-weaker c.arg-2.result _ _ (λ new adds.
    is_command made new _ c.new.ensures.local (one_more made c.in_ok-arg.field-0 new _ c.needed_path-2.result _ m1 adds c.needed_path-2.ensures.rule c.needed_path-2.ensures.local)) c.arg-2.ensures
