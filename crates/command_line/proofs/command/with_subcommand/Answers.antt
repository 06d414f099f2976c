use Rattle.std.proofs.lemmas.Result.{IfOk-weaker}
use Rattle.command_line.proofs.CommandLaws.{is_added}
use Rattle.command_line.proofs.command.with_subcommand.Goals as goal

pub returns : goal.returns
returns c = λ shape is.
    IfOk-weaker c.subcommand.result _ _ (λ new adds. is_added c.args.command c.in_ok-new.field-0 new shape adds (rw c.in_ok-new.was at is)) c.subcommand.ensures
