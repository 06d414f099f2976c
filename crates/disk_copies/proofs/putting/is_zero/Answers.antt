use Rattle.std.proofs.Common.{length, sym, take, ◌∙◌}
use Rattle.std.specs.Cmp.Lexicographic.{same_text}
use Rattle.disk_copies.proofs.Pieces.{zeros-from}
use Rattle.disk_copies.proofs.putting.is_zero.Goals as goal

pub returns-in-Some-eq0-default : goal.returns-in-Some-eq0-default
returns-in-Some-eq0-default c = λ e.
    let arm = c.in-Some-eq0-default in
    let block = c.args.block.now in
    zeros-from block arm.rest.now arm.field-0-0.now arm.ensures.cases.0 arm.field-0-0-test (same_text arm.rest.now (take (length arm.rest.now) block) (sym e ∙ c.eq.ensures))
