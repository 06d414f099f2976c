use Rattle.disk_files.proofs.ReplyLaws.{same_byte-shifted}
use Rattle.disk_files.proofs.reply.same_byte.Goals as goal

pub returns-then-eq : goal.returns-then-eq
returns-then-eq c = same_byte-shifted c.args.block.now c.in_ok-first.first.now c.in_ok-first.rest.now _ c.in_ok-first.ensures.cases.0 c.if-eq.ensures

pub returns-else-eq : goal.returns-else-eq
returns-else-eq c = same_byte-shifted c.args.block.now c.in_ok-first.first.now c.in_ok-first.rest.now _ c.in_ok-first.ensures.cases.0 c.if-eq.ensures
