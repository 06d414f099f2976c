use Rattle.std.proofs.Common.{arith, sym}
use Rattle.batch_log.proofs.NumberLaws.{bytes-all}
use Rattle.batch_log.proofs.CauseLaws.{accepted, refused}
use Rattle.batch_log.proofs.view.read_header.Goals as goal

pub invariant_of-result : goal.invariant_of-result
invariant_of-result c = accepted c.args.block.now c.requires.room (bytes-all c.args.block.now (λ k. omega (arith, c.type_inv.block k))) (sym c.in-None.ensures)

pub returns-in-Some-clause-none : goal.returns-in-Some-clause-none
returns-in-Some-clause-none c = refused c.args.block.now c.in-Some.fault c.requires.small (sym c.in-Some.ensures)

pub returns-in-None-clause-ok : goal.returns-in-None-clause-ok
returns-in-None-clause-ok c = (accepted c.args.block.now c.requires.room (bytes-all c.args.block.now (λ k. omega (arith, c.type_inv.block k))) (sym c.in-None.ensures)).is
