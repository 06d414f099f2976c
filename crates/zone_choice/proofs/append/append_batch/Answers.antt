use Rattle.std.proofs.Common.{rules}
use Rattle.zone_choice.proofs.AloneLaws.{can-built}
use Rattle.zone_choice.proofs.SaneLaws.{after-sane, append-both, may-built, refused-before}
use Rattle.zone_choice.proofs.append.append_batch.Goals as goal

pub returns-in_err-close_beside-clause-leaves : goal.returns-in_err-close_beside-clause-leaves
returns-in_err-close_beside-clause-leaves g c = λ clean. refused-before _ _ c.args.zone _ c.in_err-close_beside.field-0.0 c.from_residual.result (search rules) (c.in_err-close_beside.ensures.leaves clean)

pub append_alone-requires-clause-may : goal.append_alone-requires-clause-may
append_alone-requires-clause-may g c = may-built _ _ c.args.zone c.args.batch.now c.close_beside.ensures.stays c.in_ok-close_beside.ensures.alone c.requires.may

pub append_alone-requires-clause-can : goal.append_alone-requires-clause-can
append_alone-requires-clause-can g c = λ clean. can-built _ _ c.args.zone c.args.batch.now (c.in_ok-close_beside.ensures.leaves clean) (c.requires.can (c.close_beside.ensures.stays.trusted clean))

pub returns-clause-leaves : goal.returns-clause-leaves
returns-clause-leaves g c = λ clean. append-both _ _ _ c.args.zone c.args.batch.now _ (c.in_ok-close_beside.ensures.leaves (c.append_alone.ensures.stays.trusted clean)) (c.append_alone.ensures.leaves clean)

pub returns-clause-sane : goal.returns-clause-sane
returns-clause-sane g c =
    let may = may-built _ _ c.args.zone c.args.batch.now c.close_beside.ensures.stays c.in_ok-close_beside.ensures.alone c.requires.may in
    after-sane _ _ c.args.zone _ _ c.append_alone.ensures.stays may c.append_alone.ensures.tables
