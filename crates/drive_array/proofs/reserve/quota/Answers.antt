use Rattle.std.proofs.Common.{◌≡◌, ◌+◌, ◌-◌, ap, ◌∙◌, arith, ℕ}
use Rattle.std.specs.Int.{div_ceil}
use Rattle.drive_array.specs.Reserve.{batch_most}
use Rattle.drive_array.proofs.ReserveLaws.{quota-is}
use Rattle.drive_array.proofs.reserve.quota.Goals as goal

pub returns-clause-is : goal.returns-clause-is
returns-clause-is c =
    let most = batch_most c.args.geometry.now in
    let headers : c.div_ceil.result ≡ div_ceil (c.args.geometry.now.capacity - 2) (most + 1) = c.div_ceil.ensures ∙ ap (λ (n : ℕ). div_ceil (c.args.geometry.now.capacity - 2) (n + 1)) c.batch_most.ensures.most in
    omega (arith, headers, c.requires.capacity)

pub returns-clause-quota : goal.returns-clause-quota
returns-clause-quota c =
    let most = batch_most c.args.geometry.now in
    let headers : c.div_ceil.result ≡ div_ceil (c.args.geometry.now.capacity - 2) (most + 1) = c.div_ceil.ensures ∙ ap (λ (n : ℕ). div_ceil (c.args.geometry.now.capacity - 2) (n + 1)) c.batch_most.ensures.most in
    quota-is most c.args.geometry.now.capacity c.div_ceil.result _ (omega (arith, c.batch_most.ensures)) (omega arith) headers (omega (arith, c.requires.capacity))
