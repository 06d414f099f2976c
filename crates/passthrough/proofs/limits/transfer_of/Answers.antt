-- The least of the four limits is the most that a command may move.
use Rattle.std.proofs.Common.{◌≡◌, ◌≤◌, ◌<◌, ◌/◌, min, refl, ⊎_elim, arith}
use Rattle.passthrough.specs.Fields.{append_field, transfer_field}
use Rattle.passthrough.specs.Shape.{IsMemoryLimit}
use Rattle.passthrough.proofs.LimitLaws.{IsTransfer-least, two-le-transfer}
use Rattle.passthrough.proofs.limits.transfer_of.Goals as goal

pub returns-clause-ok : goal.returns-clause-ok
returns-clause-ok c =
    let pages = c.args.pages.now in
    let block = c.args.block in
    let limit = c.args.limit in
    let a = c.memory_limit.result in
    let b = c.memory_limit-2.result in
    let some : 0 < block = ⊎_elim (λ e. omega arith) (λ e. omega arith) c.requires.size in
    let small : block ≤ 4096 = ⊎_elim (λ e. omega arith) (λ e. omega arith) c.requires.size in
    let is_a : IsMemoryLimit (transfer_field pages) a = rw (← c.transfer_field.ensures) c.memory_limit.ensures in
    let is_b : IsMemoryLimit (append_field pages) b = rw (← c.append_field.ensures) c.memory_limit-2.ensures in
    let least : c.min-2.result ≡ min (min (min a b / block) (limit / block)) 256 =
    rw (c.min-2.ensures, c.min.ensures, c.min-drives.ensures, c.from-block.ensures) refl
    in
    let two : 2 ≤ limit / block = rw (← c.from-block.ensures) c.if-allowed-lt2.false in (
      IsTransfer-least pages limit block some small a b _ is_a is_b least,
      two-le-transfer pages limit block some small a b _ is_a is_b least two,
      omega arith,
    )
