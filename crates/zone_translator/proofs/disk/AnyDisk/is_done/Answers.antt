use Rattle.std.proofs.Common.{◌≡◌, ◌<◌, ◌+◌, sym, arith}
use Rattle.zone_translator.specs.View.{disk_size}
use Rattle.zone_translator.proofs.CallLaws.{known-past}
use Rattle.zone_translator.proofs.DiskLaws.{holds-agrees, length-array}
use Rattle.zone_translator.proofs.disk.AnyDisk.is_done.Goals.{then-blocks-size-via-then-blocks-size, then-blocks-size-via-else-blocks-size+then-first-size}
use Rattle.zone_translator.proofs.disk.AnyDisk.is_done.Goals as goal

pub returns-then-blocks-size-clause-known : goal.returns-then-blocks-size-clause-known
returns-then-blocks-size-clause-known g c =
    let size : disk_size c.args.self.now ≡ c.mounted_blocks-size.result = rw (← c.self.view_is) (sym c.mounted_blocks-size.ensures) in
    known-past c.args.self.now c.args.first c.args.blocks (omega arith)
    (elim c.then-blocks-size.branch as (λ _. disk_size c.args.self.now < c.args.first + c.args.blocks) [
      | then-blocks-size-via-then-blocks-size w ↦ omega (arith, size)
      | then-blocks-size-via-else-blocks-size+then-first-size w ↦ omega (arith, size)
    ])

pub returns-clause-long : goal.returns-clause-long
returns-clause-long g c =
    rw (← c.self.view_is)
    (λ clean e. length-array c.self.inside.mounted c.self.inside.cleaner (holds-agrees c.self.inside.mounted c.self.inside.cleaner c.self.inside.status (rw (← c.self.view_is) at c.in_ok-check_serving.ensures.serving) (c.self.invariant.when clean)))
