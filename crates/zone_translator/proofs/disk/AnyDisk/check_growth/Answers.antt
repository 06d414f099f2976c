use Rattle.std.proofs.Common.{◌≡◌, arith}
use Rattle.zone_translator.specs.declared.status.DiskStatus.TheVariants.{Serving}
use Rattle.drive_array.specs.Reserve.{FitsReserve}
use Rattle.zone_translator.proofs.DiskLaws.{growth-fits, holds-agrees, on-ok}
use Rattle.zone_translator.proofs.disk.AnyDisk.check_growth.Goals as goal

pub returns-clause-reserve : goal.returns-clause-reserve
returns-clause-reserve g c =
    rw (← c.self.view_is)
    (λ clean. on-ok c.check_serving.result (c.self.inside.status ≡ Serving) (FitsReserve c.self.inside.mounted.drive.geometry c.args.blocks)
    (λ serves. growth-fits c.self.inside.mounted c.self.inside.cleaner c.args.blocks c.most_blocks.result (holds-agrees c.self.inside.mounted c.self.inside.cleaner c.self.inside.status serves (c.self.invariant.when clean)) (rw c.geometry.ensures at c.most_blocks.ensures.fits)
    (omega (arith, c.mounted_blocks.ensures, c.if-blocks-mounted_blocks.false)) (omega (arith, c.if-blocks-most_blocks.false))) (rw (← c.self.view_is) at c.check_serving.ensures.serving))
