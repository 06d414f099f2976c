use Rattle.zone_translator.proofs.DiskLaws.{holds-agrees, length-array}
use Rattle.zone_translator.proofs.disk.AnyDisk.blocks.Goals as goal

pub returns-clause-array : goal.returns-clause-array
returns-clause-array g c =
    rw (← c.self.view_is) (λ clean serves. length-array c.self.inside.mounted c.self.inside.cleaner (holds-agrees c.self.inside.mounted c.self.inside.cleaner c.self.inside.status serves (c.self.invariant.when clean)))

pub returns-clause-few : goal.returns-clause-few
returns-clause-few g c = rw c.mounted_blocks.ensures c.self.invariant.sane.short
