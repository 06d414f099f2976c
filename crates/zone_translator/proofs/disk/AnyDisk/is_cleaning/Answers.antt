use Rattle.std.proofs.Common.{sym, ◌∙◌}
use Rattle.zone_translator.proofs.DiskLaws.{holds-agrees, none-spare}
use Rattle.zone_translator.proofs.disk.AnyDisk.is_cleaning.Goals as goal

pub returns-clause-spare : goal.returns-clause-spare
returns-clause-spare g c =
    rw (← c.self.view_is) (λ clean serves none. none-spare c.self.inside.mounted c.self.inside.cleaner (sym c.running.ensures ∙ none) (holds-agrees c.self.inside.mounted c.self.inside.cleaner c.self.inside.status serves (c.self.invariant.when clean)))
