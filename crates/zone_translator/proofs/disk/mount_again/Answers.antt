use Rattle.std.proofs.Common.{subst}
use Rattle.remount.specs.Mount.{MountFails}
use Rattle.drive_survey.specs.Scan.{FailsBy}
use Rattle.zone_choice.specs.Agreement.{MountedView}
use Rattle.zone_translator.proofs.MountLaws.{mounted-sane}
use Rattle.zone_cleaner.proofs.SaneLaws.{sane-same}
use Rattle.zone_translator.proofs.disk.mount_again.Goals as goal

pub returns-in-Err-clause-err : goal.returns-in-Err-clause-err
returns-in-Err-clause-err g c = λ clean.
    subst (λ (disk : MountedView). FailsBy (MountFails disk.drive disk.tables.given) (g.D.Device.drive c.mount.new.device) c.in-Err.fault) c.disk.view_is (rw c.given.ensures at (c.in-Err.ensures.err clean))

pub returns-in-Ok-clause-sane : goal.returns-in-Ok-clause-sane
returns-in-Ok-clause-sane g c = mounted-sane (g.D.Device.drive c.disk.inside.device) (g.D.Device.drive c.mount.new.device) c.in-Ok.tables c.given.result c.mount.ensures.stays c.in-Ok.ensures.asked c.in-Ok.ensures.sane

pub returns-in-Err-clause-sane : goal.returns-in-Err-clause-sane
returns-in-Err-clause-sane g c = sane-same (g.D.Device.drive c.disk.inside.device) (g.D.Device.drive c.mount.new.device) c.disk.inside.tables (record { geometry = c.mount.ensures.stays.geometry; trusted = c.mount.ensures.stays.trusted; unfailing = c.mount.ensures.stays.unfailing }) (rw (← c.disk.view_is) at c.requires)

pub returns-in-Ok-clause-shape : goal.returns-in-Ok-clause-shape
returns-in-Ok-clause-shape g c = rw (← c.disk.view_is) (record { geometry = c.mount.ensures.stays.geometry; trusted = c.mount.ensures.stays.trusted; unfailing = c.mount.ensures.stays.unfailing })

pub returns-in-Err-clause-shape : goal.returns-in-Err-clause-shape
returns-in-Err-clause-shape g c = rw (← c.disk.view_is) (record { geometry = c.mount.ensures.stays.geometry; trusted = c.mount.ensures.stays.trusted; unfailing = c.mount.ensures.stays.unfailing })

pub returns-in-Ok-clause-ok : goal.returns-in-Ok-clause-ok
returns-in-Ok-clause-ok g c = λ clean. rw (← c.disk.view_is, ← c.given.ensures) (c.in-Ok.ensures.ok clean)

pub returns-in-Ok-clause-kept : goal.returns-in-Ok-clause-kept
returns-in-Ok-clause-kept g c = λ clean. rw (← c.disk.view_is, ← c.given.ensures) (c.mount.ensures.kept clean)

pub returns-in-Err-clause-kept : goal.returns-in-Err-clause-kept
returns-in-Err-clause-kept g c = λ clean. rw (← c.disk.view_is, ← c.given.ensures) (c.mount.ensures.kept clean)
