use Rattle.std.proofs.Common.{None}
use Rattle.zone_choice.specs.Agreement.{mounted}
use Rattle.zone_translator.proofs.DiskLaws.{holds-serving}
use Rattle.zone_translator.proofs.MountLaws.{is-mounted, mounted-fits, mounted-sane, mounted-serves}
use Rattle.zone_translator.proofs.disk.AnyDisk.mount.Goals as goal

pub invariant_of-result : goal.invariant_of-result
invariant_of-result g c =
    let drive = g.D.Device.drive c.mount.new.device in
    let tables = c.in-Ok.tables in
    rw (c.new-in-Ok.ensures, c.new.ensures) (record {
      sane = mounted-sane (g.D.Device.drive c.args.device) drive tables c.args.blocks c.mount.ensures.stays c.in-Ok.ensures.asked c.in-Ok.ensures.sane;
      when = λ clean. holds-serving (mounted drive tables) None (mounted-fits (g.D.Device.drive c.args.device) drive c.args.blocks tables (c.mount.ensures.kept clean).geometry (c.in-Ok.ensures.ok clean)) (mounted-serves _ _ c.args.blocks tables (c.in-Ok.ensures.ok clean));
    })

pub returns-in-Ok-clause-disk : goal.returns-in-Ok-clause-disk
returns-in-Ok-clause-disk g c =
    rw (c.new-in-Ok.ensures, c.new.ensures) (λ clean. is-mounted (g.D.Device.drive c.args.device) (g.D.Device.drive c.mount.new.device) c.args.blocks c.in-Ok.tables (c.mount.ensures.kept clean) (c.in-Ok.ensures.ok clean))

pub returns-in-Ok-clause-shape : goal.returns-in-Ok-clause-shape
returns-in-Ok-clause-shape g c = rw c.new.ensures (record { geometry = c.mount.ensures.stays.geometry; trusted = c.mount.ensures.stays.trusted; unfailing = c.mount.ensures.stays.unfailing })

pub returns-in-Err-clause-back : goal.returns-in-Err-clause-back
returns-in-Err-clause-back g c = record { geometry = c.mount.ensures.stays.geometry; trusted = c.mount.ensures.stays.trusted; unfailing = c.mount.ensures.stays.unfailing }

pub returns-in-Err-clause-err : goal.returns-in-Err-clause-err
returns-in-Err-clause-err g c clean = record {
  why = c.in-Err.ensures.err clean;
  refused = c.in-Err.ensures.refused clean;
  early = c.in-Err.ensures.early clean;
  kept = c.mount.ensures.kept clean;
}
