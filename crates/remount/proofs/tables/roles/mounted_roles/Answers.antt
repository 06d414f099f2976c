use Rattle.std.proofs.Common.{Bool, List, sym, ap, subst, length, arith}
use Rattle.zone_choice.specs.Roles.{AreApart, mounted_as}
use Rattle.remount.proofs.MountingLaws.{apart-mounted, length-empties}
use Rattle.remount.proofs.tables.roles.mounted_roles.Goals as goal

pub mounted-requires-clause-few : goal.mounted-requires-clause-few
mounted-requires-clause-few c = omega (arith, ap length c.in_ok-empty.ensures, length-empties c.args.reported.now c.args.zones, c.ranges.zones.fits)

pub mounted-requires-clause-apart : goal.mounted-requires-clause-apart
mounted-requires-clause-apart c =
    subst (λ (marks : List Bool). AreApart (mounted_as marks c.partly_from-host.result c.partly_after-next.result)) (sym c.in_ok-empty.ensures)
    (apart-mounted c.args.reported.now c.args.zones c.partly_from-host.result c.partly_after-next.result c.partly_from-host.ensures c.partly_after-next.ensures)
