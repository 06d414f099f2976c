use Rattle.std.proofs.Common.{◌∙◌, ap, length, sym}
use Rattle.zone_choice.specs.Roles.{RolesView}
use Rattle.remount.proofs.MountedLaws.{mounted-agrees, roles-mounted}
use Rattle.remount.proofs.MountingLaws.{length-empties}
use Rattle.remount.proofs.NotedLaws.{fillings-noted, fillings-short}
use Rattle.remount.proofs.tables.mounted_tables.Goals as goal

pub begin-requires : goal.begin-requires
begin-requires c =
    ap (λ (r : RolesView). length r.empty) c.in_ok-roles.ensures.is ∙ length-empties _ _ ∙ sym c.in_ok-tables.ensures.zones

pub returns-clause-agrees : goal.returns-clause-agrees
returns-clause-agrees c drive same repaired below few =
    let mounts = rw c.deref.ensures.value at c.in_ok-roles.ensures in
    rw c.begin.ensures (mounted-agrees drive c.args.geometry.now c.args.survey.now.given c.args.next c.args.survey.now c.in_ok-tables.tables c.in_ok-roles.roles same repaired.known repaired below few (c.in_ok-tables.ensures.placed drive _ same repaired.known) mounts)

pub returns-clause-roles : goal.returns-clause-roles
returns-clause-roles c drive same repaired =
    let mounts = rw c.deref.ensures.value at c.in_ok-roles.ensures in
    rw c.begin.ensures (roles-mounted drive c.args.geometry.now c.args.survey.now.given c.args.survey.now c.in_ok-roles.roles same repaired.known repaired mounts)

pub returns-clause-noted : goal.returns-clause-noted
returns-clause-noted c =
    let mounts = rw c.deref.ensures.value at c.in_ok-roles.ensures in
    rw c.begin.ensures (fillings-noted c.args.survey.now.zones.items c.args.geometry.now.zones c.in_ok-roles.roles mounts)

pub returns-clause-sane : goal.returns-clause-sane
returns-clause-sane c short least =
    let mounts = rw c.deref.ensures.value at c.in_ok-roles.ensures in
    let empties = ap (λ (r : RolesView). length r.empty) c.in_ok-roles.ensures.is ∙ length-empties _ _ ∙ sym c.in_ok-tables.ensures.zones in
    rw c.begin.ensures (record { one_drive = empties; zones = c.in_ok-tables.ensures.zones; short = c.in_ok-tables.ensures.few; next = least; fillings_are = fillings-short c.args.survey.now.zones.items c.args.geometry.now c.in_ok-roles.roles mounts short; readable = c.in_ok-tables.ensures.readable })
