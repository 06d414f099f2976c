use Rattle.std.proofs.Common.{◌*◌, arith}
use Rattle.std.proofs.lemmas.List.{take_rest}
use Rattle.zone_drive.proofs.GroupLaws.{found-group, group-within, lowest-found, lowest-no_group, lowest-none, no-group}
use Rattle.zone_drive.proofs.resources.Resources.lowest_implicit.Goals as goal

pub returns-in_default : goal.returns-in_default
returns-in_default g c = lowest-no_group _ c.args.zones.now c.args.self.now.implicit c.requires (no-group c.args.self.now.implicit c.requires.groups c.in_default.ensures)

pub slice_bounds-first_implicit-count : goal.slice_bounds-first_implicit-count
slice_bounds-first_implicit-count g c =
    let first = found-group c.args.self.now.implicit c.in-Some.group c.requires.groups c.in-Some.ensures in
    let within = group-within _ c.args.zones.now c.args.self.now.implicit c.in-Some.group c.requires first.in_range first.some in
    omega (arith, within)

pub offset_bounds-zones-start : goal.offset_bounds-zones-start
offset_bounds-zones-start g c =
    let first = found-group c.args.self.now.implicit c.in-Some.group c.requires.groups c.in-Some.ensures in
    let within = group-within _ c.args.zones.now c.args.self.now.implicit c.in-Some.group c.requires first.in_range first.some in
    omega (arith, within)

pub slice_bounds-first_implicit-start : goal.slice_bounds-first_implicit-start
slice_bounds-first_implicit-start g c =
    let first = found-group c.args.self.now.implicit c.in-Some.group c.requires.groups c.in-Some.ensures in
    let within = group-within _ c.args.zones.now c.args.self.now.implicit c.in-Some.group c.requires first.in_range first.some in
    omega (arith, within)

pub returns-in_default-first_implicit : goal.returns-in_default-first_implicit
returns-in_default-first_implicit g c =
    let first = found-group c.args.self.now.implicit c.in-Some.group c.requires.groups c.in-Some.ensures in
    lowest-none _ c.args.zones.now c.args.self.now.implicit c.in-Some.group c.requires first.in_range first.zeros
    (rw (take_rest c.args.zones.now (256 * c.in-Some.group)) at c.in_default-first_implicit.ensures)

pub returns : goal.returns
returns g c =
    let first = found-group c.args.self.now.implicit c.in-Some.group c.requires.groups c.in-Some.ensures in
    lowest-found _ c.args.zones.now c.args.self.now.implicit c.in-Some.group c.in-Some-first_implicit.within c.requires first.in_range first.zeros
    (rw (take_rest c.args.zones.now (256 * c.in-Some.group)) at c.in-Some-first_implicit.ensures)
