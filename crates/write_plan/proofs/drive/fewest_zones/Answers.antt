use Rattle.std.proofs.Common.{◌≡◌, ℕ, ◌+◌, ◌*◌, ◌^◌, min, max, arith, ap, ◌∙◌}
use Rattle.drive_array.specs.Reserve.{most_size, quota_of}
use Rattle.zone_states.specs.declared.geometry.Geometry.{Geometry}
use Rattle.write_plan.specs.Drives.{planned_drive}
use Rattle.write_plan.proofs.DriveLaws.{below-zone, has-quota, is-fewest}
use Rattle.write_plan.proofs.drive.fewest_zones.Goals as goal

pub returns : goal.returns
returns c =
    let capacity = c.args.capacity in
    let some = has-quota capacity c.requires.capacity.0 in
    let below = below-zone capacity c.requires.capacity.0 in
    let is : c.most_blocks-two_zones.result ≡ min (quota_of (planned_drive 3 capacity) * 2) (2 ^ 31) = c.most_blocks-two_zones.ensures.is ∙ ap (λ (g : Geometry). most_size g) c.planned_drive.ensures in
    is-fewest c.args.blocks capacity c.most_blocks-two_zones.result c.max.result c.requires.blocks some (omega (arith, is, below, c.requires.capacity.1)) (c.max.ensures ∙ ap (λ (d : ℕ). max (d + 1) 8) c.div_ceil-needed.ensures)
