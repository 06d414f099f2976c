use Rattle.std.proofs.Common.{◌≡◌, ℕ, ◌∷◌, [], ◌<◌, ◌≤◌, ◌^◌, List, get_or, arith}
use Rattle.std.proofs.lemmas.List.{get_or_append_left}
use Rattle.std.specs.Int.{div_ceil}
use Rattle.write_plan.specs.Drives.{largest_zone, zone_sizes}
use Rattle.write_plan.proofs.DriveLaws.{is-drive-for, largest-few, none-more}
use Rattle.write_plan.proofs.drive.drive_for.Goals as goal

-- the sizes that are tried are all but the largest
tried : List ℕ
tried = 256 ∷ 1024 ∷ 4096 ∷ 16384 ∷ 65536 ∷ 262144 ∷ []

is-tried : (k : ℕ) → k < 6 → get_or zone_sizes k 0 ≡ get_or tried k 0
unfolding tried
is-tried k lt = get_or_append_left tried (largest_zone ∷ []) 0 k lt

pub returns-then-zones-le-MOST_ZONES-clause-some : goal.returns-then-zones-le-MOST_ZONES-clause-some
unfolding tried
returns-then-zones-le-MOST_ZONES-clause-some c =
    let k = c.loop-capacity.capacity-index in
    let lt : k < 6 = c.loop-capacity-test.true in
    let zones = c.fewest_zones-zones.result in
    let here = rw (← is-tried k lt) at (rw c.div_ceil-blocks.ensures at c.fewest_zones-zones.ensures) in
    let is = is-drive-for c.args.bytes k zones (omega arith) (omega arith) (λ less. c.if-zones-le-MOST_ZONES.true) (rw c.div_ceil-blocks.ensures at c.loop-capacity.invariant) here in
    rw (c.planned_drive.ensures, ← is-tried k lt) is

pub loop-capacity-preserved : goal.loop-capacity-preserved
unfolding tried
loop-capacity-preserved c =
    let k = c.loop-capacity.capacity-index in
    let lt : k < 6 = c.loop-capacity-test.true in
    none-more c.div_ceil-blocks.result k c.fewest_zones-zones.result c.loop-capacity.invariant (rw (← is-tried k lt) at c.fewest_zones-zones.ensures) c.if-zones-le-MOST_ZONES.false

-- 2^42 bytes are 2^30 blocks
few-blocks : (bytes blocks : ℕ) → bytes ≤ 2 ^ 42 → blocks ≡ div_ceil bytes 4096 → blocks ≤ 2 ^ 30
few-blocks bytes blocks le is = omega arith

pub overflow_cast-fewest_zones : goal.overflow_cast-fewest_zones
overflow_cast-fewest_zones c =
    let few = largest-few c.div_ceil-blocks.result c.fewest_zones.result (few-blocks c.args.bytes c.div_ceil-blocks.result c.if-bytes.false c.div_ceil-blocks.ensures) c.fewest_zones.ensures in
    omega arith

pub returns-clause-some : goal.returns-clause-some
returns-clause-some c =
    let last : c.loop-capacity.capacity-index ≡ 6 = omega arith in
    let few = largest-few c.div_ceil-blocks.result c.fewest_zones.result (few-blocks c.args.bytes c.div_ceil-blocks.result c.if-bytes.false c.div_ceil-blocks.ensures) c.fewest_zones.ensures in
    let none = rw (last, c.div_ceil-blocks.ensures) at c.loop-capacity.invariant in
    rw c.planned_drive-2.ensures (is-drive-for c.args.bytes 6 c.fewest_zones.result (omega arith) few (λ less. omega arith) none (rw c.div_ceil-blocks.ensures at c.fewest_zones.ensures))
