use Rattle.std.proofs.Common.{ℕ, ◌*◌, ◌/◌, ◌<◌, arith}
use Rattle.std.proofs.Math.Nat.{div-lt_iff_lt-mul}
use Rattle.zone_states.proofs.geometry.Geometry.zone_of.Goals as goal

below : (address zones size : ℕ) → address < zones * size → address / size < zones
below address zones size lt = let some : 0 < size = grind (arith, lt) in (div-lt_iff_lt-mul some).1 lt

pub overflow_cast-result : goal.overflow_cast-result
overflow_cast-result c =
    let inside = below c.args.address c.args.self.zones c.args.self.size c.requires in
    rw c.from.ensures (omega (arith, inside))

pub returns-clause-in_range : goal.returns-clause-in_range
returns-clause-in_range c = rw c.from.ensures (below c.args.address c.args.self.zones c.args.self.size c.requires)
