use Rattle.std.proofs.Common.{◌≡◌, ◌+◌, ◌<◌, ℕ, get_or}
use Rattle.logical_map.specs.declared.place.Place.TheVariants as places
use Rattle.zone_translator.proofs.read.neighbours.Given as goal

abbrev pub invariant-loop-count : goal.invariant-loop-count
invariant-loop-count g l = (k : ℕ) → k < l.count → get_or l.disk.tables.map.places (l.block + k) places.None ≡ places.At (l.address + k)
