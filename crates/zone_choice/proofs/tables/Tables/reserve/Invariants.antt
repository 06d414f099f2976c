use Rattle.std.proofs.Common.{◌≡◌, ◌≤◌, ◌<◌, ℕ}
use Rattle.logical_map.specs.Places.{IsReady}
use Rattle.zone_choice.specs.Tables.{AreLive}
use Rattle.zone_choice.proofs.tables.Tables.reserve.Given as goal

abbrev pub invariant-loop-block : goal.invariant-loop-block
invariant-loop-block l =
    (l.self-inside.map.places ≡ l.fn.self.map.places)
    × (l.self-inside.map.zones ≡ l.fn.self.map.zones)
    × (l.self-inside.map.zone_size ≡ l.fn.self.map.zone_size)
    × (l.self-inside.roles ≡ l.fn.self.roles)
    × (l.self-inside.next ≡ l.fn.self.next)
    × (l.self-inside.given ≡ l.fn.self.given)
    × (l.self-inside.unreadable.items ≡ l.fn.self.unreadable)
    × AreLive l.self-inside.map l.self-inside.index
    × ((k : ℕ) → l.fn.first ≤ k → k < l.block → IsReady l.self-inside.map k)
