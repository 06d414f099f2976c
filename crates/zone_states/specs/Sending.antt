-- What an action of a Zone Management Send leaves of a zone.
use Rattle.std.specs.Prelude.{ℕ, List, [], Result, Ok, Err}
use Rattle.nvme_wire.specs.declared.zone_state.ZoneState.{ZoneState}
use Rattle.nvme_wire.specs.declared.command.Action.{Action}
use Rattle.nvme_wire.specs.declared.command.Action.TheVariants as actions
use Rattle.nvme_wire.specs.declared.status.Status.{Status}
use Rattle.zone_states.specs.Zone.{Zone}

-- the blocks that an action leaves: a Reset takes them away
abbrev pub blocks_after : Action → List (List ℕ) → List (List ℕ)
blocks_after actions.Reset blocks = []
blocks_after action blocks = blocks

abbrev pub zone_after : Action → Zone → Result ZoneState Status → Zone
zone_after action zone (Ok state) = record { state = state; blocks = blocks_after action zone.blocks }
zone_after action zone (Err status) = zone
