-- The zones, as they are stored, after an action.
use Rattle.std.specs.Prelude.{ℕ, if◌then◌else◌, List, [], slice_index_or, slice_set, Option, Some, None}
use Rattle.nvme_wire.specs.declared.command.Action.{Action}
use Rattle.nvme_wire.specs.declared.command.Action.TheVariants.{Close}
use Rattle.nvme_wire.specs.declared.zone_state.ZoneState.TheVariants.{Closed, ImplicitlyOpened, Offline}
use Rattle.zone_states.specs.Stored.{StoredZone, stored_after}
use Rattle.zone_states.specs.Transition.{is_state, state_after}
use Rattle.drive_port.specs.Step.{is_selected}

-- a stored zone; past the last it is never reached
abbrev pub stored_at : List StoredZone → ℕ → StoredZone
stored_at zones index = slice_index_or zones index (record { state = Offline; bytes = [] })

-- the zones after an action on one of them
abbrev pub sent_in : List StoredZone → ℕ → Action → List StoredZone
sent_in zones index action =
    let zone = stored_at zones index in
    slice_set zones index (stored_after action zone (state_after zone.state action))

-- the zones once the one with this number is closed, if there is a number
abbrev pub closed_in : List StoredZone → Option ℕ → List StoredZone
closed_in zones None = zones
closed_in zones (Some low) = sent_in zones low Close

-- a zone once it is closed if it is implicitly opened
abbrev pub closed_stored : StoredZone → StoredZone
closed_stored zone = if is_state ImplicitlyOpened zone.state then record zone { state = Closed } else zone

-- a zone after an action on all zones
abbrev pub sent_stored : Action → StoredZone → StoredZone
sent_stored action zone = if is_selected action zone.state then stored_after action zone (state_after zone.state action) else zone
