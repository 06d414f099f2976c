-- Which zone states hold active and open resources, and which action of a Zone Management Send leads from which state
-- to which (Zoned Namespace Command Set 1.1, section 2.1.1, and section 3.4.3).
use Rattle.std.specs.Prelude.{Bool, true, false, Result, Ok, Err}
use Rattle.nvme_wire.specs.declared.zone_state.ZoneState.{ZoneState}
use Rattle.nvme_wire.specs.declared.zone_state.ZoneState.TheVariants.{Empty, ImplicitlyOpened, ExplicitlyOpened, Closed, ReadOnly, Full, Offline}
use Rattle.nvme_wire.specs.declared.command.Action.{Action}
use Rattle.nvme_wire.specs.declared.command.Action.TheVariants as actions
use Rattle.nvme_wire.specs.declared.status.Status.{Status}
use Rattle.nvme_wire.specs.declared.status.Status.TheVariants.{InvalidZoneStateTransition}

abbrev pub is_state : ZoneState → ZoneState → Bool
is_state Empty Empty = true
is_state Closed Closed = true
is_state ReadOnly ReadOnly = true
is_state Full Full = true
is_state Offline Offline = true
is_state ImplicitlyOpened ImplicitlyOpened = true
is_state ExplicitlyOpened ExplicitlyOpened = true
is_state state other = false

-- states that hold one of the drive's active resources, and of its open resources
abbrev pub is_active : ZoneState → Bool
is_active ImplicitlyOpened = true
is_active ExplicitlyOpened = true
is_active Closed = true
is_active state = false

abbrev pub is_open : ZoneState → Bool
is_open ImplicitlyOpened = true
is_open ExplicitlyOpened = true
is_open state = false

-- the table, a column for each state: an explicitly opened zone that is closed becomes Closed also where nothing is written in it
abbrev pub state_after : ZoneState → Action → Result ZoneState Status
state_after Empty actions.Open = Ok ExplicitlyOpened
state_after Empty actions.Finish = Ok Full
state_after Empty actions.Reset = Ok Empty
state_after ImplicitlyOpened actions.Open = Ok ExplicitlyOpened
state_after ImplicitlyOpened actions.Close = Ok Closed
state_after ImplicitlyOpened actions.Finish = Ok Full
state_after ImplicitlyOpened actions.Reset = Ok Empty
state_after ExplicitlyOpened actions.Open = Ok ExplicitlyOpened
state_after ExplicitlyOpened actions.Close = Ok Closed
state_after ExplicitlyOpened actions.Finish = Ok Full
state_after ExplicitlyOpened actions.Reset = Ok Empty
state_after Closed actions.Open = Ok ExplicitlyOpened
state_after Closed actions.Close = Ok Closed
state_after Closed actions.Finish = Ok Full
state_after Closed actions.Reset = Ok Empty
state_after Full actions.Finish = Ok Full
state_after Full actions.Reset = Ok Empty
state_after ReadOnly actions.Offline = Ok Offline
state_after Offline actions.Offline = Ok Offline
state_after state action = Err InvalidZoneStateTransition
