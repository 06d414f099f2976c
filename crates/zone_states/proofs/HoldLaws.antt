-- How many blocks a zone holds in a state.
use Rattle.std.proofs.Common.{ℕ, ◌≤◌, arith}
use Rattle.nvme_wire.specs.declared.zone_state.ZoneState.{ZoneState}
use Rattle.nvme_wire.specs.declared.zone_state.ZoneState.TheVariants.{Closed, Empty, ExplicitlyOpened, Full, ImplicitlyOpened, Offline, ReadOnly}
use Rattle.zone_states.specs.Zone.{MayHold}

-- no state lets a zone hold more than its capacity
pub may_hold-most : (state : ZoneState) (capacity written : ℕ) → MayHold state capacity written → written ≤ capacity
may_hold-most Empty capacity written h = omega arith
may_hold-most ImplicitlyOpened capacity written h = omega arith
may_hold-most ExplicitlyOpened capacity written h = omega arith
may_hold-most Closed capacity written h = omega arith
may_hold-most ReadOnly capacity written h = h
may_hold-most Full capacity written h = h
may_hold-most Offline capacity written h = h
