-- Which zones are in a state.
use Rattle.std.specs.Prelude.{ℕ, ◌==◌, Bool, true, false}
use Rattle.nvme_wire.specs.declared.zone_state.ZoneState.{ZoneState}
use Rattle.nvme_wire.specs.Descriptor.{state_code}

abbrev pub is_in : ZoneState → ZoneState → Bool
is_in state zone = state_code state == state_code zone

abbrev pub one_where : Bool → ℕ
one_where true = 1
one_where false = 0
