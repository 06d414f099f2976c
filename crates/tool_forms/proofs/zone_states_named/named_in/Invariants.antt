use Rattle.std.proofs.Common.{◌≡◌, ℕ, ◌<◌, false, get_or}
use Rattle.nvme_wire.specs.declared.zone_state.ZoneState.TheVariants.{Empty}
use Rattle.tool_forms.specs.Named.{is_name_of}
use Rattle.tool_forms.proofs.zone_states_named.named_in.Given as goal

abbrev pub invariant-loop-state : goal.invariant-loop-state
invariant-loop-state l = (k : ℕ) → k < l.state-index → is_name_of l.word (get_or l.states k Empty) ≡ false
