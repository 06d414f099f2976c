use Rattle.std.proofs.Common.{below_more, sym, ◌∙◌}
use Rattle.tool_forms.proofs.zone_states_named.named_in.Goals as goal

pub loop-state-preserved : goal.loop-state-preserved
loop-state-preserved c = below_more _ _ c.loop-state.invariant (sym c.is_name_of.ensures ∙ c.if-is_name_of.false)
