use Rattle.std.proofs.Common.{take}
use Rattle.nvme_wire.specs.declared.zone_state.ZoneState.TheVariants.{ImplicitlyOpened}
use Rattle.zone_states.specs.Transition.{is_state}
use Rattle.zone_drive.specs.Groups.{IsGrouped}
use Rattle.zone_drive.proofs.resources.implicit_counts.Given as goal

abbrev pub invariant-loop-index : goal.invariant-loop-index
invariant-loop-index g l = IsGrouped (λ zone. is_state ImplicitlyOpened (g.S.HasState.state zone)) (take l.index l.zones) l.counts
