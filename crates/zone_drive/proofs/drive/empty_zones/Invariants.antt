use Rattle.std.proofs.Common.{◌≡◌, [], replicate}
use Rattle.nvme_wire.specs.declared.zone_state.ZoneState.TheVariants.{Empty}
use Rattle.zone_drive.proofs.drive.empty_zones.Given as goal

abbrev pub invariant-loop : goal.invariant-loop
invariant-loop l = l.zones.items ≡ replicate l.counter (record { state = Empty; bytes = [] })
