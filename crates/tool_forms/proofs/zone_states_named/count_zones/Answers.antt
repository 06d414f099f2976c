use Rattle.std.proofs.Common.{◌≡◌, [], arith, get_or, ap, ◌∙◌, refl}
use Rattle.nvme_wire.specs.declared.zone_state.ZoneState.{ZoneState}
use Rattle.nvme_wire.specs.declared.zone_state.ZoneState.TheVariants as states
use Rattle.zone_states.specs.Zone.{Zone}
use Rattle.zone_report.specs.declared.status.ZoneStatus.{ZoneStatus}
use Rattle.tool_forms.specs.Counts.{is_in, one_where}
use Rattle.tool_forms.proofs.CountLaws.{count_step, one-small}
use Rattle.tool_forms.proofs.zone_states_named.count_zones.Goals as goal

pub loop-number-preserved : goal.loop-number-preserved
loop-number-preserved g c =
    let zones = g.Z.ReportedZones.zones c.args.zones.now in
    let none : Zone = record { state = states.Offline; blocks = [] } in
    let state : c.status.result.state ≡ (get_or zones c.loop-number.number none).state = ap (λ (s : ZoneStatus). s.state) (c.status.ensures none) in
    let one : c.one_where-found.result ≡ one_where (is_in c.args.state (get_or zones c.loop-number.number none).state) =
    c.one_where-found.ensures ∙ ap one_where c.is_in.ensures ∙ ap (λ (s : ZoneState). one_where (is_in c.args.state s)) state in
    let small = one-small (is_in c.args.state (get_or zones c.loop-number.number none).state) in
    record {
      counted = count_step c.args.state c.loop-number.number zones none c.loop-number.found _ c.one_where-found.result _ (omega arith) one refl c.loop-number.invariant.counted;
      small = omega (arith, one, small, c.loop-number.invariant.small);
    }
