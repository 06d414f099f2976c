use Rattle.std.proofs.Common.{◌≡◌, ◌∙◌, ap, rules}
use Rattle.nvme_wire.specs.declared.report_head.ReportHead.{ReportHead}
use Rattle.drive_port.specs.Calls.{chosen_count}
use Rattle.drive_port.proofs.CountLaws.{chosen-fits, counted-empty, reported-counts, reported-head}
use Rattle.drive_port.proofs.calls.count_zones.Goals as goal

pub unreachable-requires : goal.unreachable-requires
unreachable-requires g c =
    let shown = c.in_ok-report.ensures.shown in
    let encoded = c.copy_from_slice.ensures.after ∙ c.deref.ensures.value ∙ reported-head _ _ c.args.options _ shown in
    let e = c.in-Err.ensures.encoded _ (chosen-fits _ c.args.options shown.zones c.report.ensures.obeys.was_lawful shown.before) encoded in
    cc

pub returns : goal.returns
returns g c =
    let shown = c.in_ok-report.ensures.shown in
    let made : ReportHead = record { zones = chosen_count c.args.options shown.zones } in
    let encoded = c.copy_from_slice.ensures.after ∙ c.deref.ensures.value ∙ reported-head _ _ c.args.options _ shown in
    let e = c.in-Ok.ensures.encoded made (chosen-fits _ c.args.options shown.zones c.report.ensures.obeys.was_lawful shown.before) encoded in
    let same : c.in-Ok.head ≡ made = cc in
    let counted = reported-counts _ _ c.args.options _ _ shown (ap (λ (h : ReportHead). h.zones) same) in record {
      gives = search rules;
      counted = counted;
      empty = counted-empty _ _ c.args.options _ c.report.ensures.obeys.was_lawful counted;
      err = search rules;
      kept = search rules;
      taken = search rules;
      obeys = search rules;
    }
