use Rattle.std.proofs.Common.{rules, ◌≡◌, drop}
use Rattle.zone_report.specs.ReportText.{IsListing}
use Rattle.zone_report.proofs.TextLaws.{short-no_report}
use Rattle.zone_report.proofs.text.report_text.Goals as goal

pub returns-in_default-clause-reads : goal.returns-in_default-clause-reads
returns-in_default-clause-reads c head ds report = elim (short-no_report c.args.bytes.now head ds c.in_default.ensures.cases report) [ ]

pub returns-in_err-write_lines-clause-reads : goal.returns-in_err-write_lines-clause-reads
returns-in_err-write_lines-clause-reads c head ds report =
    let rest : c.in-Some.rest.now ≡ drop 64 c.args.bytes.now = search rules in
    let lists : IsListing c.in-Some.rest.now ds = rw rest report.lists in
    let memory = c.in_err-write_lines.ensures.reads ds lists in
    search rules
