use Rattle.std.proofs.Common.{◌∙◌, ap, List}
use Rattle.drive_survey.specs.declared.reported.ReportedZone.{ReportedZone}
use Rattle.drive_survey.proofs.ReadLaws.{keeps-both, kept-contents}
use Rattle.drive_survey.proofs.NextLaws.{if-fault}
use Rattle.drive_survey.proofs.SurveyLaws.{few-zones}
use Rattle.drive_inspection.specs.Lists.{found_in, unusable_reported}
use Rattle.drive_inspection.proofs.CheckLaws.{lists-before, told-all, unusable-found}
use Rattle.drive_inspection.proofs.FaultLaws.{end-tells}
use Rattle.drive_inspection.proofs.ReportLaws.{partly-told}
use Rattle.drive_inspection.proofs.checking.list_faults.Goals as goal

pub unusable_zones-requires : goal.unusable_zones-requires
unusable_zones-requires g c = rw c.deref.ensures.value (few-zones _ _ _ c.requires.in_range c.requires.lawful c.in_ok-zones.ensures.ok)

pub list_zones-requires : goal.list_zones-requires
list_zones-requires g c = record {
  told = rw c.deref-2.ensures.value (told-all _ _ c.in_ok-zones.zones.items c.requires.in_range c.report_zones.ensures.kept c.in_ok-zones.ensures.ok);
  few = rw c.deref-2.ensures.value (few-zones _ _ _ c.requires.in_range c.requires.lawful c.in_ok-zones.ensures.ok);
  partly = rw c.deref-2.ensures.value (partly-told _ _ c.in_ok-zones.zones.items c.in_ok-zones.ensures.ok);
}

pub returns-in_err-list_zones-clause-kept : goal.returns-in_err-list_zones-clause-kept
returns-in_err-list_zones-clause-kept g c = keeps-both _ _ _ c.report_zones.ensures.kept c.list_zones.ensures.kept

pub returns-in_err-list_zones-clause-kinds : goal.returns-in_err-list_zones-clause-kinds
returns-in_err-list_zones-clause-kinds g c =
    if-fault c.from_residual-in_err-list_zones.result c.in_err-list_zones.field-0.0 _ c.from_residual-in_err-list_zones.ensures.1 (end-tells c.in_err-list_zones.field-0.0 c.in_err-list_zones.ensures.kinds)

pub returns-clause-reported : goal.returns-clause-reported
returns-clause-reported g c = record {
  unusable = ap (λ v. v.items) c.list_zones.ensures.unusable ∙ c.in_ok-findings.ensures ∙ ap (λ (rs : List ReportedZone). found_in unusable_reported rs) c.deref.ensures.value ∙ unusable-found _ _ _ c.in_ok-zones.ensures.ok;
  partly_written = (rw (kept-contents _ _ c.report_zones.ensures.kept) at c.in_ok-list_zones.ensures.counted);
  tells = c.in_ok-list_zones.ensures.tells;
}

pub returns-clause-ok : goal.returns-clause-ok
returns-clause-ok g c clean = record {
  range = c.requires.in_range;
  unusable = ap (λ v. v.items) c.list_zones.ensures.unusable ∙ c.in_ok-findings.ensures ∙ ap (λ (rs : List ReportedZone). found_in unusable_reported rs) c.deref.ensures.value ∙ unusable-found _ _ _ c.in_ok-zones.ensures.ok;
  zones = lists-before _ _ _ c.args.given c.list_zones.new.findings c.report_zones.ensures.kept (c.in_ok-list_zones.ensures.ok clean);
}

pub returns-clause-kept : goal.returns-clause-kept
returns-clause-kept g c = keeps-both _ _ _ c.report_zones.ensures.kept c.list_zones.ensures.kept
