use Rattle.std.proofs.Common.{◌∙◌, arith, sym}
use Rattle.drive_survey.proofs.ReadLaws.{keeps-none}
use Rattle.device_jobs.proofs.FormatLaws.{none-reported, empties-both, empties-kept, empties-none, usages-kept}
use Rattle.std.proofs.lemmas.Result.{IfErr-weaker}
use Rattle.device_jobs.specs.Formats.{HasFormatCause, IsUnformatted, IsUnreset}
use Rattle.device_jobs.proofs.FormatFaultLaws.{exit, unlooked-cause, unlooked-so, unreset-cause}
use Rattle.device_jobs.proofs.formatting.empty_zones.Goals as goal

pub returns-in_err-find_holding-clause-err : goal.returns-in_err-find_holding-clause-err
returns-in_err-find_holding-clause-err g c =
    let old = g.D.Device.drive c.args.device.now in
    let new = g.D.Device.drive c.find_holding.new.device in
    exit (IsUnformatted c.args.force old new) c.from_residual.result c.in_err-find_holding.field-0.0 c.from_residual.ensures.1
    (unlooked-so c.args.force old new c.find_holding.ensures.kept c.in_err-find_holding.field-0.0 c.in_err-find_holding.ensures.kinds)

pub returns-in_err-find_holding-clause-cause : goal.returns-in_err-find_holding-clause-cause
returns-in_err-find_holding-clause-cause g c clean =
    let old = g.D.Device.drive c.args.device.now in
    let new = g.D.Device.drive c.find_holding.new.device in
    exit (HasFormatCause old new) c.from_residual.result c.in_err-find_holding.field-0.0 c.from_residual.ensures.1
    (unlooked-cause old new c.in_err-find_holding.field-0.0 (c.in_err-find_holding.ensures.err clean))

pub returns-then-count-eq0-clause-kept : goal.returns-then-count-eq0-clause-kept
returns-then-count-eq0-clause-kept g c = λ unforced. keeps-none (g.D.Device.drive c.args.device.now) c.requires.reported.lawful

pub returns-then-count-eq0-clause-empties : goal.returns-then-count-eq0-clause-empties
returns-then-count-eq0-clause-empties g c = empties-none (g.D.Device.drive c.args.device.now)

pub returns-then-count-eq0-clause-ok : goal.returns-then-count-eq0-clause-ok
returns-then-count-eq0-clause-ok g c =
    none-reported (g.D.Device.drive c.args.device.now) c.args.zones.now c.requires.reported (sym c.count_written-count.ensures ∙ c.if-count-eq0.true)

pub reset_zones-requires : goal.reset_zones-requires
reset_zones-requires g c =
    record { reported = usages-kept (g.D.Device.drive c.args.device.now) (g.D.Device.drive c.find_holding.new.device) c.args.zones.now c.requires.reported c.find_holding.ensures.kept }

pub returns-in_err-find_holding-clause-empties : goal.returns-in_err-find_holding-clause-empties
returns-in_err-find_holding-clause-empties g c = empties-kept _ _ c.find_holding.ensures.kept

pub returns-then-not-force-clause-empties : goal.returns-then-not-force-clause-empties
returns-then-not-force-clause-empties g c = empties-kept _ _ c.find_holding.ensures.kept

pub returns-then-not-force-clause-err : goal.returns-then-not-force-clause-err
returns-then-not-force-clause-err g c = (
  c.if-not-force.true,
  record { count = c.count_written-count.ensures ∙ c.requires.reported.written; some = omega (arith, c.if-count-eq0.false) },
  c.find_holding.ensures.kept,
)

pub returns-then-not-force-clause-cause : goal.returns-then-not-force-clause-cause
returns-then-not-force-clause-cause g c clean = record {
  count = c.count_written-count.ensures ∙ c.requires.reported.written;
  some = omega (arith, c.if-count-eq0.false);
  seen = g.D.Device.drive c.args.device.now;
  keeps = keeps-none (g.D.Device.drive c.args.device.now) c.requires.reported.lawful;
  holding = c.in_ok-find_holding.ensures.ok clean;
}

pub returns-clause-cause : goal.returns-clause-cause
returns-clause-cause g c clean =
    let old = g.D.Device.drive c.args.device.now in
    let new = g.D.Device.drive c.reset_zones.new.device in
    IfErr-weaker c.reset_zones.result (IsUnreset new) (HasFormatCause old new) (unreset-cause old new) c.reset_zones.ensures.err

pub returns-then-is_err-clause-empties : goal.returns-then-is_err-clause-empties
returns-then-is_err-clause-empties g c = empties-kept _ _ c.find_holding.ensures.kept

pub returns-clause-empties : goal.returns-clause-empties
returns-clause-empties g c = empties-both _ _ _ (empties-kept _ _ c.find_holding.ensures.kept) c.reset_zones.ensures.empties
