use Rattle.drive_survey.proofs.FindLaws.{examine-one, finding-ok}
use Rattle.drive_survey.specs.Waiting.{FindsOf, TellsFinding}
use Rattle.drive_survey.proofs.ReadLaws.{keeps-none}
use Rattle.drive_survey.proofs.clearing.examine_zone.Goals as goal

pub returns-then-not-is_moved-clause-kept : goal.returns-then-not-is_moved-clause-kept
returns-then-not-is_moved-clause-kept g c = keeps-none _ c.requires.zones.lawful

pub returns-in_err-records-clause-kept : goal.returns-in_err-records-clause-kept
returns-in_err-records-clause-kept g c = keeps-none _ c.requires.zones.lawful

pub returns-clause-ok : goal.returns-clause-ok
returns-clause-ok g c clean =
    finding-ok (TellsFinding (g.D.Device.drive c.args.device.now) c.args.survey.now.given c.args.survey.now c.in_ok-records.records c.args.zone) (FindsOf (g.D.Device.drive c.args.device.now) c.args.survey.now.given c.args.survey.now c.args.zone) c.examine_by.result
    (λ finding tells. examine-one (g.D.Device.drive c.args.device.now) c.args.survey.now.given c.args.survey.now c.in_ok-records.records c.args.zone finding c.in_ok-records.ensures.covers c.in_ok-records.ensures.holds tells)
    (c.examine_by.ensures.ok clean)
