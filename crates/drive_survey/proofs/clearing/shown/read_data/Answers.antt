use Rattle.drive_survey.proofs.MovedLaws.{there}
use Rattle.drive_survey.proofs.ReadLaws.{keeps-none}
use Rattle.drive_survey.proofs.ShowLaws.{not-readable}
use Rattle.drive_survey.proofs.clearing.shown.read_data.Goals as goal

pub returns-in_default-clause-kept : goal.returns-in_default-clause-kept
returns-in_default-clause-kept g c = keeps-none _ c.requires.zones.lawful

pub returns-then-found-reported-clause-ok : goal.returns-then-found-reported-clause-ok
returns-then-found-reported-clause-ok g c clean = λ zone_lt.
    not-readable (g.D.Device.drive c.args.device.now) c.in-Some.reported.now c.args.found.zone c.args.found.offset _
    (c.requires.zones.each c.args.found.zone c.in-Some.reported.now (there c.args.zones.now c.args.found.zone c.in-Some.reported.now c.in-Some.ensures.lookup.3.0 c.in-Some.ensures.lookup.1)) c.if-found-reported.true

pub returns-then-found-reported-clause-kept : goal.returns-then-found-reported-clause-kept
returns-then-found-reported-clause-kept g c = keeps-none _ c.requires.zones.lawful

pub read_block-requires-clause-zone : goal.read_block-requires-clause-zone
read_block-requires-clause-zone g c = c.requires.zones.each c.args.found.zone c.in-Some.reported.now (there c.args.zones.now c.args.found.zone c.in-Some.reported.now c.in-Some.ensures.lookup.3.0 c.in-Some.ensures.lookup.1)
