use Rattle.std.proofs.Common.{ℕ, ◌+◌, ◌*◌, ◌∙◌, ap}
use Rattle.zone_states.specs.declared.geometry.Geometry.{Geometry}
use Rattle.drive_survey.proofs.ReadLaws.{read-halts, read-shown}
use Rattle.drive_survey.proofs.scan.read_block.Goals as goal

pub fault_of-requires : goal.fault_of-requires
fault_of-requires g c =
    (read-halts (g.D.Device.drive c.args.device.now) _ c.args.zone.number c.args.offset _ c.args.zone.reported _ c.in-Err.fault c.requires.zone c.requires.in_range (ap (λ (k : ℕ). k + c.args.offset) c.start_of-start.ensures ∙ ap (λ (x : Geometry). c.args.zone.number * x.size + c.args.offset) c.geometry.ensures.value) c.in-Err.ensures.gives c.read.ensures.kept.closing c.in-Err.ensures.obeys c.in-Err.ensures.taken).halt

pub returns-in-Err-clause-err : goal.returns-in-Err-clause-err
returns-in-Err-clause-err g c =
    rw c.fault_of.ensures (read-halts (g.D.Device.drive c.args.device.now) _ c.args.zone.number c.args.offset _ c.args.zone.reported _ c.in-Err.fault c.requires.zone c.requires.in_range (ap (λ (k : ℕ). k + c.args.offset) c.start_of-start.ensures ∙ ap (λ (x : Geometry). c.args.zone.number * x.size + c.args.offset) c.geometry.ensures.value) c.in-Err.ensures.gives c.read.ensures.kept.closing c.in-Err.ensures.obeys c.in-Err.ensures.taken).cause

pub returns-in-Err-clause-kept : goal.returns-in-Err-clause-kept
returns-in-Err-clause-kept g c =
    (read-halts (g.D.Device.drive c.args.device.now) _ c.args.zone.number c.args.offset _ c.args.zone.reported _ c.in-Err.fault c.requires.zone c.requires.in_range (ap (λ (k : ℕ). k + c.args.offset) c.start_of-start.ensures ∙ ap (λ (x : Geometry). c.args.zone.number * x.size + c.args.offset) c.geometry.ensures.value) c.in-Err.ensures.gives c.read.ensures.kept.closing c.in-Err.ensures.obeys c.in-Err.ensures.taken).kept

pub returns-clause-ok : goal.returns-clause-ok
returns-clause-ok g c clean =
    read-shown (g.D.Device.drive c.args.device.now) c.args.zone.number c.args.offset _ c.args.zone.reported _ c.requires.zone c.requires.in_range (ap (λ (k : ℕ). k + c.args.offset) c.start_of-start.ensures ∙ ap (λ (x : Geometry). c.args.zone.number * x.size + c.args.offset) c.geometry.ensures.value) (c.in_default.ensures.shown.bytes clean)
