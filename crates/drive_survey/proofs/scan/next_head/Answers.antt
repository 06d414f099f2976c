use Rattle.std.proofs.Common.{[], slice_index_or, length, sym, ap, ◌∙◌}
use Rattle.zone_states.specs.declared.geometry.Geometry.{Geometry}
use Rattle.drive_survey.proofs.ReadLaws.{keeps-both, kept-known, kept-blocks}
use Rattle.drive_survey.proofs.NextLaws.{bad-kept, end-ok, if-fault, meet-few, meets, met-err, met-few, met-ok}
use Rattle.drive_survey.proofs.CountLaws.{met-reads}
use Rattle.drive_survey.proofs.scan.next_head.Goals as goal

pub meet_header-requires-clause-few : goal.meet_header-requires-clause-few
meet_header-requires-clause-few g c =
    meet-few (g.D.Device.drive c.args.device.now) c.args.zone.number _ c.args.heads.now.blocks c.args.zone.reported c.deref.result.now c.in-Ok.header c.requires.zone (ap length c.deref.ensures.value ∙ c.in_ok-read_block.ensures.long) c.in-Ok.ensures.ok c.requires.in_range c.requires.few

pub end_at-requires-clause-zone : goal.end_at-requires-clause-zone
end_at-requires-clause-zone g c = kept-known _ _ c.args.zone.number c.args.zone.reported c.read_block.ensures.kept c.requires.zone

pub end_at-requires-clause-block : goal.end_at-requires-clause-block
end_at-requires-clause-block g c = (λ clean. c.in_ok-read_block.ensures.ok clean ∙ ap (λ bs. slice_index_or bs c.blocks-offset.result []) (sym (kept-blocks _ _ c.args.zone.number c.read_block.ensures.kept)), c.in_ok-read_block.ensures.long ∙ sym (ap (λ (x : Geometry). x.block) c.read_block.ensures.kept.geometry))

pub returns-in_err-end_at-in-Err-clause-err : goal.returns-in_err-end_at-in-Err-clause-err
returns-in_err-end_at-in-Err-clause-err g c clean =
    if-fault c.from_residual-in_err-end_at-in-Err.result c.in_err-end_at-in-Err.field-0.0 _ c.from_residual-in_err-end_at-in-Err.ensures.1
    (bad-kept (g.D.Device.drive c.args.device.now) _ (g.D.Device.drive c.end_at.new.device) c.args.zone.number c.blocks-offset.result c.args.heads.now c.args.seen.now.keys _ c.read_block.ensures.kept c.blocks-offset.ensures (c.in_err-end_at-in-Err.ensures.err clean))

pub returns-in_err-end_at-in-Err-clause-kept : goal.returns-in_err-end_at-in-Err-clause-kept
returns-in_err-end_at-in-Err-clause-kept g c = keeps-both _ _ _ c.read_block.ensures.kept c.end_at.ensures.kept

pub returns-in-Ok-clause-few : goal.returns-in-Ok-clause-few
returns-in-Ok-clause-few g c =
    met-few (g.D.Device.drive c.args.device.now) c.args.zone.number c.args.zone.reported c.deref.result.now c.in-Ok.header c.args.heads.now _ _ _ c.meet_header.result c.requires.zone (ap length c.deref.ensures.value ∙ c.in_ok-read_block.ensures.long) c.in-Ok.ensures.ok c.requires.few c.meet_header.ensures

pub returns-in-Ok-clause-ok : goal.returns-in-Ok-clause-ok
returns-in-Ok-clause-ok g c clean =
    met-ok (g.D.Device.drive c.args.device.now) c.args.zone.number c.args.zone.reported c.deref.result.now c.in-Ok.header c.args.heads.now _ _ _ c.meet_header.result
    (meets _ c.args.zone.number c.blocks-offset.result c.args.zone.reported c.args.heads.now _ _ c.in-Ok.header c.requires.zone c.requires.in_range c.blocks-offset.ensures (c.in_ok-read_block.ensures.ok clean) c.in_ok-read_block.ensures.long c.deref.ensures.value c.in-Ok.ensures.ok c.in-Ok.ensures.read.0) c.meet_header.ensures

pub returns-in-Ok-clause-err : goal.returns-in-Ok-clause-err
returns-in-Ok-clause-err g c clean =
    met-err (g.D.Device.drive c.args.device.now) (g.D.Device.drive c.read_block.new.device) c.args.zone.number c.args.zone.reported c.deref.result.now c.in-Ok.header c.args.heads.now _ _ _ c.meet_header.result
    (meets _ c.args.zone.number c.blocks-offset.result c.args.zone.reported c.args.heads.now _ _ c.in-Ok.header c.requires.zone c.requires.in_range c.blocks-offset.ensures (c.in_ok-read_block.ensures.ok clean) c.in_ok-read_block.ensures.long c.deref.ensures.value c.in-Ok.ensures.ok c.in-Ok.ensures.read.0) c.meet_header.ensures

pub returns-in_ok-end_at-in-Err-clause-ok : goal.returns-in_ok-end_at-in-Err-clause-ok
returns-in_ok-end_at-in-Err-clause-ok g c clean =
    λ before takes. end-ok (g.D.Device.drive c.args.device.now) _ c.args.zone.number c.blocks-offset.result c.args.zone.reported c.args.heads.now before _ c.read_block.ensures.kept c.requires.zone c.blocks-offset.ensures c.in_ok-end_at-in-Err.ensures.ok.0 (c.in_ok-end_at-in-Err.ensures.ok.1 clean) takes

pub returns-in_ok-end_at-in-Err-clause-kept : goal.returns-in_ok-end_at-in-Err-clause-kept
returns-in_ok-end_at-in-Err-clause-kept g c = keeps-both _ _ _ c.read_block.ensures.kept c.end_at.ensures.kept

pub returns-in-Ok-clause-reads : goal.returns-in-Ok-clause-reads
returns-in-Ok-clause-reads g c =
    met-reads c.args.zone.number c.args.zone.reported c.args.heads.now _ _ _ c.in-Ok.header c.meet_header.result _ _ c.requires.in_range c.read_block.ensures.completed c.meet_header.ensures
