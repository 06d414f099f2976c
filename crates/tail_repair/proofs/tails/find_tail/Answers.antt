use Rattle.drive_survey.proofs.ReadLaws.{keeps-both, kept-known}
use Rattle.tail_repair.proofs.CauseLaws.{find-before, if-fault}
use Rattle.tail_repair.proofs.TailLaws.{foreign-ends, headers-before, log-after}
use Rattle.tail_repair.proofs.tails.find_tail.Goals as goal

pub refuse_headers-requires : goal.refuse_headers-requires
refuse_headers-requires g c = record {
  zone = kept-known _ _ c.args.zone.number c.args.zone.reported c.batches_end.ensures.kept c.requires.zone;
  ends = λ clean. log-after _ _ c.args.zone.number c.in_ok-end.end.blocks c.batches_end.ensures.kept (foreign-ends (g.D.Device.drive c.args.device.now) c.args.zone.number c.in_ok-end.end.blocks c.in_ok-end.end.is_foreign c.if-not-end.false (c.in_ok-end.ensures.ok clean));
}

pub returns-in_err-refuse_headers-clause-err : goal.returns-in_err-refuse_headers-clause-err
returns-in_err-refuse_headers-clause-err g c clean =
    if-fault c.from_residual-in_err-refuse_headers.result c.in_err-refuse_headers.field-0.0 _ c.from_residual-in_err-refuse_headers.ensures.1
    (find-before (g.D.Device.drive c.args.device.now) (g.D.Device.drive c.batches_end.new.device) (g.D.Device.drive c.refuse_headers.new.device) c.in_err-refuse_headers.field-0.0 c.batches_end.ensures.kept (c.in_err-refuse_headers.ensures.err clean))

pub returns-in_err-refuse_headers-clause-kept : goal.returns-in_err-refuse_headers-clause-kept
returns-in_err-refuse_headers-clause-kept g c = keeps-both _ _ _ c.batches_end.ensures.kept c.refuse_headers.ensures.kept

pub returns-clause-ok : goal.returns-clause-ok
returns-clause-ok g c clean = (
  foreign-ends (g.D.Device.drive c.args.device.now) c.args.zone.number c.in_ok-end.end.blocks c.in_ok-end.end.is_foreign c.if-not-end.false (c.in_ok-end.ensures.ok (c.refuse_headers.ensures.kept.trusted clean)),
  headers-before _ _ c.args.zone.number c.in_ok-end.end.blocks c.batches_end.ensures.kept (c.in_ok-refuse_headers.ensures.ok clean),
)

pub returns-clause-kept : goal.returns-clause-kept
returns-clause-kept g c = keeps-both _ _ _ c.batches_end.ensures.kept c.refuse_headers.ensures.kept
