use Rattle.drive_survey.proofs.ReadLaws.{keeps-both}
use Rattle.tail_repair.proofs.CauseLaws.{find-told, if-fault, look-told}
use Rattle.tail_repair.proofs.TailLaws.{copy-found, known-in}
use Rattle.tail_repair.proofs.copy.compare.Goals as goal

pub is_copy-requires-clause-from : goal.is_copy-requires-clause-from
is_copy-requires-clause-from g c = known-in _ c.in_ok-zones.zones.items c.args.zone c.in-Some-Some.from.number c.in-Some-Some.from.reported c.in_ok-zones.ensures.ok c.in-Some-Some.ensures.0 (rw (← c.deref.ensures.value) c.in-Some-Some.ensures.1)

pub is_copy-requires-clause-to : goal.is_copy-requires-clause-to
is_copy-requires-clause-to g c = known-in _ c.in_ok-zones.zones.items c.args.to c.in-Some-Some.copy.number c.in-Some-Some.copy.reported c.in_ok-zones.ensures.ok c.in-Some-Some.ensures'.0 (rw (← c.deref-2.ensures.value) c.in-Some-Some.ensures'.1)

pub returns-in_err-is_copy-clause-kept : goal.returns-in_err-is_copy-clause-kept
returns-in_err-is_copy-clause-kept g c = keeps-both _ _ _ c.known_zones.ensures.kept c.is_copy.ensures.kept

pub returns-then-not-branch-clause-kept : goal.returns-then-not-branch-clause-kept
returns-then-not-branch-clause-kept g c = keeps-both _ _ _ c.known_zones.ensures.kept c.is_copy.ensures.kept

pub returns-clause-ok : goal.returns-clause-ok
returns-clause-ok g c clean =
    copy-found _ _ c.args.zone c.args.blocks c.args.to c.in-Some-Some.from c.in-Some-Some.copy c.in_ok-zones.zones.items c.known_zones.ensures.kept c.in_ok-zones.ensures.ok
    c.in-Some-Some.ensures.0 (rw (← c.deref.ensures.value) c.in-Some-Some.ensures.1) c.in-Some-Some.ensures'.0 (rw (← c.deref-2.ensures.value) c.in-Some-Some.ensures'.1)
    c.if-from-blocks.false c.if-copy-blocks.false (c.in_ok-is_copy.ensures.ok clean c.if-not-branch.false)

pub returns-clause-kept : goal.returns-clause-kept
returns-clause-kept g c = keeps-both _ _ _ c.known_zones.ensures.kept c.is_copy.ensures.kept

pub returns-in_err-zones-clause-told : goal.returns-in_err-zones-clause-told
returns-in_err-zones-clause-told g c = if-fault c.from_residual.result c.in_err-zones.field-0.0 _ c.from_residual.ensures.1 (find-told (g.D.Device.drive c.args.device.now) (g.D.Device.drive c.known_zones.new.device) c.in_err-zones.field-0.0 c.in_err-zones.ensures.err)

pub returns-in_err-is_copy-clause-told : goal.returns-in_err-is_copy-clause-told
returns-in_err-is_copy-clause-told g c = if-fault c.from_residual-in_err-is_copy.result c.in_err-is_copy.field-0.0 _ c.from_residual-in_err-is_copy.ensures.1 (look-told (g.D.Device.drive c.is_copy.new.device) c.in_err-is_copy.field-0.0 c.in_err-is_copy.ensures.err)
