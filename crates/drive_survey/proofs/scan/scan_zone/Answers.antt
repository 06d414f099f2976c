use Rattle.std.proofs.Common.{arith, IsTrue}
use Rattle.drive_survey.proofs.ReadLaws.{keeps-both, keeps-none, kept-known}
use Rattle.drive_survey.proofs.TakeLaws.{takes-none}
use Rattle.drive_survey.proofs.NextLaws.{all-next, if-fault}
use Rattle.drive_survey.proofs.ScanLaws.{step-err, step-ok, taken-next}
use Rattle.drive_survey.proofs.CountLaws.{next-more, reads-next}
use Rattle.drive_survey.proofs.scan.scan_zone.Goals as goal

pub loop-zone-init : goal.loop-zone-init
loop-zone-init g c = (keeps-none _ c.requires.zone.lawful, λ clean. rw c.new-heads.ensures (takes-none _ _ c.args.seen.now.keys), rw c.new-heads.ensures (omega arith), rw c.new-heads.ensures (record { completed = omega arith; few = omega arith; inside = omega arith }))

pub next_head-requires-clause-zone : goal.next_head-requires-clause-zone
next_head-requires-clause-zone g c = kept-known _ _ c.args.zone.number c.args.zone.reported c.loop-zone.invariant.0 c.requires.zone

pub next_head-requires-clause-few : goal.next_head-requires-clause-few
next_head-requires-clause-few g c = c.loop-zone.invariant.2

pub returns-in_err-is_torn-clause-err : goal.returns-in_err-is_torn-clause-err
returns-in_err-is_torn-clause-err g c clean =
    if-fault c.from_residual.result c.in_err-is_torn.field-0.0 _ c.from_residual.ensures.1
    (step-err (g.D.Device.drive c.args.device.now) (g.D.Device.drive c.loop-zone.device) (g.D.Device.drive c.next_head.new.device) c.args.zone.number c.args.seen.now.keys c.loop-zone.seen.keys c.loop-zone.heads _ c.loop-zone.invariant.0 (c.loop-zone.invariant.1 (c.next_head.ensures.kept.trusted clean)) (c.in_err-is_torn.ensures.err clean))

pub returns-in_err-is_torn-clause-kept : goal.returns-in_err-is_torn-clause-kept
returns-in_err-is_torn-clause-kept g c = keeps-both _ _ _ c.loop-zone.invariant.0 c.next_head.ensures.kept

pub returns-in-Some-clause-ok : goal.returns-in-Some-clause-ok
returns-in-Some-clause-ok g c clean =
    let next = step-ok (g.D.Device.drive c.args.device.now) (g.D.Device.drive c.loop-zone.device) c.args.zone.number c.args.seen.now.keys c.loop-zone.seen.keys _ c.loop-zone.heads c.next_head.new.heads c.in_ok-is_torn.field-0 c.loop-zone.invariant.0 (c.loop-zone.invariant.1 (c.next_head.ensures.kept.trusted clean)) (c.in_ok-is_torn.ensures.ok clean) in
    rw c.in-Some.is at next

pub returns-in-Some-clause-kept : goal.returns-in-Some-clause-kept
returns-in-Some-clause-kept g c = keeps-both _ _ _ c.loop-zone.invariant.0 c.next_head.ensures.kept

pub loop-zone-smaller : goal.loop-zone-smaller
loop-zone-smaller g c =
    let more = next-more c.args.zone.reported c.loop-zone.heads c.next_head.new.heads c.in_ok-is_torn.field-0 _ _ c.in_ok-is_torn.ensures.reads c.in_default.not-Some in
    omega (arith, more, c.loop-zone-test.true, c.blocks-in-loop-zone.ensures)

pub loop-zone-preserved : goal.loop-zone-preserved
loop-zone-preserved g c =
    let next = λ (clean : IsTrue (g.D.Device.drive c.next_head.new.device).clean). step-ok (g.D.Device.drive c.args.device.now) (g.D.Device.drive c.loop-zone.device) c.args.zone.number c.args.seen.now.keys c.loop-zone.seen.keys c.next_head.new.seen.keys c.loop-zone.heads c.next_head.new.heads c.in_ok-is_torn.field-0 c.loop-zone.invariant.0 (c.loop-zone.invariant.1 (c.next_head.ensures.kept.trusted clean)) (c.in_ok-is_torn.ensures.ok clean) in
    let taken = λ (clean : IsTrue (g.D.Device.drive c.next_head.new.device).clean). taken-next (g.D.Device.drive c.args.device.now) c.args.zone.number c.args.seen.now.keys c.next_head.new.seen.keys c.loop-zone.heads c.next_head.new.heads c.in_ok-is_torn.field-0 (next clean) c.in_default.not-Some in
    (keeps-both _ _ _ c.loop-zone.invariant.0 c.next_head.ensures.kept, λ clean. (taken clean).0, c.in_ok-is_torn.ensures.few, reads-next c.args.zone.reported c.loop-zone.heads c.next_head.new.heads c.in_ok-is_torn.field-0 _ _ _ c.loop-zone.invariant.3 c.in_ok-is_torn.ensures.reads c.in_default.not-Some)

pub returns-clause-ok : goal.returns-clause-ok
returns-clause-ok g c clean =
    all-next (g.D.Device.drive c.args.device.now) c.args.zone.number c.args.zone.reported c.loop-zone.heads c.args.seen.now.keys c.loop-zone.seen.keys c.requires.zone (omega (arith, c.loop-zone-test.false, c.blocks-in-loop-zone.ensures)) (c.loop-zone.invariant.1 clean)

pub returns-clause-kept : goal.returns-clause-kept
returns-clause-kept g c = c.loop-zone.invariant.0

pub returns-in_err-is_torn-clause-completed : goal.returns-in_err-is_torn-clause-completed
returns-in_err-is_torn-clause-completed g c =
    let far = c.loop-zone.invariant.3 in
    omega (arith, far.completed, far.few, far.inside, c.in_err-is_torn.ensures.reads)

pub returns-in-Some-clause-reads : goal.returns-in-Some-clause-reads
returns-in-Some-clause-reads g c =
    let far = c.loop-zone.invariant.3 in
    let reads = rw c.in-Some.is at c.in_ok-is_torn.ensures.reads in
    rw reads.1 (omega (arith, far.completed, reads.0))

pub returns-in-Some-clause-completed : goal.returns-in-Some-clause-completed
returns-in-Some-clause-completed g c =
    let far = c.loop-zone.invariant.3 in
    let reads = rw c.in-Some.is at c.in_ok-is_torn.ensures.reads in
    omega (arith, far.completed, far.few, far.inside, reads.0)

pub returns-clause-reads : goal.returns-clause-reads
returns-clause-reads g c =
    let far = c.loop-zone.invariant.3 in
    omega (arith, far.completed, far.inside)

pub returns-clause-completed : goal.returns-clause-completed
returns-clause-completed g c =
    let far = c.loop-zone.invariant.3 in
    omega (arith, far.completed, far.few, far.inside)
