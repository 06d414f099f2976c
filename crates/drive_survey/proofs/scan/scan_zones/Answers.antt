use Rattle.std.proofs.Common.{◌≡◌, ◌++◌, [], ◌∷◌, ◌+◌, ◌∙◌, ℕ, ap, length, length-append, refl, arith}
use Rattle.drive_survey.proofs.ReadLaws.{keeps-both, keeps-none}
use Rattle.drive_survey.proofs.NextLaws.{if-fault}
use Rattle.drive_survey.proofs.AllScanLaws.{all-known, scans-all, scans-fail, scans-more, scans-none, there-is}
use Rattle.drive_survey.proofs.CountLaws.{blocks-more, blocks-within, reads-more}
use Rattle.drive_survey.proofs.scan.scan_zones.Goals as goal

pub loop-number-init : goal.loop-number-init
loop-number-init g c = (keeps-none _ c.requires.zones.lawful, λ clean. rw (c.new-scanned.ensures.items, c.new-seen.ensures.empty) (scans-none (g.D.Device.drive c.args.device.now)), rw c.new-scanned.ensures.items (omega arith), omega arith, rw c.new-scanned.ensures.items refl)

pub scan_zone-requires : goal.scan_zone-requires
scan_zone-requires g c =
    record { zone = all-known (g.D.Device.drive c.args.device.now) _ c.args.zones.now c.loop-number.number _ c.requires.zones c.loop-number.invariant.0 (there-is c.args.zones.now c.loop-number.number _ c.loop-number-test.true) }

pub returns-in_err-heads-clause-err : goal.returns-in_err-heads-clause-err
returns-in_err-heads-clause-err g c clean =
    if-fault c.from_residual.result c.in_err-heads.field-0.0 _ c.from_residual.ensures.1
    (scans-fail (g.D.Device.drive c.args.device.now) (g.D.Device.drive c.loop-number.device) (g.D.Device.drive c.scan_zone.new.device) c.loop-number.scanned.items c.loop-number.seen.keys c.loop-number.number _ c.loop-number.invariant.0 (omega (arith, c.loop-number-test.true, c.requires.zones.count)) (c.loop-number.invariant.1 (c.scan_zone.ensures.kept.trusted clean)) (c.in_err-heads.ensures.err clean))

pub returns-in_err-heads-clause-kept : goal.returns-in_err-heads-clause-kept
returns-in_err-heads-clause-kept g c = keeps-both _ _ _ c.loop-number.invariant.0 c.scan_zone.ensures.kept

pub returns-then-is_err-clause-kept : goal.returns-then-is_err-clause-kept
returns-then-is_err-clause-kept g c = keeps-both _ _ _ c.loop-number.invariant.0 c.scan_zone.ensures.kept

pub loop-number-preserved : goal.loop-number-preserved
loop-number-preserved g c =
    let pushed : c.push.new.self.items ≡ c.loop-number.scanned.items ++ c.in_ok-heads.heads ∷ [] = rw c.if-is_err.ensures.negation at c.push.ensures.items in (
      keeps-both _ _ _ c.loop-number.invariant.0 c.scan_zone.ensures.kept,
      λ clean. scans-more (g.D.Device.drive c.args.device.now) (g.D.Device.drive c.loop-number.device) c.loop-number.scanned.items c.push.new.self.items c.in_ok-heads.heads c.loop-number.seen.keys c.scan_zone.new.seen.keys c.loop-number.number c.loop-number.invariant.0 (omega (arith, c.loop-number-test.true, c.requires.zones.count)) pushed (c.loop-number.invariant.1 (c.scan_zone.ensures.kept.trusted clean)) (c.in_ok-heads.ensures.ok clean),
      reads-more (g.D.Device.drive c.args.device.now) (g.D.Device.drive c.loop-number.device) (g.D.Device.drive c.scan_zone.new.device) c.args.zones.now c.loop-number.number _ c.loop-number.scanned.items c.push.new.self.items c.in_ok-heads.heads c.loop-number-test.true pushed c.loop-number.invariant.2 c.in_ok-heads.ensures.reads,
      blocks-more (g.D.Device.drive c.args.device.now) (g.D.Device.drive c.loop-number.device) (g.D.Device.drive c.scan_zone.new.device) c.args.zones.now c.loop-number.number _ c.loop-number-test.true c.loop-number.invariant.3 c.scan_zone.ensures.completed,
      ap length pushed ∙ length-append c.loop-number.scanned.items (c.in_ok-heads.heads ∷ []) ∙ ap (λ (n : ℕ). n + 1) c.loop-number.invariant.4,
    )

pub returns-clause-ok : goal.returns-clause-ok
returns-clause-ok g c clean =
    scans-all (g.D.Device.drive c.args.device.now) c.loop-number.scanned.items c.loop-number.seen.keys c.loop-number.number (omega (arith, c.loop-number-test.false, c.requires.zones.count)) (c.loop-number.invariant.1 clean)

pub returns-clause-kept : goal.returns-clause-kept
returns-clause-kept g c = c.loop-number.invariant.0

pub returns-in_err-heads-clause-completed : goal.returns-in_err-heads-clause-completed
returns-in_err-heads-clause-completed g c =
    let more = blocks-more (g.D.Device.drive c.args.device.now) (g.D.Device.drive c.loop-number.device) (g.D.Device.drive c.scan_zone.new.device) c.args.zones.now c.loop-number.number _ c.loop-number-test.true c.loop-number.invariant.3 c.scan_zone.ensures.completed in
    omega (arith, more, blocks-within c.args.zones.now (c.loop-number.number + 1))

pub returns-then-is_err-clause-completed : goal.returns-then-is_err-clause-completed
returns-then-is_err-clause-completed g c =
    let more = blocks-more (g.D.Device.drive c.args.device.now) (g.D.Device.drive c.loop-number.device) (g.D.Device.drive c.scan_zone.new.device) c.args.zones.now c.loop-number.number _ c.loop-number-test.true c.loop-number.invariant.3 c.scan_zone.ensures.completed in
    omega (arith, more, blocks-within c.args.zones.now (c.loop-number.number + 1))

pub returns-clause-reads : goal.returns-clause-reads
returns-clause-reads g c = omega (arith, blocks-within c.args.zones.now c.loop-number.number, c.loop-number.invariant.2)

pub returns-clause-completed : goal.returns-clause-completed
returns-clause-completed g c = omega (arith, blocks-within c.args.zones.now c.loop-number.number, c.loop-number.invariant.3)

pub returns-clause-count : goal.returns-clause-count
returns-clause-count g c = omega (arith, c.loop-number.invariant.4, c.loop-number-test.false, c.loop-number.far-number)
