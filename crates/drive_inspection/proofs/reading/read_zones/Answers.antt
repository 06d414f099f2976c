use Rattle.std.proofs.Common.{◌≡◌, ◌++◌, [], ◌∷◌, refl}
use Rattle.drive_survey.proofs.ReadLaws.{keeps-both, keeps-none}
use Rattle.drive_survey.proofs.AllScanLaws.{there-is}
use Rattle.drive_inspection.proofs.CheckLaws.{each-none, one-more, reads-more, tells-more, told-at}
use Rattle.drive_inspection.proofs.reading.read_zones.Goals as goal

pub loop-number-init : goal.loop-number-init
loop-number-init g c = rw c.new-reads.ensures.items (record { kept = keeps-none _ c.requires.zones.lawful; count = refl; tell = tt; each = λ clean. each-none (g.D.Device.drive c.args.device.now) (g.D.Device.drive c.args.device.now) })

pub read_zone-requires : goal.read_zone-requires
read_zone-requires g c =
    record { zone = told-at (g.D.Device.drive c.args.device.now) _ c.args.zones.now c.loop-number.number _ c.requires.zones c.loop-number.invariant.kept (there-is c.args.zones.now c.loop-number.number _ c.loop-number-test.true) }

pub returns-in_err-read-clause-kept : goal.returns-in_err-read-clause-kept
returns-in_err-read-clause-kept g c = keeps-both _ _ _ c.loop-number.invariant.kept c.read_zone.ensures.kept

pub returns-then-is_err-clause-kept : goal.returns-then-is_err-clause-kept
returns-then-is_err-clause-kept g c = keeps-both _ _ _ c.loop-number.invariant.kept c.read_zone.ensures.kept

pub loop-number-preserved : goal.loop-number-preserved
loop-number-preserved g c =
    let pushed : c.push.new.self.items ≡ c.loop-number.reads.items ++ c.in_ok-read.read ∷ [] = rw c.if-is_err.ensures.negation at c.push.ensures.items in
    record {
      kept = keeps-both _ _ _ c.loop-number.invariant.kept c.read_zone.ensures.kept;
      count = one-more c.loop-number.reads.items c.push.new.self.items c.in_ok-read.read c.loop-number.number c.loop-number.invariant.count pushed;
      tell = rw pushed (tells-more c.loop-number.reads.items c.in_ok-read.read c.loop-number.invariant.tell c.in_ok-read.ensures.tells);
      each = λ clean. reads-more (g.D.Device.drive c.args.device.now) (g.D.Device.drive c.loop-number.device) (g.D.Device.drive c.read_zone.new.device) c.loop-number.reads.items c.push.new.self.items c.in_ok-read.read c.loop-number.number c.loop-number.invariant.kept c.read_zone.ensures.kept c.loop-number.invariant.count pushed (c.loop-number.invariant.each (c.read_zone.ensures.kept.trusted clean)) (c.in_ok-read.ensures.ok clean);
    }
