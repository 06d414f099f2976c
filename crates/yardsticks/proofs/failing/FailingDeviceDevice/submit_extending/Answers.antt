use Rattle.std.proofs.Common.{refl, true}
use Rattle.drive_port.proofs.CallLaws.{adds-also, adds-nothing}
use Rattle.yardsticks.proofs.FailingLaws.{fails-here, lawful-failed, passed-on}
use Rattle.yardsticks.proofs.failing.FailingDeviceDevice.submit_extending.Goals as goal

pub returns-then-fails_at-clause-gives : goal.returns-then-fails_at-clause-gives
returns-then-fails_at-clause-gives g c =
    rw c.fails_at.ensures.device (adds-nothing _ _ (refl, fails-here (g.D.Device.drive c.args.self.now.device) c.args.self.now.failed (c.fails_at.ensures.running c.if-fails_at.true)))

pub returns-clause-gives : goal.returns-clause-gives
returns-clause-gives g c =
    rw (← c.fails_at.ensures.device, ← c.fails_at.ensures.failed) (adds-also _ _ _ _ (λ returned. passed-on _ _ c.fails_at.new.self.failed _ _ _ returned) c.submit_extending.ensures.gives)

pub returns-then-fails_at-clause-was_lawful : goal.returns-then-fails_at-clause-was_lawful
returns-then-fails_at-clause-was_lawful g c = lawful-failed (g.D.Device.drive c.args.self.now.device) c.args.self.now.failed c.fails_at.ensures.lawful

pub returns-then-fails_at-clause-lawful : goal.returns-then-fails_at-clause-lawful
returns-then-fails_at-clause-lawful g c = rw c.fails_at.ensures.device (lawful-failed (g.D.Device.drive c.args.self.now.device) true c.fails_at.ensures.lawful)
