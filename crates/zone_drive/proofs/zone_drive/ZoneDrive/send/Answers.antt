use Rattle.zone_drive.proofs.OutcomeLaws.{gives-all}
use Rattle.zone_drive.proofs.zone_drive.ZoneDrive.send.Goals as goal

pub returns-then-all-clause-ok : goal.returns-then-all-clause-ok
returns-then-all-clause-ok g c = λ bytes. rw (c.done.ensures, c.if-all.true) (gives-all c.args.self.now.drive c.send_to_all.new.self.drive c.args.slba c.args.action bytes c.in_ok-send_to_all.ensures.ok)
