use Rattle.drive_journal.proofs.journaling.JournalingHonest.vouch.Goals as goal

pub returns : goal.returns
returns g c = rw (← c.self.view_is) c.vouch.ensures
