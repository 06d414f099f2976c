use Rattle.drive_journal.proofs.store.Held.of_drive.Goals as goal

pub returns : goal.returns
returns c = rw c.new.ensures c.in_ok-image_of.ensures
