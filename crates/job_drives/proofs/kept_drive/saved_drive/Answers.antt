use Rattle.job_drives.proofs.kept_drive.saved_drive.Goals as goal

pub returns-clause-ok : goal.returns-clause-ok
returns-clause-ok g c = record { whole = c.in_ok-open_drive.field-0.whole; sum = c.in_ok-open_drive.field-0.sum; is_file = c.in_ok-open_drive.ensures.ok }
