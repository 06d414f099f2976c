use Rattle.drive_journal.proofs.FileLaws.{no-drive}
use Rattle.drive_journal.proofs.file.make_drive.Goals as goal

pub returns-in-Err-clause-none : goal.returns-in-Err-clause-none
returns-in-Err-clause-none c = no-drive c.args.geometry c.args.zones.items _ c.requires.in_range c.requires.whole c.in-Err.ensures.err
