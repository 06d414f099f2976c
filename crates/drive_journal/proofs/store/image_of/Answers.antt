use Rattle.std.proofs.Common.{rules}
use Rattle.drive_journal.proofs.MeaningLaws.{zones-stored}
use Rattle.drive_journal.proofs.store.image_of.Goals as goal

pub returns : goal.returns
returns c = zones-stored c.write_image.new.writer.items c.args.drive.now.state (search rules) c.image_again.ensures
