use Rattle.drive_journal.proofs.ForeseenLaws.{answered-codes}
use Rattle.drive_journal.proofs.foreseeing.DriveForeseeing.answer.Goals as goal

pub returns-clause-as_foreseen : goal.returns-clause-as_foreseen
returns-clause-as_foreseen c = answered-codes c.args.self.now c.answer.new.self c.args.entry.now c.args.bytes.now c.args.into.now.items c.answer.new.into.items c.answer.result c.answer.ensures.choice
