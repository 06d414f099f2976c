use Rattle.std.proofs.Common.{rules}
use Rattle.file_drive.proofs.PartLaws.{word-held}
use Rattle.file_drive.proofs.words.put_word.Goals as goal

pub returns-clause-ok : goal.returns-clause-ok
returns-clause-ok g c = word-held (g.F.FileBytes.seen c.write_word.new.self) c.args.at c.args.word (search rules) c.in_ok-write_word.ensures.written
