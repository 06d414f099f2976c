use Rattle.std.proofs.Common.{sym, ◌∙◌}
use Rattle.disk_files.proofs.ReadingLaws.{feed_ahead}
use Rattle.disk_files.proofs.line_reader.LineReader.has_line.Goals as goal

pub returns : goal.returns
returns g c = λ yes. rw (← c.self.view_is) (feed_ahead c.self.inside.ahead.bytes (g.R.Read.remaining c.self.inside.reader) (sym c.has_line.ensures ∙ yes))
