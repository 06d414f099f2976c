use Rattle.disk_files.proofs.RawTextLaws.{first_line-raw_reply, raw_of-raw_text}
use Rattle.disk_files.proofs.laws.raw_line_again.Goals as goal

pub returns-clause-line : goal.returns-clause-line
returns-clause-line c = λ entry bytes fits long clean. rw long at (raw_of-raw_text entry bytes fits clean)

pub returns-clause-reply : goal.returns-clause-reply
returns-clause-reply c = λ completion bytes fits long clean.
    rw (first_line-raw_reply completion bytes fits clean) (rw long at (raw_of-raw_text completion bytes fits clean))
