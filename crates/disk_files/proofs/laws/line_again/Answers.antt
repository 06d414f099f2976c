use Rattle.disk_files.proofs.ReadingLaws.{after_line-feed, first_line-feed}
use Rattle.disk_files.proofs.laws.line_again.Goals as goal

pub returns-clause-first : goal.returns-clause-first
returns-clause-first c = λ line rest none. first_line-feed line none rest

pub returns-clause-after : goal.returns-clause-after
returns-clause-after c = λ line rest none. after_line-feed line none rest
