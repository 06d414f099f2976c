use Rattle.drive_journal.proofs.CutLaws.{cut-rest, cut-text}
use Rattle.drive_journal.proofs.laws.cut_anywhere.Goals as goal

pub returns-clause-text : goal.returns-clause-text
returns-clause-text c = cut-text

pub returns-clause-cut_off : goal.returns-clause-cut_off
returns-clause-cut_off c = cut-rest
