use Rattle.drive_journal.proofs.DamageLaws.{damage-told, unread}
use Rattle.drive_journal.proofs.laws.damage_is_refused.Goals as goal

pub returns-clause-unread : goal.returns-clause-unread
returns-clause-unread c = λ bytes drive whole sum damaged is. unread bytes damaged drive whole sum is

pub returns-clause-fault : goal.returns-clause-fault
returns-clause-fault c = λ bytes fault damaged. damage-told bytes damaged fault
