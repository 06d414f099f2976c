use Rattle.drive_survey.proofs.WaitingLaws.{all-wait}
use Rattle.drive_survey.proofs.clearing.Candidates.new.Goals as goal

pub returns-clause-are : goal.returns-clause-are
returns-clause-are c = λ drive n logs known. record { known = known; records = c.in_ok-records.ensures.holds drive n logs known; covers = c.in_ok-records.ensures.covers drive n logs known; sizes = c.new.ensures }

pub returns-clause-wait : goal.returns-clause-wait
returns-clause-wait c = λ drive n logs known zone lt. all-wait c.in_ok-waiting.waiting drive.geometry.block n logs zone ((rw c.deref.ensures.value at c.in_ok-waiting.ensures) logs known.heads zone)
