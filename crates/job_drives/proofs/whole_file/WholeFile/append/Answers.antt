use Rattle.std.proofs.Common.{◌∙◌, rules}
use Rattle.job_drives.proofs.BackingLaws.{appended-within, front-kept, if-err}
use Rattle.job_drives.proofs.whole_file.WholeFile.append.Goals as goal

pub returns-in_err-append-clause-whole : goal.returns-in_err-append-clause-whole
returns-in_err-append-clause-whole g c =
    rw c.in_err-append.ensures.1
    (record { within = appended-within _ _ _ c.begin.ensures.whole.within; synced = search rules })

pub returns-in_err-append-clause-err : goal.returns-in_err-append-clause-err
returns-in_err-append-clause-err g c =
    if-err _ _ (front-kept _ _ _ _ c.begin.ensures.whole.within c.in_err-append.ensures.1 ∙ c.begin.ensures.bytes)
