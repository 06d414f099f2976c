use Rattle.std.proofs.Common.{rules}
use Rattle.job_drives.proofs.changes_store.ChangesStoreChangeStoreDrive.append.Goals as goal

pub returns-in-Err-clause-err : goal.returns-in-Err-clause-err
returns-in-Err-clause-err g c = record { count = 0; short = search rules; appends = tt }
