use Rattle.std.proofs.Common.{Some, rules}
use Rattle.job_drives.proofs.new_file.folder.Goals as goal

pub returns-in-Some-eq0 : goal.returns-in-Some-eq0
returns-in-Some-eq0 c = record { slash = Some (c.in-Some-eq0.field-0, c.in-Some-eq0.ensures.cases.0); is_last = c.in-Some-eq0.ensures.cases.1; folder_is = search rules }

pub returns-in-Some : goal.returns-in-Some
returns-in-Some c = record { slash = Some (c.in-Some.end, c.in-Some.ensures.cases.0); is_last = c.in-Some.ensures.cases.1; folder_is = search rules }
