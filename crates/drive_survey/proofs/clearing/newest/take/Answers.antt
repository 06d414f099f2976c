use Rattle.std.proofs.Common.{sym}
use Rattle.drive_survey.proofs.NewestRecordLaws.{put-again, put-first}
use Rattle.drive_survey.proofs.clearing.newest.take.Goals as goal

pub returns-in_default : goal.returns-in_default
returns-in_default c = λ all k. put-first all c.args.found c.args.newest.now c.push.new.self c.insert.new.self (sym c.in_default.ensures.value) (rw (c.len.ensures, c.args.newest.now.records.ok.0) at c.in_ok-insert.ensures.updates.0) c.in_ok-push.ensures.items k

pub returns : goal.returns
returns c = λ all k. put-again all c.args.found c.args.newest.now c.replace_older.new.records c.in-Some.place.now c.in-Some.ensures.value c.replace_older.ensures.later c.replace_older.ensures.earlier k
