use Rattle.drive_survey.proofs.RecordHoldLaws.{some-own}
use Rattle.drive_survey.proofs.clearing.block_records.note_zone.Goals as goal

pub returns-in-Some-clause-noted : goal.returns-in-Some-clause-noted
returns-in-Some-clause-noted c =
    (c.in-Some.own.now.items, some-own c.args.table.now c.args.zone c.args.heads.now c.in-Some.own.now c.in-Some.ensures.value c.requires.kept, rw c.deref.ensures.value at c.in_ok-note_each.ensures)

pub returns-clause-noted : goal.returns-clause-noted
returns-clause-noted c = (c.in_ok-own.own.items, c.in_ok-own.ensures.newest, rw c.deref-2.ensures.value at c.in_ok-note_each-2.ensures)
