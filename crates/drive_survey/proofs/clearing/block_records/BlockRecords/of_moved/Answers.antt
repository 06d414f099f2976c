use Rattle.drive_survey.proofs.RecordKnownLaws.{known-covers, known-holds}
use Rattle.drive_survey.proofs.RecordHoldLaws.{few-none, few-same, own-none}
use Rattle.drive_survey.proofs.clearing.block_records.BlockRecords.of_moved.Goals as goal

pub hold_moved-requires-clause-few : goal.hold_moved-requires-clause-few
hold_moved-requires-clause-few c = few-none _ c.new-table.result c.new-table.ensures.own

pub hold_moved-requires-clause-own : goal.hold_moved-requires-clause-own
hold_moved-requires-clause-own c = own-none _ c.new-table.result c.new-table.ensures.own

pub note_all-requires : goal.note_all-requires
note_all-requires c = record { kept = rw (c.deref.ensures.value, ← c.deref-2.ensures.value) at c.in_ok-hold_moved.ensures.own }

pub returns-clause-few : goal.returns-clause-few
returns-clause-few c = few-same _ c.hold_moved.new.table c.note_all.new.table c.in_ok-note_all.ensures.own (rw c.deref.ensures.value at c.in_ok-hold_moved.ensures.few)

pub returns-clause-covers : goal.returns-clause-covers
returns-clause-covers c = λ drive n logs.
    known-covers drive n logs c.args.survey.now c.hold_moved.new.table c.note_all.new.table (rw c.deref.ensures.value at c.in_ok-hold_moved.ensures.covers) c.in_ok-note_all.ensures.more c.in_ok-note_all.ensures.own

pub returns-clause-holds : goal.returns-clause-holds
returns-clause-holds c = λ drive n logs.
    known-holds drive n logs c.args.survey.now c.hold_moved.new.table c.note_all.new.table c.in_ok-hold_moved.ensures.none (rw c.deref-2.ensures.value at c.in_ok-note_all.ensures.noted)
