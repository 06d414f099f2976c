use Rattle.std.proofs.Common.{sym, ◌∙◌}
use Rattle.drive_survey.proofs.RecordKnownLaws.{covers-one, known-holds, scanned-at}
use Rattle.drive_survey.proofs.RecordHoldLaws.{few-more, few-none, few-same, others-own, own-more, own-none}
use Rattle.drive_survey.proofs.clearing.block_records.BlockRecords.of_zone.Goals as goal

pub returns-in_default-clause-few : goal.returns-in_default-clause-few
returns-in_default-clause-few c = few-none _ c.new-table.result c.new-table.ensures.own

pub note_all-requires : goal.note_all-requires
note_all-requires c =
    record {
      kept = rw c.deref-2.ensures.value (own-more c.args.survey.now.scanned.items c.args.zone c.in-Some.found.now c.new-table.result c.hold_zone.new.table
          (scanned-at c.deref.result.now c.args.survey.now c.args.zone c.in-Some.found.now c.deref.ensures.value c.in-Some.ensures.lookup.3.0 c.in-Some.ensures.lookup.1)
          c.in_ok-hold_zone.ensures.covers c.in_ok-hold_zone.ensures.others (own-none _ c.new-table.result c.new-table.ensures.own));
    }

pub returns-clause-few : goal.returns-clause-few
returns-clause-few c =
    few-same _ c.hold_zone.new.table c.note_all.new.table c.in_ok-note_all.ensures.own
    (few-more c.args.survey.now.scanned.items c.args.zone c.in-Some.found.now c.new-table.result c.hold_zone.new.table
    (scanned-at c.deref.result.now c.args.survey.now c.args.zone c.in-Some.found.now c.deref.ensures.value c.in-Some.ensures.lookup.3.0 c.in-Some.ensures.lookup.1)
    c.in_ok-hold_zone.ensures.few (others-own c.new-table.result c.hold_zone.new.table c.args.zone c.in_ok-hold_zone.ensures.others) (few-none _ c.new-table.result c.new-table.ensures.own))

pub returns-clause-covers : goal.returns-clause-covers
returns-clause-covers c =
    covers-one c.args.survey.now c.args.zone c.in-Some.found.now c.hold_zone.new.table c.note_all.new.table
    (scanned-at c.deref.result.now c.args.survey.now c.args.zone c.in-Some.found.now c.deref.ensures.value c.in-Some.ensures.lookup.3.0 c.in-Some.ensures.lookup.1) c.in_ok-hold_zone.ensures.covers c.in_ok-note_all.ensures.more c.in_ok-note_all.ensures.own

pub returns-clause-holds : goal.returns-clause-holds
returns-clause-holds c = λ drive n logs.
    known-holds drive n logs c.args.survey.now c.hold_zone.new.table c.note_all.new.table c.in_ok-hold_zone.ensures.none (rw c.deref-2.ensures.value at c.in_ok-note_all.ensures.noted)

pub returns-in_default-clause-holds : goal.returns-in_default-clause-holds
returns-in_default-clause-holds c drive n logs known block held there = absurd (let bad = sym (c.new-table.ensures.held block) ∙ there in cc)
