use Rattle.std.proofs.Common.{refl, ◌∙◌, arith}
use Rattle.drive_survey.specs.BlockRecords.{notes}
use Rattle.drive_survey.proofs.MovedLaws.{there}
use Rattle.drive_survey.proofs.NewestListLaws.{noted-all, noted-more, noted-none}
use Rattle.drive_survey.proofs.RecordHoldLaws.{own-kept}
use Rattle.drive_survey.proofs.RecordTableLaws.{changed-more}
use Rattle.drive_survey.proofs.clearing.block_records.note_all.Goals as goal

pub loop-number-init : goal.loop-number-init
loop-number-init c = (λ block some. some, λ few. noted-none c.args.table.now c.args.scanned.now, refl)

pub note_zone-requires : goal.note_zone-requires
note_zone-requires c = record { kept = own-kept c.args.table.now c.loop-number.table c.in-Ok.zone c.index-scanned-number.result.heads c.loop-number.invariant.2 (c.requires.kept c.in-Ok.zone c.index-scanned-number.result (rw c.in-Ok.ensures.1 (there c.args.scanned.now c.loop-number.number c.index-scanned-number.result c.loop-number-test.true c.index-scanned-number.is))) }

pub loop-number-preserved : goal.loop-number-preserved
loop-number-preserved c =
    let noted = c.in_ok-note_zone.ensures.noted in (
      λ block some. changed-more notes c.loop-number.table c.note_zone.new.table noted.0 noted.2 block (c.loop-number.invariant.0 block some),
      λ few. noted-more c.args.table.now c.loop-number.table c.note_zone.new.table c.args.scanned.now c.loop-number.number _ c.in-Ok.zone c.index-scanned-number.result noted.0 c.loop-number-test.true c.index-scanned-number.is (omega arith) c.in-Ok.ensures.1
          noted.1 noted.2 (c.loop-number.invariant.1 few),
      c.in_ok-note_zone.ensures.own ∙ c.loop-number.invariant.2,
    )

pub returns-clause-noted : goal.returns-clause-noted
returns-clause-noted c = λ few. noted-all c.args.table.now c.loop-number.table c.args.scanned.now c.loop-number.number c.loop-number-test.false (c.loop-number.invariant.1 few)
