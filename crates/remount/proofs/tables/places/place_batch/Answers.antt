use Rattle.std.proofs.Common.{◌≡◌, ◌+◌, ◌≤◌, get_or, sym, ap, refl, ◌∙◌, arith}
use Rattle.std.proofs.lemmas.List.{drop_all}
use Rattle.batch_log.specs.Log.{one_unless}
use Rattle.drive_survey.specs.KeptRecords.{is_kept_trim}
use Rattle.drive_survey.proofs.NewestRecordLaws.{at-most-one}
use Rattle.remount.proofs.PlacingLaws.{both-kept, entry-placed, so-far-all, so-far-none}
use Rattle.remount.proofs.tables.places.place_batch.Goals as goal
use Rattle.remount.proofs.tables.places.place_batch.Goals.{then-not-is_trim, else-not-is_trim}

pub loop-entry-init : goal.loop-entry-init
loop-entry-init c = (so-far-none c.args.zone_size c.args.batch.now.head.sequence c.args.tables.now.map.places _, record { size = refl; zones = refl; zone_size = refl; given = refl; unreadable = refl }, omega arith)

pub loop-entry-preserved : goal.loop-entry-preserved
loop-entry-preserved c =
    let e = get_or c.args.entries.now c.loop-entry.entry-index 0 in
    let count : c.if-not-is_trim.before ≡ c.loop-entry.before + one_unless (is_kept_trim e) =
    elim c.if-not-is_trim.branch [
      | then-not-is_trim w ↦ omega (arith, w.before-is, ap one_unless (sym c.is_trim.ensures ∙ w.if-not-is_trim.true))
      | else-not-is_trim w ↦ omega (arith, w.before-is, ap one_unless (sym c.is_trim.ensures ∙ w.if-not-is_trim.false))
    ] in
    let few : one_unless (is_kept_trim e) ≤ 1 = at-most-one (is_kept_trim e) in (
      entry-placed c.args.zone_size c.args.batch.now.head.sequence c.args.batch.now.zone c.args.batch.now.head.offset c.loop-entry.before _ c.loop-entry.entry-index _ c.args.entries.now c.args.tables.now.map.places c.loop-entry.tables.map.places c.place_record.new.tables.map.places _
          c.loop-entry-test.true (omega arith) count (rw c.entry_record-found.ensures at c.in_ok-place_record.ensures.places) c.loop-entry.invariant.0,
      both-kept _ _ _ c.loop-entry.invariant.1 c.place_record.ensures.kept,
      omega (arith, count, few, c.loop-entry.invariant.2),
    )

pub returns-clause-places : goal.returns-clause-places
returns-clause-places c =
    so-far-all c.args.zone_size c.args.batch.now.head.sequence c.args.tables.now.map.places c.loop-entry.tables.map.places _ (rw (drop_all c.loop-entry.entry-index c.args.entries.now c.loop-entry-test.false) at c.loop-entry.invariant.0)
