use Rattle.std.proofs.Common.{◌≡◌, ◌+◌, get_or, sym, ap, ◌∙◌, arith, ◌≤◌}
use Rattle.std.proofs.lemmas.List.{drop_all}
use Rattle.batch_log.specs.Log.{one_unless}
use Rattle.drive_survey.specs.KeptRecords.{is_kept_trim, kept_entries}
use Rattle.drive_survey.proofs.NewestRecordLaws.{at-most-one, entry-more, taken-all, taken-none}
use Rattle.drive_survey.proofs.clearing.newest.take_batch.Goals as goal
use Rattle.drive_survey.proofs.clearing.newest.take_batch.Goals.{then-not-is_trim, else-not-is_trim}

pub loop-entry-init : goal.loop-entry-init
loop-entry-init c = (taken-none c.args.newest.now _, omega arith)

pub loop-entry-preserved : goal.loop-entry-preserved
loop-entry-preserved c =
    let e = get_or c.args.entries.now c.loop-entry.entry-index 0 in
    let count : c.if-not-is_trim.before ≡ c.loop-entry.before + one_unless (is_kept_trim e) =
    elim c.if-not-is_trim.branch [
      | then-not-is_trim w ↦ omega (arith, w.before-is, ap one_unless (sym c.is_trim.ensures ∙ w.if-not-is_trim.true))
      | else-not-is_trim w ↦ omega (arith, w.before-is, ap one_unless (sym c.is_trim.ensures ∙ w.if-not-is_trim.false))
    ] in
    let few : one_unless (is_kept_trim e) ≤ 1 = at-most-one (is_kept_trim e) in (
      entry-more c.args.newest.now c.loop-entry.newest c.take.new.newest c.args.head.now.sequence c.args.zone c.args.head.now.offset c.loop-entry.before _ c.loop-entry.entry-index _ c.args.entries.now _ c.loop-entry-test.true (omega arith) count
          (rw c.entry_record.ensures at c.in_ok-take.ensures) c.loop-entry.invariant.0,
      omega (arith, count, few, c.loop-entry.invariant.1),
    )

pub returns : goal.returns
returns c =
    taken-all c.args.newest.now c.loop-entry.newest (kept_entries c.args.head.now.sequence c.args.zone c.args.head.now.offset 0 c.args.entries.now) (rw (drop_all c.loop-entry.entry-index c.args.entries.now c.loop-entry-test.false) at c.loop-entry.invariant.0)
