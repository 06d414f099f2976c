use Rattle.std.proofs.Common.{◌<◌, ◌∙◌, length, refl, sym, arith}
use Rattle.drive_survey.proofs.NextLaws.{if-fault}
use Rattle.remount.proofs.EmptyLaws.{stays-both, stays-none}
use Rattle.remount.proofs.FinishLaws.{finish-if-keeps, finish-repaired, finishes-more, finishes-none, fits-more}
use Rattle.remount.proofs.NotedLaws.{finish_if-notes}
use Rattle.remount.proofs.finish.finish_zones.Goals as goal

pub loop-zone-init : goal.loop-zone-init
loop-zone-init g c = (
  λ clean. finishes-none (g.D.Device.drive c.args.device.now) c.args.survey.now c.args.survey.now.given (c.requires.untorn clean),
  λ clean zone noted. noted,
  stays-none _ c.geometry-size.ensures.lawful,
  λ clean. record { zones = (c.requires.untorn clean).known.zones; scanned = c.requires.scanned },
  record { zones = refl; scanned = refl },
)

pub finish_if_due-requires : goal.finish_if_due-requires
finish_if_due-requires g c =
    let same = c.loop-zone.invariant.4 in
    record { range = rw c.loop-zone.invariant.2.geometry c.requires.range; in_range = omega (arith, same.zones, c.loop-zone-test.true, c.len-zone-end.ensures); scanned = same.scanned ∙ c.requires.scanned ∙ sym same.zones }

pub returns-in_err-finish_if_due-clause-err : goal.returns-in_err-finish_if_due-clause-err
returns-in_err-finish_if_due-clause-err g c = λ clean.
    let fits = c.loop-zone.invariant.3 (c.finish_if_due.ensures.stays.trusted clean) in
    if-fault c.from_residual.result c.in_err-finish_if_due.field-0.0 _ c.from_residual.ensures.1 (c.in_err-finish_if_due.ensures.err fits.zones)

pub returns-in_err-finish_if_due-clause-kept : goal.returns-in_err-finish_if_due-clause-kept
returns-in_err-finish_if_due-clause-kept g c = λ clean.
    let first = g.D.Device.drive c.args.device.now in
    let now = g.D.Device.drive c.loop-zone.device in
    let was = c.finish_if_due.ensures.stays.trusted clean in
    let can = c.requires.untorn (c.loop-zone.invariant.2.trusted was) in
    let lt : c.loop-zone.zone < length c.loop-zone.survey.zones.items = omega (arith, c.loop-zone.invariant.4.zones, c.loop-zone-test.true, c.len-zone-end.ensures) in
    finish-if-keeps first now (g.D.Device.drive c.finish_if_due.new.device) c.args.survey.now c.loop-zone.survey c.args.survey.now.given c.loop-zone.zone can (c.loop-zone.invariant.0 was) lt (c.finish_if_due.ensures.kept (c.loop-zone.invariant.3 was).zones)

pub returns-in_err-finish_if_due-clause-stays : goal.returns-in_err-finish_if_due-clause-stays
returns-in_err-finish_if_due-clause-stays g c = stays-both _ _ _ c.loop-zone.invariant.2 c.finish_if_due.ensures.stays

pub returns-in_err-finish_if_due-clause-count : goal.returns-in_err-finish_if_due-clause-count
returns-in_err-finish_if_due-clause-count g c =
    let was = c.loop-zone.invariant.4 in
    let now = c.finish_if_due.ensures.count in
    record { zones = now.zones ∙ was.zones; scanned = now.scanned ∙ was.scanned }

pub loop-zone-preserved : goal.loop-zone-preserved
loop-zone-preserved g c =
    let first = g.D.Device.drive c.args.device.now in
    let now = g.D.Device.drive c.loop-zone.device in
    let next = g.D.Device.drive c.finish_if_due.new.device in
    let lt : c.loop-zone.zone < length c.loop-zone.survey.zones.items = omega (arith, c.loop-zone.invariant.4.zones, c.loop-zone-test.true, c.len-zone-end.ensures) in
    let count = c.finish_if_due.ensures.count in (
      λ clean.
          let was = c.finish_if_due.ensures.stays.trusted clean in
          let known = (c.loop-zone.invariant.3 was).zones in
          let can = c.requires.untorn (c.loop-zone.invariant.2.trusted was) in
          let some = c.loop-zone.invariant.0 was in
          let keeps = finish-if-keeps first now next c.args.survey.now c.loop-zone.survey c.args.survey.now.given c.loop-zone.zone can some lt (c.finish_if_due.ensures.kept known) in
          finishes-more first now next c.args.survey.now c.loop-zone.survey c.finish_if_due.new.survey c.args.survey.now.given c.loop-zone.zone can some lt keeps (c.in_ok-finish_if_due.ensures.ok known),
      λ clean zone noted.
          let was = c.finish_if_due.ensures.stays.trusted clean in
          c.loop-zone.invariant.1 was zone (finish_if-notes now next c.loop-zone.survey c.finish_if_due.new.survey c.loop-zone.zone (c.in_ok-finish_if_due.ensures.ok (c.loop-zone.invariant.3 was).zones) zone noted),
      stays-both _ _ _ c.loop-zone.invariant.2 c.finish_if_due.ensures.stays,
      λ clean.
          let fits = c.loop-zone.invariant.3 (c.finish_if_due.ensures.stays.trusted clean) in
          (fits-more now next c.loop-zone.survey c.finish_if_due.new.survey c.loop-zone.zone fits (c.in_ok-finish_if_due.ensures.ok fits.zones)).0,
      record { zones = count.zones ∙ c.loop-zone.invariant.4.zones; scanned = count.scanned ∙ c.loop-zone.invariant.4.scanned },
    )

pub returns-clause-repaired : goal.returns-clause-repaired
returns-clause-repaired g c = λ clean.
    let first = g.D.Device.drive c.args.device.now in
    let now = g.D.Device.drive c.loop-zone.device in
    finish-repaired first now c.args.survey.now c.loop-zone.survey c.args.survey.now.given c.loop-zone.zone (c.requires.untorn (c.loop-zone.invariant.2.trusted clean)) (c.loop-zone.invariant.0 clean) (omega (arith, c.loop-zone.invariant.4.zones, c.loop-zone-test.false, c.len-zone-end.ensures))

pub returns-clause-needed : goal.returns-clause-needed
returns-clause-needed g c = λ clean. (c.loop-zone.invariant.0 clean).needed

pub returns-clause-logs : goal.returns-clause-logs
returns-clause-logs g c = λ clean. (c.loop-zone.invariant.0 clean).logs

pub returns-clause-kept : goal.returns-clause-kept
returns-clause-kept g c = λ clean. (c.loop-zone.invariant.0 clean).keeps

pub returns-clause-noted : goal.returns-clause-noted
returns-clause-noted g c = c.loop-zone.invariant.1

pub returns-clause-stays : goal.returns-clause-stays
returns-clause-stays g c = c.loop-zone.invariant.2

pub returns-clause-count : goal.returns-clause-count
returns-clause-count g c = c.loop-zone.invariant.4

pub overflow_cast-zone : goal.overflow_cast-zone
overflow_cast-zone g c = omega (arith, c.loop-zone-test.true, c.len-zone-end.ensures, c.requires.long, c.requires.range.zones)
