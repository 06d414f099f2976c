use Rattle.std.proofs.Common.{refl, ◌∙◌, arith}
use Rattle.remount.proofs.CallLaws.{mountable-both, settles-more, settles-none}
use Rattle.remount.proofs.BeginLaws.{cleared-kept}
use Rattle.remount.proofs.EmptyLaws.{stays-both, stays-none}
use Rattle.remount.proofs.repair.beside.finish_beside.Goals as goal

pub loop-zone-init : goal.loop-zone-init
loop-zone-init g c = (
  λ clean. settles-none c.args.survey.now.given c.args.torn (g.D.Device.drive c.args.device.now) c.args.survey.now (c.requires.cleared clean).known (c.requires.cleared clean).empty (c.requires.torn clean),
  λ zone noted. noted,
  record { fits = c.requires.fits; count = refl },
  stays-none _ c.requires.fits.zones.lawful,
)

pub finish_other-requires : goal.finish_other-requires
finish_other-requires g c =
    let was = c.loop-zone.invariant in
    record {
      fits = was.2.fits;
      in_range = omega (arith, was.2.count, c.loop-zone-test.true, c.len-zone-end.ensures);
      known = λ clean. (c.args.survey.now.given, (was.0 clean).known);
      vacant = λ clean. (was.0 clean).vacant;
      torn = λ clean. (was.0 clean).only;
    }

pub returns-in_err-finish_other-clause-kept : goal.returns-in_err-finish_other-clause-kept
returns-in_err-finish_other-clause-kept g c = λ clean.
    let was = c.loop-zone.invariant.0 (c.finish_other.ensures.stays.trusted clean) in
    mountable-both c.args.survey.now.given (g.D.Device.drive c.args.device.now) (g.D.Device.drive c.loop-zone.device) (g.D.Device.drive c.finish_other.new.device) was.kept (c.finish_other.ensures.kept clean c.args.survey.now.given)

pub returns-in_err-finish_other-clause-stays : goal.returns-in_err-finish_other-clause-stays
returns-in_err-finish_other-clause-stays g c = stays-both _ _ _ c.loop-zone.invariant.3 c.finish_other.ensures.stays

pub loop-zone-preserved : goal.loop-zone-preserved
loop-zone-preserved g c =
    let was = c.loop-zone.invariant in
    let now = c.in_ok-finish_other.ensures in (
      λ clean.
          let s = was.0 (c.finish_other.ensures.stays.trusted clean) in
          settles-more c.args.survey.now.given c.args.torn (g.D.Device.drive c.args.device.now) (g.D.Device.drive c.loop-zone.device) (g.D.Device.drive c.finish_other.new.device) c.args.survey.now c.loop-zone.survey c.finish_other.new.survey c.loop-zone.zone s (now.ok clean c.args.survey.now.given s.known) (c.finish_other.ensures.kept clean c.args.survey.now.given),
      λ zone noted. was.1 zone (now.noted zone noted),
      record { fits = now.fits.fits; count = now.fits.count ∙ was.2.count },
      stays-both _ _ _ was.3 c.finish_other.ensures.stays,
    )

pub returns-clause-fits : goal.returns-clause-fits
returns-clause-fits g c = c.loop-zone.invariant.2

pub returns-clause-cleared : goal.returns-clause-cleared
returns-clause-cleared g c = λ clean.
    let old = g.D.Device.drive c.args.device.now in
    let new = g.D.Device.drive c.loop-zone.device in
    let s = c.loop-zone.invariant.0 clean in
    let cleared = c.requires.cleared (c.loop-zone.invariant.3.trusted clean) in
    record { known = s.known; mountable = s.kept.mountable cleared.mountable; none = cleared-kept c.args.survey.now.given old new cleared.mountable.lawful s.kept s.logs cleared.none; empty = s.vacant }

pub returns-clause-left : goal.returns-clause-left
returns-clause-left g c = λ clean.
    let s = c.loop-zone.invariant.0 clean in
    record {
      logs = s.logs;
      tails = s.tails;
      settled = λ zone lt ne. s.settled zone (omega (arith, lt, s.count, s.known.zones.count, c.loop-zone-test.false, c.len-zone-end.ensures)) ne;
      others = λ zone lt ne. s.done zone (omega (arith, lt, s.count, s.known.zones.count, c.loop-zone-test.false, c.len-zone-end.ensures)) ne;
      opens = s.opens;
    }

pub returns-clause-noted : goal.returns-clause-noted
returns-clause-noted g c = c.loop-zone.invariant.1

pub returns-clause-kept : goal.returns-clause-kept
returns-clause-kept g c = λ clean. (c.loop-zone.invariant.0 clean).kept

pub returns-clause-stays : goal.returns-clause-stays
returns-clause-stays g c = c.loop-zone.invariant.3
