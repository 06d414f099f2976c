use Rattle.std.proofs.Common.{◌≡◌, ◌∙◌, false, true, ap, subst}
use Rattle.zone_states.specs.declared.geometry.Geometry.{Geometry}
use Rattle.batch_log.specs.Log.{Batch, batch_size}
use Rattle.drive_survey.specs.Heads.{with_heading}
use Rattle.remount.specs.Moving.{CanCopy, TakesFirst, TakesSome, source_of}
use Rattle.remount.proofs.CallLaws.{mountable-both, on-either, on-ok, shut-mountable, zones-shut}
use Rattle.drive_survey.proofs.NextLaws.{if-fault}
use Rattle.remount.proofs.EmptyLaws.{stays-both}
use Rattle.remount.proofs.MakingLaws.{can-build, can-push, move-ready, safe-build, safe-takeable}
use Rattle.remount.proofs.MovingLaws.{at-next, at-stop, moving-mounts}
use Rattle.zone_choice.proofs.ChangeLaws.{large-block}
use Rattle.remount.proofs.repair.moves.make_move.Goals as goal

pub build_move-requires : goal.build_move-requires
build_move-requires g c =
    let old = g.D.Device.drive c.args.device.now in
    let s = safe-build old.geometry c.args.tables.now (source_of old c.args.tables.now c.args.plan.now.torn) c.args.plan.now c.args.number c.requires.safe c.requires.few in
    record { most = s.most; few = c.requires.few; last = s.last; named = s.named; range = c.requires.safe.range; heading = s.heading }

pub returns-in_err-build_move-clause-err : goal.returns-in_err-build_move-clause-err
returns-in_err-build_move-clause-err g c = λ n start clean a.
    let can = can-build n start (g.D.Device.drive c.args.device.now) c.args.tables.now c.args.plan.now c.args.number c.args.moves.now.heads a c.requires.few in
    if-fault c.from_residual.result c.in_err-build_move.field-0.0 _ c.from_residual.ensures.1 (c.in_err-build_move.ensures.err (record { known = can.known; places = can.places }))

pub returns-in_err-build_move-clause-kept : goal.returns-in_err-build_move-clause-kept
returns-in_err-build_move-clause-kept g c = λ n start clean a.
    let can = can-build n start (g.D.Device.drive c.args.device.now) c.args.tables.now c.args.plan.now c.args.number c.args.moves.now.heads a c.requires.few in
    let kept = c.build_move.ensures.kept (record { known = can.known; places = can.places }) in
    mountable-both n start (g.D.Device.drive c.args.device.now) (g.D.Device.drive c.build_move.new.device) (moving-mounts n start (g.D.Device.drive c.args.device.now) _ _ _ a.moving) (shut-mountable n _ _ (zones-shut _ _ kept))

pub returns-then-not-can_push-clause-err : goal.returns-then-not-can_push-clause-err
returns-then-not-can_push-clause-err g c = λ n start clean a.
    let old = g.D.Device.drive c.args.device.now in
    let now = g.D.Device.drive c.build_move.new.device in
    let can = can-build n start old c.args.tables.now c.args.plan.now c.args.number c.args.moves.now.heads a c.requires.few in
    let copy : CanCopy old c.args.tables.now c.args.plan.now c.args.number = record { known = can.known; places = can.places } in
    let kept = c.build_move.ensures.kept copy in
    let ready = move-ready n start old now c.args.tables.now c.args.plan.now c.args.number c.args.moves.now.heads c.build_move.new.next.batch a c.requires.few kept (c.in_ok-build_move.ensures.built clean copy) in
    let push = can-push n start now c.args.tables.now c.args.plan.now c.args.number c.args.moves.now.heads c.build_move.new.next.batch ready c.requires.few in
    absurd (let bad : false ≡ true = rw c.if-not-can_push.true at (c.can_push.ensures.no push.few push.short) in cc)

pub returns-then-not-can_push-clause-kept : goal.returns-then-not-can_push-clause-kept
returns-then-not-can_push-clause-kept g c = λ n start clean a.
    let old = g.D.Device.drive c.args.device.now in
    let now = g.D.Device.drive c.build_move.new.device in
    let can = can-build n start old c.args.tables.now c.args.plan.now c.args.number c.args.moves.now.heads a c.requires.few in
    let copy : CanCopy old c.args.tables.now c.args.plan.now c.args.number = record { known = can.known; places = can.places } in
    let kept = c.build_move.ensures.kept copy in
    let ready = move-ready n start old now c.args.tables.now c.args.plan.now c.args.number c.args.moves.now.heads c.build_move.new.next.batch a c.requires.few kept (c.in_ok-build_move.ensures.built clean copy) in
    mountable-both n start old now (moving-mounts n start old _ _ _ a.moving) (shut-mountable n _ _ (zones-shut _ _ kept))

pub returns-in_err-push_built-clause-kept : goal.returns-in_err-push_built-clause-kept
returns-in_err-push_built-clause-kept g c = λ n start clean a.
    let old = g.D.Device.drive c.args.device.now in
    let now = g.D.Device.drive c.build_move.new.device in
    let can = can-build n start old c.args.tables.now c.args.plan.now c.args.number c.args.moves.now.heads a c.requires.few in
    let copy : CanCopy old c.args.tables.now c.args.plan.now c.args.number = record { known = can.known; places = can.places } in
    let kept = c.build_move.ensures.kept copy in
    let ready = move-ready n start old now c.args.tables.now c.args.plan.now c.args.number c.args.moves.now.heads c.build_move.new.next.batch a c.requires.few kept (c.in_ok-build_move.ensures.built clean copy) in
    mountable-both n start old now (moving-mounts n start old _ _ _ a.moving) (shut-mountable n _ _ (zones-shut _ _ kept))

pub push_built-requires : goal.push_built-requires
push_built-requires g c =
    let old = g.D.Device.drive c.args.device.now in
    let t = safe-takeable old.geometry c.args.tables.now (source_of old c.args.tables.now c.args.plan.now.torn) c.args.plan.now c.args.number c.build_move.new.next.batch c.requires.safe c.requires.few c.in_ok-build_move.ensures.shaped in
    let same = ap (λ (x : Geometry). x.block) (c.geometry-block_bytes.ensures.value ∙ c.build_move.ensures.stays.geometry) in
    let yes = c.can_push.ensures.yes c.if-not-can_push.false in
    record { block = rw same (large-block old.geometry t.range); heading = rw same t.heading; built = rw same t.whole; few = yes.0; short = yes.1 }

pub append_move-requires : goal.append_move-requires
append_move-requires g c =
    let old = g.D.Device.drive c.args.device.now in
    let now = g.D.Device.drive c.build_move.new.device in
    let t = safe-takeable old.geometry c.args.tables.now (source_of old c.args.tables.now c.args.plan.now.torn) c.args.plan.now c.args.number c.build_move.new.next.batch c.requires.safe c.requires.few c.in_ok-build_move.ensures.shaped in
    record {
      takeable = rw c.build_move.ensures.stays.geometry t;
      can = λ clean.
          let at = c.requires.at (c.build_move.ensures.stays.trusted clean) in
          let can = can-build at.0 at.1 old c.args.tables.now c.args.plan.now c.args.number c.args.moves.now.heads at.2 c.requires.few in
          let copy : CanCopy old c.args.tables.now c.args.plan.now c.args.number = record { known = can.known; places = can.places } in
          (move-ready at.0 at.1 old now c.args.tables.now c.args.plan.now c.args.number c.args.moves.now.heads c.build_move.new.next.batch at.2 c.requires.few (c.build_move.ensures.kept copy) (c.in_ok-build_move.ensures.built clean copy)).can;
    }

pub returns-clause-ok : goal.returns-clause-ok
returns-clause-ok g c = λ n start clean a.
    let old = g.D.Device.drive c.args.device.now in
    let now = g.D.Device.drive c.build_move.new.device in
    let can = can-build n start old c.args.tables.now c.args.plan.now c.args.number c.args.moves.now.heads a c.requires.few in
    let copy : CanCopy old c.args.tables.now c.args.plan.now c.args.number = record { known = can.known; places = can.places } in
    let kept = c.build_move.ensures.kept copy in
    let ready = move-ready n start old now c.args.tables.now c.args.plan.now c.args.number c.args.moves.now.heads c.build_move.new.next.batch a c.requires.few kept (c.in_ok-build_move.ensures.built (c.append_move.ensures.stays.trusted clean) copy) in
    let next = g.D.Device.drive c.append_move.new.device in
    on-ok c.append_move.result
    (λ taken. at-next n start now next c.args.tables.now c.args.plan.now c.args.number c.args.moves.now.heads c.push_built.new.heads ready.at c.requires.few (subst (λ (b : Batch). TakesFirst now next c.args.plan.now.into b (batch_size b)) ready.is taken)
    (c.in_ok-push_built.ensures ∙ ap (with_heading c.args.moves.now.heads) ready.heading))
    (c.append_move.ensures.ok clean)

pub returns-clause-err : goal.returns-clause-err
returns-clause-err g c = λ n start clean a. c.append_move.ensures.err clean

pub returns-clause-kept : goal.returns-clause-kept
returns-clause-kept g c = λ n start clean a.
    let old = g.D.Device.drive c.args.device.now in
    let now = g.D.Device.drive c.build_move.new.device in
    let can = can-build n start old c.args.tables.now c.args.plan.now c.args.number c.args.moves.now.heads a c.requires.few in
    let copy : CanCopy old c.args.tables.now c.args.plan.now c.args.number = record { known = can.known; places = can.places } in
    let kept = c.build_move.ensures.kept copy in
    let ready = move-ready n start old now c.args.tables.now c.args.plan.now c.args.number c.args.moves.now.heads c.build_move.new.next.batch a c.requires.few kept (c.in_ok-build_move.ensures.built (c.append_move.ensures.stays.trusted clean) copy) in
    let next = g.D.Device.drive c.append_move.new.device in
    on-either c.append_move.result
    (λ taken. moving-mounts n start next _ _ _ (at-next n start now next c.args.tables.now c.args.plan.now c.args.number c.args.moves.now.heads c.push_built.new.heads ready.at c.requires.few (subst (λ (b : Batch). TakesFirst now next c.args.plan.now.into b (batch_size b)) ready.is taken)
    (c.in_ok-push_built.ensures ∙ ap (with_heading c.args.moves.now.heads) ready.heading)).moving)
    (λ some. at-stop n start now next c.args.tables.now c.args.plan.now c.args.number c.args.moves.now.heads ready.at c.requires.few (subst (λ (b : Batch). TakesSome now next c.args.plan.now.into b) ready.is some))
    (c.append_move.ensures.ok clean) (c.append_move.ensures.left clean)

pub returns-clause-stays : goal.returns-clause-stays
returns-clause-stays g c = stays-both _ _ _ c.build_move.ensures.stays c.append_move.ensures.stays
