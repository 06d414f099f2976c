use Rattle.std.proofs.Common.{◌≡◌, ◌∙◌, ap, refl, subst, sym, None, Ok, Err, false}
use Rattle.drive_port.specs.Calls.{data_blocks}
use Rattle.zone_states.proofs.Cutting.{length-cut}
use Rattle.nbd_session.specs.Pending.{pieces}
use Rattle.nbd_session.specs.Store.{store_flat}
use Rattle.zone_translator.specs.Answers.{count_of_blocks}
use Rattle.zone_translator.specs.Flat.{known_range}
use Rattle.volatile_cache.specs.Cache.{Applies, Cache, Keeps}
use Rattle.volatile_cache.proofs.ApplyLaws.{applies_again, kept_after, known_none, on_ok, on_refused, write_failed, write_passed, write_sent}
use Rattle.std.specs.Prelude.{IsTrue}
use Rattle.nbd_session.proofs.AnywayLaws.{calls_join}
use Rattle.volatile_cache.specs.Queue.{all_pending}
use Rattle.volatile_cache.proofs.StayLaws.{calls_cached, stays_are_of}
use Rattle.volatile_cache.proofs.as_store.VolatileCacheStore.write.Goals.{else-has_room-via-then-has_room+else-is_ok, else-has_room-via-else-has_room}
use Rattle.volatile_cache.proofs.as_store.VolatileCacheStore.write.Goals as goal

pub invariant_of-self : goal.invariant_of-self
invariant_of-self g c = (
  stays_are_of (g.S.Store.view c.self.inside.store) (g.S.Store.view c.write.new.self) c.self.inside.queue c.write.ensures.stays.stays c.self.invariant.0,
  c.self.invariant.1,
)

pub returns-then-is_known-clause-writes : goal.returns-then-is_known-clause-writes
returns-then-is_known-clause-writes g c = λ clean.
    let disk = (g.S.Store.view c.self.inside.store).disk in
    let size : c.from.result ≡ disk.drive.geometry.block = c.from.ensures ∙ c.block_bytes.ensures.size in
    let known = rw (size, ← c.self.view_is) at (sym c.is_known.ensures ∙ c.if-is_known.true) in
    rw (← c.self.view_is)
    (write_passed g.S.Store.view (record { store = c.self.inside.store; kept = c.self.inside.queue; most = c.self.inside.most }) (record { store = c.write.new.self; kept = c.self.inside.queue; most = c.self.inside.most })
    false c.args.first (count_of_blocks disk c.args.bytes.now) (data_blocks disk.drive.geometry c.args.bytes.now) c.write.result (length-cut disk.drive.geometry.block (count_of_blocks disk c.args.bytes.now) c.args.bytes.now) known (c.write.ensures.writes clean) refl)

pub returns-in-Err-clause-writes : goal.returns-in-Err-clause-writes
returns-in-Err-clause-writes g c = λ clean.
    let disk = (g.S.Store.view c.args.self.now.store).disk in
    let size : c.from.result ≡ disk.drive.geometry.block = c.from.ensures ∙ (c.block_bytes.ensures.size ∙ ap (λ s. (g.S.Store.view s.store).disk.drive.geometry.block) c.self.view_is) in
    let known : known_range (store_flat (g.S.Store.view c.args.self.now.store)) c.args.first (count_of_blocks disk c.args.bytes.now) ≡ None =
    known_none (known_range (store_flat (g.S.Store.view c.args.self.now.store)) c.args.first (count_of_blocks disk c.args.bytes.now)) (rw size at (sym c.is_known.ensures ∙ c.if-is_known.false)) in
    write_failed g.S.Store.view c.args.self.now c.make_room.new.self false c.args.first (data_blocks disk.drive.geometry c.args.bytes.now) (count_of_blocks disk c.args.bytes.now) c.in-Err.fault
    (length-cut disk.drive.geometry.block (count_of_blocks disk c.args.bytes.now) c.args.bytes.now) known (rw c.in-Err.is at (c.make_room.ensures.applies clean))

pub returns-then-is_ok-clause-writes : goal.returns-then-is_ok-clause-writes
returns-then-is_ok-clause-writes g c = λ clean.
    let disk = (g.S.Store.view c.args.self.now.store).disk in
    let size : c.from.result ≡ disk.drive.geometry.block = c.from.ensures ∙ (c.block_bytes.ensures.size ∙ ap (λ s. (g.S.Store.view s.store).disk.drive.geometry.block) c.self.view_is) in
    let known : known_range (store_flat (g.S.Store.view c.args.self.now.store)) c.args.first (count_of_blocks disk c.args.bytes.now) ≡ None =
    known_none (known_range (store_flat (g.S.Store.view c.args.self.now.store)) c.args.first (count_of_blocks disk c.args.bytes.now)) (rw size at (sym c.is_known.ensures ∙ c.if-is_known.false)) in
    let kept = on_ok c.keep_bytes.result (Keeps c.make_room.new.self (pieces c.args.first (data_blocks (g.S.Store.view c.make_room.new.self.store).disk.drive.geometry c.args.bytes.now)) c.keep_bytes.new.self)
    (sym c.is_ok.ensures.value ∙ c.if-is_ok.true) c.keep_bytes.ensures.ok in
    let was : IsTrue (g.S.Store.view c.make_room.new.self.store).disk.drive.clean = rw kept.store at clean in
    let applied = rw c.in_default.is at (c.make_room.ensures.applies was) in
    kept_after g.S.Store.view c.args.self.now c.make_room.new.self c.keep_bytes.new.self false c.args.first (data_blocks disk.drive.geometry c.args.bytes.now) (count_of_blocks disk c.args.bytes.now)
    (length-cut disk.drive.geometry.block (count_of_blocks disk c.args.bytes.now) c.args.bytes.now) known applied (rw applied.0.kept.geometry at kept)

pub returns-in-Err-apply_all-clause-writes : goal.returns-in-Err-apply_all-clause-writes
returns-in-Err-apply_all-clause-writes g c = λ clean.
    let disk = (g.S.Store.view c.args.self.now.store).disk in
    let size : c.from.result ≡ disk.drive.geometry.block = c.from.ensures ∙ (c.block_bytes.ensures.size ∙ ap (λ s. (g.S.Store.view s.store).disk.drive.geometry.block) c.self.view_is) in
    let known : known_range (store_flat (g.S.Store.view c.args.self.now.store)) c.args.first (count_of_blocks disk c.args.bytes.now) ≡ None =
    known_none (known_range (store_flat (g.S.Store.view c.args.self.now.store)) c.args.first (count_of_blocks disk c.args.bytes.now)) (rw size at (sym c.is_known.ensures ∙ c.if-is_known.false)) in
    let same : c.else-has_room.self ≡ c.make_room.new.self = elim c.else-has_room.branch [
      | else-has_room-via-then-has_room+else-is_ok w ↦ w.self-is ∙ on_refused w.keep_bytes.result (w.keep_bytes.new.self ≡ c.make_room.new.self) (sym w.is_ok.ensures.value ∙ w.if-is_ok.false) w.keep_bytes.ensures.err
      | else-has_room-via-else-has_room w ↦ w.self-is
    ] in
    let was : IsTrue (g.S.Store.view c.make_room.new.self.store).disk.drive.clean = rw same at (c.apply_all.ensures.stays.stays.disk.shape.trusted clean) in
    write_failed g.S.Store.view c.args.self.now c.apply_all.new.self false c.args.first (data_blocks disk.drive.geometry c.args.bytes.now) (count_of_blocks disk c.args.bytes.now) c.in-Err-apply_all.fault
    (length-cut disk.drive.geometry.block (count_of_blocks disk c.args.bytes.now) c.args.bytes.now) known
    (applies_again g.S.Store.view c.args.self.now c.make_room.new.self c.apply_all.new.self (Err c.in-Err-apply_all.fault) (rw c.in_default.is at (c.make_room.ensures.applies was)) (subst (λ (before : Cache g.row.S.Denot). Applies g.S.Store.view before (Err c.in-Err-apply_all.fault) c.apply_all.new.self) same (rw c.in-Err-apply_all.is at (c.apply_all.ensures.applies clean))))

pub returns-clause-writes : goal.returns-clause-writes
returns-clause-writes g c = λ clean.
    let disk = (g.S.Store.view c.args.self.now.store).disk in
    let same : c.else-has_room.self ≡ c.make_room.new.self = elim c.else-has_room.branch [
      | else-has_room-via-then-has_room+else-is_ok w ↦ w.self-is ∙ on_refused w.keep_bytes.result (w.keep_bytes.new.self ≡ c.make_room.new.self) (sym w.is_ok.ensures.value ∙ w.if-is_ok.false) w.keep_bytes.ensures.err
      | else-has_room-via-else-has_room w ↦ w.self-is
    ] in
    let was : IsTrue (g.S.Store.view c.apply_all.new.self.store).disk.drive.clean = rw (← c.self-2.view_is) (c.write-2.ensures.stays.stays.disk.shape.trusted clean) in
    let before : IsTrue (g.S.Store.view c.make_room.new.self.store).disk.drive.clean = rw same at (c.apply_all.ensures.stays.stays.disk.shape.trusted was) in
    let applied = rw (← c.self-2.view_is) at (applies_again g.S.Store.view c.args.self.now c.make_room.new.self c.apply_all.new.self (Ok tt) (rw c.in_default.is at (c.make_room.ensures.applies before)) (rw same at (rw c.in_default-apply_all.is at (c.apply_all.ensures.applies was)))) in
    let none = rw (← c.self-2.view_is) at (rw c.in_default-apply_all.is at c.apply_all.ensures.none) in
    write_sent g.S.Store.view c.args.self.now (record { store = c.self-2.inside.store; kept = c.self-2.inside.queue; most = c.self-2.inside.most }) (record { store = c.write-2.new.self; kept = c.self-2.inside.queue; most = c.self-2.inside.most })
    false c.args.first (data_blocks disk.drive.geometry c.args.bytes.now) (count_of_blocks disk c.args.bytes.now) c.write-2.result applied none none (rw applied.0.kept.geometry at (c.write-2.ensures.writes clean))

-- ---- whatever the Reads returned

pub returns-then-is_known-clause-stays : goal.returns-then-is_known-clause-stays
returns-then-is_known-clause-stays g c =
    rw (← c.self.view_is) (calls_cached (g.S.Store.view c.self.inside.store) (g.S.Store.view c.write.new.self) (all_pending c.self.inside.queue) (all_pending c.self.inside.queue) c.write.ensures.stays)

pub returns-in-Err-clause-stays : goal.returns-in-Err-clause-stays
returns-in-Err-clause-stays g c = calls_cached (g.S.Store.view c.args.self.now.store) (g.S.Store.view c.make_room.new.self.store) (all_pending c.args.self.now.kept) (all_pending c.make_room.new.self.kept) c.make_room.ensures.stays

pub returns-then-is_ok-clause-stays : goal.returns-then-is_ok-clause-stays
returns-then-is_ok-clause-stays g c =
    let kept = on_ok c.keep_bytes.result (Keeps c.make_room.new.self (pieces c.args.first (data_blocks (g.S.Store.view c.make_room.new.self.store).disk.drive.geometry c.args.bytes.now)) c.keep_bytes.new.self)
    (sym c.is_ok.ensures.value ∙ c.if-is_ok.true) c.keep_bytes.ensures.ok in
    calls_cached (g.S.Store.view c.args.self.now.store) (g.S.Store.view c.keep_bytes.new.self.store) (all_pending c.args.self.now.kept) (all_pending c.keep_bytes.new.self.kept) (rw kept.store c.make_room.ensures.stays)

pub returns-in-Err-apply_all-clause-stays : goal.returns-in-Err-apply_all-clause-stays
returns-in-Err-apply_all-clause-stays g c =
    let same : c.else-has_room.self ≡ c.make_room.new.self = elim c.else-has_room.branch [
      | else-has_room-via-then-has_room+else-is_ok w ↦ w.self-is ∙ on_refused w.keep_bytes.result (w.keep_bytes.new.self ≡ c.make_room.new.self) (sym w.is_ok.ensures.value ∙ w.if-is_ok.false) w.keep_bytes.ensures.err
      | else-has_room-via-else-has_room w ↦ w.self-is
    ] in
    calls_cached (g.S.Store.view c.args.self.now.store) (g.S.Store.view c.apply_all.new.self.store) (all_pending c.args.self.now.kept) (all_pending c.apply_all.new.self.kept) (calls_join (g.S.Store.view c.args.self.now.store) (g.S.Store.view c.make_room.new.self.store) (g.S.Store.view c.apply_all.new.self.store) c.make_room.ensures.stays (rw same at c.apply_all.ensures.stays))

pub invariant_of-self-2 : goal.invariant_of-self-2
invariant_of-self-2 g c = (stays_are_of (g.S.Store.view c.self-2.inside.store) (g.S.Store.view c.write-2.new.self) c.self-2.inside.queue c.write-2.ensures.stays.stays c.self-2.invariant.0, c.self-2.invariant.1)

pub returns-clause-stays : goal.returns-clause-stays
returns-clause-stays g c =
    let same : c.else-has_room.self ≡ c.make_room.new.self = elim c.else-has_room.branch [
      | else-has_room-via-then-has_room+else-is_ok w ↦ w.self-is ∙ on_refused w.keep_bytes.result (w.keep_bytes.new.self ≡ c.make_room.new.self) (sym w.is_ok.ensures.value ∙ w.if-is_ok.false) w.keep_bytes.ensures.err
      | else-has_room-via-else-has_room w ↦ w.self-is
    ] in
    calls_cached (g.S.Store.view c.args.self.now.store) (g.S.Store.view c.write-2.new.self) (all_pending c.args.self.now.kept) (all_pending c.self-2.inside.queue)
    (calls_join (g.S.Store.view c.args.self.now.store) (g.S.Store.view c.self-2.inside.store) (g.S.Store.view c.write-2.new.self)
    (rw (← c.self-2.view_is) at (calls_join (g.S.Store.view c.args.self.now.store) (g.S.Store.view c.make_room.new.self.store) (g.S.Store.view c.apply_all.new.self.store) c.make_room.ensures.stays (rw same at c.apply_all.ensures.stays))) c.write-2.ensures.stays)
