use Rattle.std.proofs.Common.{◌≡◌, ◌∙◌, replicate, subst, sym, None, Ok, Err}
use Rattle.std.proofs.lemmas.List.{length-replicate}
use Rattle.batch_log.specs.Log.{zero_block}
use Rattle.nbd_session.specs.Pending.{pieces}
use Rattle.nbd_session.specs.Store.{store_flat}
use Rattle.zone_translator.specs.Flat.{known_range}
use Rattle.volatile_cache.specs.Cache.{AddsOnly, Applies, Cache, Keeps}
use Rattle.volatile_cache.proofs.ApplyLaws.{applies_again, kept_after, known_none, on_ok, on_refused, write_failed, write_passed, write_sent}
use Rattle.volatile_cache.proofs.RoomLaws.{adds_after, adds_of, only_again, only_room, only_same}
use Rattle.std.specs.Prelude.{IsTrue}
use Rattle.nbd_session.proofs.AnywayLaws.{calls_join}
use Rattle.volatile_cache.proofs.cache.VolatileCache.put_zeros.Goals.{else-has_room-via-then-has_room+else-is_ok, else-has_room-via-else-has_room}
use Rattle.volatile_cache.proofs.cache.VolatileCache.put_zeros.Goals as goal

pub returns-then-is_known-clause-writes : goal.returns-then-is_known-clause-writes
returns-then-is_known-clause-writes g c = λ clean.
    let zeros = replicate c.args.blocks (zero_block (g.S.Store.view c.args.self.now.store).disk.drive.geometry.block) in
    write_passed g.S.Store.view c.args.self.now c.send_zeros.new.self c.args.is_trim c.args.first c.args.blocks zeros c.send_zeros.result (length-replicate c.args.blocks (zero_block (g.S.Store.view c.args.self.now.store).disk.drive.geometry.block))
    (sym c.is_known.ensures ∙ c.if-is_known.true) (c.send_zeros.ensures.writes clean) c.send_zeros.ensures.kept

pub returns-in-Err-clause-writes : goal.returns-in-Err-clause-writes
returns-in-Err-clause-writes g c = λ clean.
    let zeros = replicate c.args.blocks (zero_block (g.S.Store.view c.args.self.now.store).disk.drive.geometry.block) in
    let known : known_range (store_flat (g.S.Store.view c.args.self.now.store)) c.args.first c.args.blocks ≡ None = known_none (known_range (store_flat (g.S.Store.view c.args.self.now.store)) c.args.first c.args.blocks) (sym c.is_known.ensures ∙ c.if-is_known.false) in
    write_failed g.S.Store.view c.args.self.now c.make_room.new.self c.args.is_trim c.args.first zeros c.args.blocks c.in-Err.fault (length-replicate c.args.blocks (zero_block (g.S.Store.view c.args.self.now.store).disk.drive.geometry.block))
    known (rw c.in-Err.is at (c.make_room.ensures.applies clean))

pub returns-then-is_ok-clause-writes : goal.returns-then-is_ok-clause-writes
returns-then-is_ok-clause-writes g c = λ clean.
    let block = zero_block (g.S.Store.view c.args.self.now.store).disk.drive.geometry.block in
    let known : known_range (store_flat (g.S.Store.view c.args.self.now.store)) c.args.first c.args.blocks ≡ None = known_none (known_range (store_flat (g.S.Store.view c.args.self.now.store)) c.args.first c.args.blocks) (sym c.is_known.ensures ∙ c.if-is_known.false) in
    let kept = on_ok c.keep_zeros.result (Keeps c.make_room.new.self (pieces c.args.first (replicate c.args.blocks (zero_block (g.S.Store.view c.make_room.new.self.store).disk.drive.geometry.block))) c.keep_zeros.new.self)
    (sym c.is_ok.ensures.value ∙ c.if-is_ok.true) c.keep_zeros.ensures.ok in
    let was : IsTrue (g.S.Store.view c.make_room.new.self.store).disk.drive.clean = rw kept.store at clean in
    let applied = rw c.in_default.is at (c.make_room.ensures.applies was) in
    kept_after g.S.Store.view c.args.self.now c.make_room.new.self c.keep_zeros.new.self c.args.is_trim c.args.first (replicate c.args.blocks block) c.args.blocks (length-replicate c.args.blocks block) known applied
    (rw applied.0.kept.geometry at kept)

pub returns-in-Err-apply_all-clause-writes : goal.returns-in-Err-apply_all-clause-writes
returns-in-Err-apply_all-clause-writes g c = λ clean.
    let block = zero_block (g.S.Store.view c.args.self.now.store).disk.drive.geometry.block in
    let known : known_range (store_flat (g.S.Store.view c.args.self.now.store)) c.args.first c.args.blocks ≡ None = known_none (known_range (store_flat (g.S.Store.view c.args.self.now.store)) c.args.first c.args.blocks) (sym c.is_known.ensures ∙ c.if-is_known.false) in
    let same : c.else-has_room.self ≡ c.make_room.new.self = elim c.else-has_room.branch [
      | else-has_room-via-then-has_room+else-is_ok w ↦ w.self-is ∙ on_refused w.keep_zeros.result (w.keep_zeros.new.self ≡ c.make_room.new.self) (sym w.is_ok.ensures.value ∙ w.if-is_ok.false) w.keep_zeros.ensures.err
      | else-has_room-via-else-has_room w ↦ w.self-is
    ] in
    let was : IsTrue (g.S.Store.view c.make_room.new.self.store).disk.drive.clean = rw same at (c.apply_all.ensures.stays.stays.disk.shape.trusted clean) in
    write_failed g.S.Store.view c.args.self.now c.apply_all.new.self c.args.is_trim c.args.first (replicate c.args.blocks block) c.args.blocks c.in-Err-apply_all.fault (length-replicate c.args.blocks block) known
    (applies_again g.S.Store.view c.args.self.now c.make_room.new.self c.apply_all.new.self (Err c.in-Err-apply_all.fault) (rw c.in_default.is at (c.make_room.ensures.applies was)) (subst (λ (before : Cache g.row.S.Denot). Applies g.S.Store.view before (Err c.in-Err-apply_all.fault) c.apply_all.new.self) same (rw c.in-Err-apply_all.is at (c.apply_all.ensures.applies clean))))

pub returns-clause-writes : goal.returns-clause-writes
returns-clause-writes g c = λ clean.
    let same : c.else-has_room.self ≡ c.make_room.new.self = elim c.else-has_room.branch [
      | else-has_room-via-then-has_room+else-is_ok w ↦ w.self-is ∙ on_refused w.keep_zeros.result (w.keep_zeros.new.self ≡ c.make_room.new.self) (sym w.is_ok.ensures.value ∙ w.if-is_ok.false) w.keep_zeros.ensures.err
      | else-has_room-via-else-has_room w ↦ w.self-is
    ] in
    let was = c.send_zeros-2.ensures.stays.stays.disk.shape.trusted clean in
    let before : IsTrue (g.S.Store.view c.make_room.new.self.store).disk.drive.clean = rw same at (c.apply_all.ensures.stays.stays.disk.shape.trusted was) in
    let applied = applies_again g.S.Store.view c.args.self.now c.make_room.new.self c.apply_all.new.self (Ok tt) (rw c.in_default.is at (c.make_room.ensures.applies before)) (rw same at (rw c.in_default-apply_all.is at (c.apply_all.ensures.applies was))) in
    let none = rw c.in_default-apply_all.is at c.apply_all.ensures.none in
    write_sent g.S.Store.view c.args.self.now c.apply_all.new.self c.send_zeros-2.new.self c.args.is_trim c.args.first (replicate c.args.blocks (zero_block (g.S.Store.view c.args.self.now.store).disk.drive.geometry.block)) c.args.blocks
    c.send_zeros-2.result applied none (c.send_zeros-2.ensures.kept ∙ none) (rw applied.0.kept.geometry at (c.send_zeros-2.ensures.writes clean))

pub returns-then-is_known-clause-kind : goal.returns-then-is_known-clause-kind
returns-then-is_known-clause-kind g c =
    adds_of c.args.is_trim c.args.self.now c.send_zeros.new.self (only_same c.args.self.now c.send_zeros.new.self c.send_zeros.ensures.kept)

pub returns-in-Err-clause-kind : goal.returns-in-Err-clause-kind
returns-in-Err-clause-kind g c =
    adds_of c.args.is_trim c.args.self.now c.make_room.new.self (only_room c.args.self.now c.make_room.new.self c.args.blocks c.make_room.ensures.oldest)

pub returns-then-is_ok-clause-kind : goal.returns-then-is_ok-clause-kind
returns-then-is_ok-clause-kind g c =
    adds_after c.args.is_trim c.args.self.now c.make_room.new.self c.keep_zeros.new.self (only_room c.args.self.now c.make_room.new.self c.args.blocks c.make_room.ensures.oldest)
    (on_ok c.keep_zeros.result (AddsOnly c.args.is_trim c.make_room.new.self c.keep_zeros.new.self) (sym c.is_ok.ensures.value ∙ c.if-is_ok.true) c.keep_zeros.ensures.kind)

pub returns-in-Err-apply_all-clause-kind : goal.returns-in-Err-apply_all-clause-kind
returns-in-Err-apply_all-clause-kind g c =
    let same : c.else-has_room.self ≡ c.make_room.new.self = elim c.else-has_room.branch [
      | else-has_room-via-then-has_room+else-is_ok w ↦ w.self-is ∙ on_refused w.keep_zeros.result (w.keep_zeros.new.self ≡ c.make_room.new.self) (sym w.is_ok.ensures.value ∙ w.if-is_ok.false) w.keep_zeros.ensures.err
      | else-has_room-via-else-has_room w ↦ w.self-is
    ] in
    adds_of c.args.is_trim c.args.self.now c.apply_all.new.self
    (only_again c.args.self.now c.make_room.new.self c.apply_all.new.self (only_room c.args.self.now c.make_room.new.self c.args.blocks c.make_room.ensures.oldest) (rw same at c.apply_all.ensures.only))

pub returns-clause-kind : goal.returns-clause-kind
returns-clause-kind g c =
    let same : c.else-has_room.self ≡ c.make_room.new.self = elim c.else-has_room.branch [
      | else-has_room-via-then-has_room+else-is_ok w ↦ w.self-is ∙ on_refused w.keep_zeros.result (w.keep_zeros.new.self ≡ c.make_room.new.self) (sym w.is_ok.ensures.value ∙ w.if-is_ok.false) w.keep_zeros.ensures.err
      | else-has_room-via-else-has_room w ↦ w.self-is
    ] in
    let fewer = only_again c.args.self.now c.make_room.new.self c.apply_all.new.self (only_room c.args.self.now c.make_room.new.self c.args.blocks c.make_room.ensures.oldest) (rw same at c.apply_all.ensures.only) in
    adds_of c.args.is_trim c.args.self.now c.send_zeros-2.new.self
    (only_again c.args.self.now c.apply_all.new.self c.send_zeros-2.new.self fewer (only_same c.apply_all.new.self c.send_zeros-2.new.self c.send_zeros-2.ensures.kept))

-- ---- whatever the Reads returned

pub returns-then-is_ok-clause-stays : goal.returns-then-is_ok-clause-stays
returns-then-is_ok-clause-stays g c =
    let kept = on_ok c.keep_zeros.result (Keeps c.make_room.new.self (pieces c.args.first (replicate c.args.blocks (zero_block (g.S.Store.view c.make_room.new.self.store).disk.drive.geometry.block))) c.keep_zeros.new.self)
    (sym c.is_ok.ensures.value ∙ c.if-is_ok.true) c.keep_zeros.ensures.ok in
    rw kept.store c.make_room.ensures.stays

pub returns-in-Err-apply_all-clause-stays : goal.returns-in-Err-apply_all-clause-stays
returns-in-Err-apply_all-clause-stays g c =
    let same : c.else-has_room.self ≡ c.make_room.new.self = elim c.else-has_room.branch [
      | else-has_room-via-then-has_room+else-is_ok w ↦ w.self-is ∙ on_refused w.keep_zeros.result (w.keep_zeros.new.self ≡ c.make_room.new.self) (sym w.is_ok.ensures.value ∙ w.if-is_ok.false) w.keep_zeros.ensures.err
      | else-has_room-via-else-has_room w ↦ w.self-is
    ] in
    calls_join (g.S.Store.view c.args.self.now.store) (g.S.Store.view c.make_room.new.self.store) (g.S.Store.view c.apply_all.new.self.store) c.make_room.ensures.stays (rw same at c.apply_all.ensures.stays)

pub returns-clause-stays : goal.returns-clause-stays
returns-clause-stays g c =
    let same : c.else-has_room.self ≡ c.make_room.new.self = elim c.else-has_room.branch [
      | else-has_room-via-then-has_room+else-is_ok w ↦ w.self-is ∙ on_refused w.keep_zeros.result (w.keep_zeros.new.self ≡ c.make_room.new.self) (sym w.is_ok.ensures.value ∙ w.if-is_ok.false) w.keep_zeros.ensures.err
      | else-has_room-via-else-has_room w ↦ w.self-is
    ] in
    calls_join (g.S.Store.view c.args.self.now.store) (g.S.Store.view c.apply_all.new.self.store) (g.S.Store.view c.send_zeros-2.new.self.store) (calls_join (g.S.Store.view c.args.self.now.store) (g.S.Store.view c.make_room.new.self.store) (g.S.Store.view c.apply_all.new.self.store) c.make_room.ensures.stays (rw same at c.apply_all.ensures.stays)) c.send_zeros-2.ensures.stays
