use Rattle.std.proofs.Common.{◌≡◌, ◌-◌, ℕ, List, ap, arith, inl, refl, subst, sym, Ok, Err}
use Rattle.zone_states.specs.declared.geometry.Geometry.{Geometry}
use Rattle.volatile_cache.specs.Cache.{ReadsPiece, view_of}
use Rattle.volatile_cache.proofs.ReadLaws.{ReadGives, none_shown, pieces_whole, shows_again, shows_failed}
use Rattle.volatile_cache.proofs.ApplyLaws.{some_pending}
use Rattle.nbd_session.proofs.AnywayLaws.{calls_join, calls_same}
use Rattle.volatile_cache.proofs.cache.VolatileCache.read_pieces.Goals as goal

pub returns-in-Err-clause-shows : goal.returns-in-Err-clause-shows
returns-in-Err-clause-shows g c = λ clean.
    let view = view_of g.S.Store.view in
    let some = some_pending (g.S.Store.view c.args.self.now.store).pending c.args.self.now.kept c.requires.pending in
    subst (λ (bytes : List ℕ). ReadGives (view c.args.self.now) c.args.first (c.args.end - c.args.first) bytes (Err c.in-Err.fault) (view c.read_piece.new.self)) (sym c.clear-in-Err.ensures.items)
    (shows_failed (view c.args.self.now) (view c.loop-at.self) (view c.read_piece.new.self) c.args.first c.loop-at.at c.args.end c.loop-at.into.items c.loop-at.into.items c.read_piece.new.into.items c.in-Err.fault c.requires.known
    c.loop-at.invariant.0 c.loop-at-test.true some (c.loop-at.invariant.2 (c.read_piece.ensures.stays.stays.disk.shape.trusted clean)) (rw c.in-Err.is at (c.read_piece.ensures.reads clean)))

pub loop-at-init : goal.loop-at-init
loop-at-init g c = (omega arith, omega (arith, c.requires.some), λ clean. inl (refl, c.clear.ensures.items, refl), calls_same (g.S.Store.view c.args.self.now.store), none_shown c.args.first _ _ c.clear.ensures.items)

pub loop-at-preserved : goal.loop-at-preserved
loop-at-preserved g c =
    let view = view_of g.S.Store.view in
    let some = rw c.in-Ok.is at c.read_piece.ensures.some in (
      omega (arith, c.loop-at.invariant.0, some.0),
      some.1,
      λ clean.
          (let read : ReadsPiece (view c.loop-at.self) c.loop-at.at c.args.end (Ok c.in-Ok.next) c.loop-at.into.items c.read_piece.new.into.items (view c.read_piece.new.self) = rw c.in-Ok.is at (c.read_piece.ensures.reads clean) in
          shows_again (view c.args.self.now) (view c.loop-at.self) (view c.read_piece.new.self) c.args.first c.loop-at.at c.in-Ok.next c.args.end c.loop-at.into.items c.read_piece.new.into.items c.requires.known c.loop-at.invariant.0 read.0 read.1
          (c.loop-at.invariant.2 (c.read_piece.ensures.stays.stays.disk.shape.trusted clean)) read.2),
      calls_join (g.S.Store.view c.args.self.now.store) (g.S.Store.view c.loop-at.self.store) (g.S.Store.view c.read_piece.new.self.store) c.loop-at.invariant.3 c.read_piece.ensures.stays,
      pieces_whole c.args.first c.loop-at.at c.in-Ok.next _ _ c.loop-at.into.items c.read_piece.new.into.items c.loop-at.invariant.0 some.0 (ap (λ (geometry : Geometry). geometry.block) c.loop-at.invariant.3.stays.disk.shape.geometry) c.loop-at.invariant.4 (rw c.in-Ok.is at c.read_piece.ensures.whole),
    )

-- ---- whatever the Reads returned

pub returns-in-Err-clause-stays : goal.returns-in-Err-clause-stays
returns-in-Err-clause-stays g c = calls_join (g.S.Store.view c.args.self.now.store) (g.S.Store.view c.loop-at.self.store) (g.S.Store.view c.read_piece.new.self.store) c.loop-at.invariant.3 c.read_piece.ensures.stays

pub returns-clause-stays : goal.returns-clause-stays
returns-clause-stays g c = c.loop-at.invariant.3

pub returns-clause-whole : goal.returns-clause-whole
returns-clause-whole g c =
    let all : c.loop-at.at ≡ c.args.end = omega (arith, c.loop-at.invariant.1, c.loop-at-test.false) in
    rw all at c.loop-at.invariant.4
