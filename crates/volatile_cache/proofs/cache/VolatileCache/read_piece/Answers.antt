use Rattle.std.proofs.Common.{◌≡◌, ◌∙◌, ◌-◌, ap, sym, Some, None}
use Rattle.std.specs.Option.{option_copied}
use Rattle.nbd_session.specs.Store.{store_flat}
use Rattle.zone_translator.specs.Flat.{known_range}
use Rattle.volatile_cache.specs.Outcomes.{cached}
use Rattle.volatile_cache.specs.Queue.{all_pending, bytes_of, newest_of}
use Rattle.volatile_cache.proofs.ApplyLaws.{newest_is_of}
use Rattle.volatile_cache.proofs.ReadLaws.{clear_failed, clear_shown, clear_to, clear_unshown, failed_piece, pending_shown, pending_unshown, pending_whole, piece_pending, piece_whole}
use Rattle.volatile_cache.proofs.StayLaws.{stays_are_of}
use Rattle.volatile_cache.proofs.cache.VolatileCache.read_piece.Goals.{in-Ok, in-Err}
use Rattle.volatile_cache.proofs.cache.VolatileCache.read_piece.Goals as goal

pub returns-in-Some-clause-reads : goal.returns-in-Some-clause-reads
returns-in-Some-clause-reads g c = λ clean.
    let below = g.S.Store.view c.self.inside.store in
    let kept = c.self.inside.queue in
    let found : newest_of c.args.at kept ≡ Some c.in-Some.kept.now = sym c.newest_of.ensures ∙ ap option_copied c.in-Some.is in
    let known : known_range (store_flat below) c.args.at (c.args.end - c.args.at) ≡ None = (rw (← c.self.view_is) at c.requires.known) (rw (← c.self.view_is) at clean) in
    let reads = piece_pending below kept c.args.at c.args.end c.in-Some.kept.now c.blocks-size.result found known c.requires.some (c.blocks-size.ensures.array (rw (← c.self.view_is) at clean)) c.blocks-size.ensures.size in
    rw (← c.self.view_is) (elim c.match-show.branch [
      | in-Ok w ↦ rw w.result-is (pending_shown (cached below (all_pending kept)) c.args.at c.args.end (bytes_of c.in-Some.kept.now.content) c.args.into.now.items c.show.new.into.items c.requires.some reads (rw w.in-Ok.is at c.show.ensures))
      | in-Err w ↦ rw w.result-is (pending_unshown (cached below (all_pending kept)) c.args.at c.args.end (bytes_of c.in-Some.kept.now.content) known c.requires.some reads)
    ])

pub invariant_of-self : goal.invariant_of-self
invariant_of-self g c = (
  stays_are_of (g.S.Store.view c.self.inside.store) (g.S.Store.view c.read.new.self) c.self.inside.queue c.read.ensures.stays.stays c.self.invariant.0,
  c.self.invariant.1,
)

pub returns-in_err-read-clause-reads : goal.returns-in_err-read-clause-reads
returns-in_err-read-clause-reads g c = λ clean.
    let below = g.S.Store.view c.self.inside.store in
    let kept = c.self.inside.queue in
    let none : newest_of c.args.at kept ≡ None = sym c.newest_of.ensures ∙ ap option_copied c.in_default.is in
    let known : known_range (store_flat below) c.args.at (c.args.end - c.args.at) ≡ None = (rw (← c.self.view_is) at c.requires.known) (c.read.ensures.stays.stays.disk.shape.trusted clean) in
    let clear = clear_to kept c.args.at c.args.end c.min-next.result c.place_from.result c.place_from.ensures none c.requires.some (rw c.unwrap_or.ensures at c.min-next.ensures) in
    rw (← c.self.view_is)
    (failed_piece (cached below (all_pending kept)) (cached (g.S.Store.view c.read.new.self) (all_pending kept)) c.args.at c.args.end c.from_residual.result c.in_err-read.field-0.0 c.args.into.now.items c.from_residual.ensures.1
    (clear_failed below (g.S.Store.view c.read.new.self) kept c.args.at c.args.end c.min-next.result c.in_err-read.field-0.0 c.args.into.now.items c.read.new.into.items clear known (c.in_err-read.ensures.shows clean)))

pub invariant_of-self-in-Ok-extend_from_slice : goal.invariant_of-self-in-Ok-extend_from_slice
invariant_of-self-in-Ok-extend_from_slice g c = (
  stays_are_of (g.S.Store.view c.self.inside.store) (g.S.Store.view c.read.new.self) c.self.inside.queue c.read.ensures.stays.stays c.self.invariant.0,
  c.self.invariant.1,
)

pub returns-in-Ok-extend_from_slice-clause-reads : goal.returns-in-Ok-extend_from_slice-clause-reads
returns-in-Ok-extend_from_slice-clause-reads g c = λ clean.
    let below = g.S.Store.view c.self.inside.store in
    let kept = c.self.inside.queue in
    let none : newest_of c.args.at kept ≡ None = sym c.newest_of.ensures ∙ ap option_copied c.in_default.is in
    let clear = clear_to kept c.args.at c.args.end c.min-next.result c.place_from.result c.place_from.ensures none c.requires.some (rw c.unwrap_or.ensures at c.min-next.ensures) in
    rw (← c.self.view_is)
    (clear_shown below (g.S.Store.view c.read.new.self) kept c.args.at c.args.end c.min-next.result c.args.into.now.items c.extend_from_slice.new.self.items c.read.new.into.items clear (c.in_ok-read.ensures.shows clean)
    (rw (c.in-Ok-extend_from_slice.is, c.deref.ensures.value) at c.extend_from_slice.ensures.items))

pub invariant_of-self-2 : goal.invariant_of-self-2
invariant_of-self-2 g c = (
  stays_are_of (g.S.Store.view c.self.inside.store) (g.S.Store.view c.read.new.self) c.self.inside.queue c.read.ensures.stays.stays c.self.invariant.0,
  c.self.invariant.1,
)

pub returns-clause-reads : goal.returns-clause-reads
returns-clause-reads g c = λ clean.
    let below = g.S.Store.view c.self.inside.store in
    let kept = c.self.inside.queue in
    let none : newest_of c.args.at kept ≡ None = sym c.newest_of.ensures ∙ ap option_copied c.in_default.is in
    let known : known_range (store_flat below) c.args.at (c.args.end - c.args.at) ≡ None = (rw (← c.self.view_is) at c.requires.known) (c.read.ensures.stays.stays.disk.shape.trusted clean) in
    let clear = clear_to kept c.args.at c.args.end c.min-next.result c.place_from.result c.place_from.ensures none c.requires.some (rw c.unwrap_or.ensures at c.min-next.ensures) in
    rw (← c.self.view_is)
    (clear_unshown below (g.S.Store.view c.read.new.self) kept c.args.at c.args.end c.min-next.result c.read.new.into.items clear known (c.in_ok-read.ensures.shows clean))

-- ---- whatever the Reads returned

pub returns-in_err-read-clause-stays : goal.returns-in_err-read-clause-stays
returns-in_err-read-clause-stays g c = rw (← c.self.view_is) c.read.ensures.stays

pub returns-in-Ok-extend_from_slice-clause-stays : goal.returns-in-Ok-extend_from_slice-clause-stays
returns-in-Ok-extend_from_slice-clause-stays g c = rw (← c.self.view_is) c.read.ensures.stays

pub returns-clause-stays : goal.returns-clause-stays
returns-clause-stays g c = rw (← c.self.view_is) c.read.ensures.stays

pub returns-in-Ok-extend_from_slice-clause-some : goal.returns-in-Ok-extend_from_slice-clause-some
returns-in-Ok-extend_from_slice-clause-some g c =
    let kept = c.self.inside.queue in
    let none : newest_of c.args.at kept ≡ None = sym c.newest_of.ensures ∙ ap option_copied c.in_default.is in
    let clear = clear_to kept c.args.at c.args.end c.min-next.result c.place_from.result c.place_from.ensures none c.requires.some (rw c.unwrap_or.ensures at c.min-next.ensures) in
    (clear.some, clear.within)

-- a block that is pending is a whole one
pub returns-in-Some-clause-whole : goal.returns-in-Some-clause-whole
returns-in-Some-clause-whole g c =
    let below = g.S.Store.view c.self.inside.store in
    let kept = c.self.inside.queue in
    let found : newest_of c.args.at kept ≡ Some c.in-Some.kept.now = sym c.newest_of.ensures ∙ ap option_copied c.in-Some.is in
    let is = newest_is_of below c.args.at kept c.in-Some.kept.now found c.self.invariant.0 in
    rw (← c.self.view_is) (elim c.match-show.branch [
      | in-Ok w ↦ rw w.result-is (pending_whole c.args.at below.disk.drive.geometry.block c.args.into.now.items (bytes_of c.in-Some.kept.now.content) c.show.new.into.items is.1 (rw w.in-Ok.is at c.show.ensures))
      | in-Err w ↦ rw w.result-is tt
    ])

pub returns-in-Ok-extend_from_slice-clause-whole : goal.returns-in-Ok-extend_from_slice-clause-whole
returns-in-Ok-extend_from_slice-clause-whole g c =
    rw (← c.self.view_is)
    (piece_whole (c.min-next.result - c.args.at) _ c.args.into.now.items c.read.new.into.items c.extend_from_slice.new.self.items c.in_ok-read.ensures.whole
    (rw (c.in-Ok-extend_from_slice.is, c.deref.ensures.value) at c.extend_from_slice.ensures.items))
