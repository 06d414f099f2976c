-- What a cut leaves, block by block, and what the sync after it does.
use Rattle.std.proofs.Common.{◌≡◌, ◌==◌, ◌∙◌, ◌+◌, ◌≤◌, ℕ, List, [], ◌∷◌, length, length-drop, drop, set, min, refl, sym, ap, arith, inl, inr, Ok, Err, true, false}
use Rattle.std.proofs.lemmas.Bool.Decides.{nat_tests}
use Rattle.std.specs.Prelude.{Contains, Result}
use Rattle.std.proofs.lemmas.List.Elements.{Contains-append_left}
use Rattle.zone_translator.proofs.KeepingLaws.{keeps_again, keeps_same}
use Rattle.zone_translator.specs.View.{disk_array}
use Rattle.nbd_session.specs.Pending.{Pending, overlay}
use Rattle.nbd_session.specs.Store.{KeepsMode, StoreView, Syncs, store_array}
use Rattle.nbd_session.specs.declared.fault.StoreFault.{StoreFault}
use Rattle.nbd_session.specs.declared.fault.StoreFault.TheVariants.{Disk, Medium}
use Rattle.volatile_cache.specs.Cache.{Applies, Cache, Falls, HasOutcomesOf, KeepsBelow}
use Rattle.volatile_cache.specs.Outcomes.{IsDurable, Settles, cached, deferring, outcomes}
use Rattle.volatile_cache.specs.Queue.{all_pending, pending_of}
use Rattle.volatile_cache.specs.declared.kept.Kept.{Kept}
use Rattle.volatile_cache.proofs.CutLaws.{kill-outcome}

drop-outcomes : (kept : List Kept) (array left : List (List ℕ)) → Contains (outcomes (all_pending (drop 1 kept)) array) left → Contains (outcomes (all_pending kept) array) left
drop-outcomes [] array left found = found
drop-outcomes (k ∷ ks) array left found =
    Contains-append_left (outcomes (all_pending ks) array) (outcomes (all_pending ks) (set array (pending_of k).place (pending_of k).block)) left found

-- the oldest block is lost
pub lost_outcomes : {S : Type 0} (view : S → StoreView) (old new : Cache S) → new.store ≡ old.store → new.kept ≡ drop 1 old.kept → HasOutcomesOf view old new
lost_outcomes {S = S} view old new store kept left found =
    drop-outcomes old.kept (store_array (view old.store)) left
    (rw (ap (λ (s : S). store_array (view s)) store, ap (λ (ks : List Kept). all_pending ks) kept) at found)

pub same_outcomes : {S : Type 0} (view : S → StoreView) (cache : Cache S) → HasOutcomesOf view cache cache
same_outcomes view cache left found = found

pub later_outcomes : {S : Type 0} (view : S → StoreView) (a b c : Cache S) → HasOutcomesOf view a b → HasOutcomesOf view b c → HasOutcomesOf view a c
later_outcomes view a b c x y left found = x left (y left found)

-- ---- what is kept of the store below

mode-deferring : (old new : StoreView) → KeepsMode old new → KeepsMode (deferring old) (deferring new)
mode-deferring old new m = record { read_only = m.read_only; cleans = m.cleans; flushes = m.flushes; defers = refl; fails = m.fails }

mode-below : (below below' : StoreView) (mine left : List Pending) → KeepsMode (cached below mine) (cached below' left) → KeepsMode (deferring below) (deferring below')
mode-below below below' mine left m = record { read_only = m.read_only; cleans = m.cleans; flushes = m.flushes; defers = refl; fails = m.fails }

pub below_same : (below : StoreView) → KeepsBelow below below
below_same below = (keeps_same below.disk, record { read_only = refl; cleans = refl; flushes = refl; defers = refl; fails = refl })

pub below_again : (a b c : StoreView) → KeepsBelow a b → KeepsBelow b c → KeepsBelow a c
below_again a b c x y = (
  keeps_again a.disk b.disk c.disk x.0 y.0,
  record { read_only = y.1.read_only ∙ x.1.read_only; cleans = y.1.cleans ∙ x.1.cleans; flushes = y.1.flushes ∙ x.1.flushes; defers = refl; fails = y.1.fails ∙ x.1.fails },
)

settled_below : (below below' : StoreView) (mine left : List Pending) → Settles (cached below mine) (cached below' left) → KeepsBelow below below'
settled_below below below' mine left s = (s.kept, mode-below below below' mine left s.mode)

-- some blocks were applied, or one was refused
pub applied_below : {S : Type 0} (view : S → StoreView) (old new : Cache S) (result : Result (Unit {0}) StoreFault) → Applies view old result new → KeepsBelow (view old.store) (view new.store)
applied_below view old new (Ok done) a = settled_below (view old.store) (view new.store) (all_pending old.kept) (all_pending new.kept) a.0
applied_below view old new (Err (Disk fault)) a =
    below_again (view old.store) (view a.middle) (view new.store) (settled_below (view old.store) (view a.middle) (all_pending old.kept) (all_pending new.kept) a.settles)
    (a.refuses.puts.calls.kept, mode-deferring (view a.middle) (view new.store) a.refuses.puts.calls.mode)
applied_below view old new (Err Medium) a =
    below_again (view old.store) (view a.middle) (view new.store) (settled_below (view old.store) (view a.middle) (all_pending old.kept) (all_pending new.kept) a.settles)
    (a.spares.kept, mode-deferring (view a.middle) (view new.store) a.spares.mode)

pub sync_below : (old new : StoreView) (result : Result (Unit {0}) StoreFault) → Syncs old result new → KeepsBelow old new
sync_below old new (Ok done) s = (s.1.keeps.kept, mode-deferring old new s.1.keeps.mode)
sync_below old new (Err (Disk fault)) (inl s) = rw s.1 (below_same old)
sync_below old new (Err (Disk fault)) (inr s) = (s.1.keeps.kept, mode-deferring old new s.1.keeps.mode)
sync_below old new (Err Medium) s = (s.1.kept, mode-deferring old new s.1.mode)

-- ---- what is left

-- a sync leaves the array
pub sync_array : (old new : StoreView) (result : Result (Unit {0}) StoreFault) → Syncs old result new → store_array new ≡ store_array old
sync_array old new (Ok done) s = s.1.keeps.array
sync_array old new (Err (Disk fault)) (inl s) = ap store_array s.1
sync_array old new (Err (Disk fault)) (inr s) = s.1.keeps.array
sync_array old new (Err Medium) s = s.1.array

-- done, what it leaves is durable
pub sync_durable : (old new : StoreView) → Syncs old (Ok tt) new → IsDurable new
sync_durable old new s left found =
    rw s.1.done at (s.1.since left found) ∙ sym (ap (λ (ws : List Pending). overlay ws (disk_array new.disk)) s.1.done)

-- whatever was lost or applied: if the store below now has one array of those that a cut could leave, a cut left it
pub falls : {S : Type 0} (view : S → StoreView) (old middle new : Cache S) → HasOutcomesOf view old middle → store_array (view new.store) ≡ store_array (view middle.store) → new.kept ≡ []
    → KeepsBelow (view old.store) (view new.store) → Falls (view old.store) (all_pending old.kept) (view new.store) new.kept
falls view old middle new within array none keeps = record {
  none = none;
  keeps = keeps;
  outcome = within (store_array (view new.store)) (rw array (kill-outcome (all_pending middle.kept) (store_array (view middle.store))));
}

-- none is pending
pub empty_is : (kept : List Kept) → (length kept == 0) ≡ true → kept ≡ []
empty_is [] is = refl
empty_is (k ∷ ks) is = let none : length (k ∷ ks) ≡ 0 = grind (arith, nat_tests, is) in absurd (omega (arith, none))

pub some_is : (kept : List Kept) → (length kept == 0) ≡ false → 1 ≤ length kept
some_is kept is = grind (arith, nat_tests, is)

pub one_fewer : (kept : List Kept) (lost lost' total most : ℕ) → (length kept == 0) ≡ false → lost' ≡ min (lost + 1) most → lost + length kept ≤ total → lost' + length (drop 1 kept) ≤ total
one_fewer kept lost lost' total most is sum less = let some = some_is kept is in omega (arith, some, sum, less, length-drop 1 kept)
