-- The medium of the store below failed: what that is above it.
use Rattle.std.proofs.Common.{◌≡◌, ◌∙◌, ℕ, ◌+◌, ◌*◌, ◌≤◌, List, [], ◌∷◌, ◌++◌, length, refl, sym, ap, arith, inl, inr, None}
use Rattle.std.proofs.Math.Nat.{add-mul}
use Rattle.std.proofs.lemmas.List.{length-append}
use Rattle.std.proofs.lemmas.List.Elements.{Contains-append_left, Contains-append_right, Contains-append_cases}
use Rattle.std.proofs.lemmas.Nat.{mul-le}
use Rattle.zone_translator.proofs.KeepingLaws.{keeps_again}
use Rattle.zone_translator.specs.Flat.{FlatDisk, known_range}
use Rattle.nbd_session.specs.Pending.{Pending, overlay}
use Rattle.nbd_session.specs.Store.{KeepsBySync, Spares, StoreView, commands_due, store_flat}
use Rattle.nbd_session.proofs.CostLaws.{bound_again, bound_so}
use Rattle.volatile_cache.specs.Outcomes.{Settles, cached, outcomes}
use Rattle.volatile_cache.proofs.Lists.{IsOfOne, in_flat_map, of_one}
use Rattle.volatile_cache.proofs.OutcomeLaws.{cached_flat}
use Rattle.volatile_cache.proofs.CacheLaws.{due-again, mode_up}
use Rattle.volatile_cache.proofs.ThroughLaws.{due_under}

first-none : (xs ys : List Pending) → xs ++ ys ≡ [] → xs ≡ []
first-none [] ys none = refl
first-none (x ∷ xs) ys none = absurd (cc none)

-- blocks that are pending above stay so
pub spares_over : (below below' : StoreView) (mine : List Pending) (first n : ℕ) → Spares below first n below' → Spares (cached below mine) first n (cached below' mine)
spares_over below below' mine first n s = record {
  may = s.may;
  begun = s.begun;
  flat = cached_flat below' mine ∙ (ap (λ (d : FlatDisk). record d { array = overlay mine d.array }) s.flat ∙ sym (cached_flat below mine));
  kept = s.kept;
  durable = s.durable;
  written = λ none. s.written (first-none below.pending mine none);
  turns = s.turns;
  due = due_under below below' mine n s.due;
  since = λ array found. (
      let r : IsOfOne (outcomes mine) below'.since array = of_one (outcomes mine) below'.since array found in
      in_flat_map (outcomes mine) below.since r.from array (s.since r.from r.is_there) r.is_of);
  pending = λ w found. elim (Contains-append_cases below'.pending mine w found) [
    | inl under ↦ Contains-append_left below.pending mine w (s.pending w under)
    | inr over ↦ Contains-append_right below.pending mine w over
  ];
  syncs = s.syncs;
  mode = mode_up below below' mine mine s.mode;
}

-- after some blocks were applied
pub settled_spares : (a b c : StoreView) (first n : ℕ) → Settles a b → (a.pending ≡ [] → b ≡ a) → Spares b first n c → Spares a first n c
settled_spares a b c first n s nothing x = record {
  may = sym s.mode.fails ∙ x.may;
  begun = ap (λ (d : FlatDisk). known_range d first n) (sym s.flat) ∙ x.begun;
  flat = x.flat ∙ s.flat;
  kept = keeps_again a.disk b.disk c.disk s.kept x.kept;
  durable = x.durable ∙ s.durable;
  written = λ none. x.written (ap (λ (v : StoreView). v.pending) (nothing none) ∙ none) ∙ ap (λ (v : StoreView). v.disk.drive.zones) (nothing none);
  turns = omega (arith, s.turns, x.turns);
  due = bound_again _ _ _ a.disk b.disk c.disk s.kept x.kept (λ (each : ℕ) some. due-again (commands_due each c) (commands_due each b) (commands_due each a) n each) s.due x.due;
  since = λ array found. s.since array (x.since array found);
  pending = λ w found. s.pending w (x.pending w found);
  syncs = x.syncs ∙ s.syncs;
  mode = record {
    read_only = x.mode.read_only ∙ s.mode.read_only;
    cleans = x.mode.cleans ∙ s.mode.cleans;
    flushes = x.mode.flushes ∙ s.mode.flushes;
    defers = x.mode.defers ∙ s.mode.defers;
    fails = x.mode.fails ∙ s.mode.fails;
  };
}

longer-due : (b a k n e : ℕ) → k ≤ n → b ≤ a + k * e → b ≤ a + n * e
longer-due b a k n e less due = omega (arith, due, mul-le k e n e less (omega arith))

-- in a call of more blocks
pub spares_longer : (a b : StoreView) (at k first n : ℕ) → k ≤ n → known_range (store_flat a) first n ≡ None → Spares a at k b → Spares a first n b
spares_longer a b at k first n less known s = record {
  may = s.may;
  begun = known;
  flat = s.flat;
  kept = s.kept;
  durable = s.durable;
  written = s.written;
  turns = s.turns;
  due = bound_so _ _ a.disk b.disk (λ (each : ℕ). longer-due (commands_due each b) (commands_due each a) k n each less) s.due;
  since = s.since;
  pending = s.pending;
  syncs = s.syncs;
  mode = s.mode;
}

spare-due : (c d a less more mine e : ℕ) → 1 ≤ mine → d + (more + mine) * e ≤ a + 0 * e → c + less * e ≤ d + more * e + 1 * e → c ≤ a + 1
spare-due c d a less more mine e some first h = omega (arith, first, h, add-mul more mine e, mul-le 1 e mine e some (omega arith))

-- a pending block in which the medium failed: a sync that needs it keeps what a sync keeps
pub spares_keeps : (below below' : StoreView) (mine : List Pending) (place : ℕ) (a : StoreView) → 1 ≤ length mine → (a.pending ≡ [] → ⊥) → Settles a (cached below mine) → Spares below place 1 below' → KeepsBySync a (cached below' mine)
spares_keeps below below' mine place a stays some s x =
    let up = spares_over below below' mine place 1 x in record {
      array = ap (λ (d : FlatDisk). d.array) (up.flat ∙ s.flat);
      kept = keeps_again a.disk below.disk below'.disk s.kept x.kept;
      durable = λ zones found. inl (rw (x.durable ∙ s.durable) at found);
      turns = λ none. absurd (some none);
      completed = bound_again _ _ _ a.disk below.disk below'.disk s.kept x.kept (λ (each : ℕ) some first.
          spare-due below'.disk.drive.completed below.disk.drive.completed (commands_due each a) (length below'.pending) (length below.pending) (length mine) each stays (rw (length-append below.pending mine) at first)) s.due x.due;
      pending = λ w found. s.pending w (up.pending w found);
      since = λ array found. inl (s.since array (up.since array found));
      syncs = omega (arith, x.syncs, s.syncs);
      mode = record {
        read_only = up.mode.read_only ∙ s.mode.read_only;
        cleans = up.mode.cleans ∙ s.mode.cleans;
        flushes = up.mode.flushes ∙ s.mode.flushes;
        defers = up.mode.defers ∙ s.mode.defers;
        fails = up.mode.fails ∙ s.mode.fails;
      };
      silent = λ off none. absurd (some none);
    }
