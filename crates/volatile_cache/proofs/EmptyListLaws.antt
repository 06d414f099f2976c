-- A list that names no block goes through a cache, whatever is pending.
use Rattle.std.proofs.Common.{◌≡◌, inl, inr, ℕ, ◌≤◌, List, [], ◌∷◌, ◌++◌, length, refl, arith, Some, Ok}
use Rattle.std.specs.Prelude.{Contains}
use Rattle.std.specs.List.{flat_map}
use Rattle.std.proofs.lemmas.List.{ext_get_or}
use Rattle.std.proofs.lemmas.List.Elements.{Contains-append_left, Contains-append_right, Contains-append_cases}
use Rattle.batch_log.specs.declared.header.Entry.{Entry}
use Rattle.zone_translator.specs.Flat.{Answer, write_list}
use Rattle.nbd_session.specs.Pending.{Pending}
use Rattle.nbd_session.specs.Store.{ComesFrom, IsListTorn, StoreView, WritesList, store_flat}
use Rattle.volatile_cache.specs.Outcomes.{cached, deferring, outcomes}
use Rattle.volatile_cache.proofs.CacheLaws.{empty_cache, mode_up, over}
use Rattle.volatile_cache.proofs.Lists.{IsOfOne, in_flat_map, of_one}
use Rattle.volatile_cache.proofs.OutcomeLaws.{cached_flat}
use Rattle.volatile_cache.proofs.ThroughLaws.{due_under, known-over}

none-named : (entries : List Entry) → length entries ≤ 0 → entries ≡ []
none-named [] few = refl
none-named (e ∷ es) few = absurd (omega (arith, few))

-- nothing is torn in it
list-same : (before after : List (List ℕ)) → IsListTorn before [] after → after ≡ before
list-same before after torn = ext_get_or [] after before torn.length_is (λ place lt. elim (torn.either place) [ inl old ↦ old | inr new ↦ new ])

list-since : (below below' : StoreView) (mine : List Pending) → ((array : List (List ℕ)) → Contains below'.since array → ComesFrom below.since (write_list []) array)
    → (array : List (List ℕ)) → Contains (flat_map (outcomes mine) below'.since) array → ComesFrom (flat_map (outcomes mine) below.since) (write_list []) array
list-since below below' mine since array found =
    let r : IsOfOne (outcomes mine) below'.since array = of_one (outcomes mine) below'.since array found in
    let s = since r.from r.is_there in
    record {
      before = array;
      was = in_flat_map (outcomes mine) below.since s.before array s.was (rw (list-same s.before r.from s.part) at r.is_of);
      part = record { length_is = refl; either = λ place. inl refl };
    }

list-deferring : (a b : StoreView) (bytes : List ℕ) (answer : Answer) → WritesList a [] bytes answer b → WritesList (deferring a) [] bytes answer (deferring b)
list-deferring a b bytes answer w = record {
  calls = record {
    flat = w.calls.flat;
    kept = w.calls.kept;
    durable = w.calls.durable;
    cause = w.calls.cause;
    since = w.calls.since;
    pending = w.calls.pending;
    none = λ prompt. absurd (cc prompt);
    syncs = w.calls.syncs;
    mode = record { read_only = w.calls.mode.read_only; cleans = w.calls.mode.cleans; flushes = w.calls.mode.flushes; defers = refl; fails = w.calls.mode.fails };
    through = λ none. (let by = w.calls.through none in record { kept = by.kept; since = by.since });
  };
  turns = w.turns;
  due = w.due;
  through = w.through;
}

empty-list : (below below' : StoreView) (mine : List Pending) (bytes : List ℕ) (answer : Answer) → WritesList below [] bytes answer below' → WritesList (cached below mine) [] bytes answer (cached below' mine)
empty-list below below' [] bytes answer w = rw (empty_cache below, empty_cache below') (list-deferring below below' bytes answer w)
empty-list below below' (v ∷ mine) bytes answer w = record {
  calls = record {
    flat = rw (cached_flat below (v ∷ mine), cached_flat below' (v ∷ mine)) (known-over (Some (Ok tt)) (write_list []) (v ∷ mine) (store_flat below) answer (store_flat below') (Ok tt) refl w.calls.flat);
    kept = w.calls.kept;
    durable = w.calls.durable;
    cause = w.calls.cause;
    since = list-since below below' (v ∷ mine) w.calls.since;
    pending = λ x found. elim (Contains-append_cases below'.pending (v ∷ mine) x found) [
      | inl under ↦ elim (w.calls.pending x under) [ inl before ↦ inl (Contains-append_left below.pending (v ∷ mine) x before) | inr new ↦ inr new ]
      | inr over ↦ inl (Contains-append_right below.pending (v ∷ mine) x over)
    ];
    none = λ prompt. absurd (cc prompt);
    syncs = w.calls.syncs;
    mode = mode_up below below' (v ∷ mine) (v ∷ mine) w.calls.mode;
    through = λ none. absurd (cc (none-last below.pending (v ∷ mine) none.0));
  };
  turns = w.turns;
  due = due_under below below' (v ∷ mine) 0 w.due;
  through = λ none. absurd (cc (none-last below.pending (v ∷ mine) none.0));
} where
  none-last : (xs ys : List Pending) → xs ++ ys ≡ [] → ys ≡ []
  none-last [] ys none = none
  none-last (x ∷ xs) ys none = absurd (cc none)

pub list_passed : (below below' : StoreView) (mine : List Pending) (entries : List Entry) (bytes : List ℕ) (answer : Answer) → length entries ≤ 0 → WritesList below entries bytes answer below'
    → WritesList (cached below mine) entries bytes answer (cached below' mine)
list_passed below below' mine entries bytes answer few w =
    let none = none-named entries few in
    rw none (empty-list below below' mine bytes answer (rw none at w))
