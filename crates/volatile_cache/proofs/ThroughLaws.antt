-- Calls that go through a cache, and calls after which some blocks were applied.
use Rattle.std.proofs.Common.{◌≡◌, inl, inr, ℕ, ◌+◌, ◌*◌, ◌≤◌, List, [], ◌∷◌, ◌++◌, ◌∙◌, length, refl, sym, ap, arith, Some, None, Ok, Err, true}
use Rattle.std.specs.Prelude.{Bool, Contains, MatchOption, OnOk, Option, Result}
use Rattle.std.specs.List.{flat_map}
use Rattle.std.proofs.Math.Nat.{add-mul}
use Rattle.std.proofs.lemmas.List.{length-append}
use Rattle.std.proofs.lemmas.Nat.{mul-le}
use Rattle.std.proofs.lemmas.List.Elements.{Contains-append_left, Contains-append_right, Contains-append_cases}
use Rattle.zone_translator.proofs.KeepingLaws.{keeps_again}
use Rattle.zone_translator.specs.Flat.{Answer, Begun, Call, FlatDisk, blocks_from, known_answer, may_refuse, read, status_after, with_nothing, write}
use Rattle.zone_translator.specs.View.{disk_turns}
use Rattle.zone_translator.specs.declared.fault.DiskFault.{DiskFault}
use Rattle.zone_translator.specs.declared.fault.DiskFault.TheVariants.{OutOfRange, OutOfMemory, Failed, Stopped, Spent, Unmounted, Smaller, Reserve, Damaged}
use Rattle.nbd_session.specs.Pending.{AreApart, Pending, overlay}
use Rattle.nbd_session.specs.Store.{Calls, ComesFrom, FailsSync, PaysFor, ReadsBlocks, StoreView, Writes, commands_due, may_fail, store_array, store_flat}
use Rattle.nbd_session.proofs.CostLaws.{bound_again, bound_so}
use Rattle.volatile_cache.specs.Outcomes.{Settles, cached, deferring, outcomes}
use Rattle.volatile_cache.proofs.Lists.{IsOfOne, in_flat_map, of_one}
use Rattle.volatile_cache.proofs.OutcomeLaws.{cached_flat, outcome_some, some_outcome, torn_under}
use Rattle.volatile_cache.proofs.CacheLaws.{WroteBlock, begun_block, due-again, either_front, empty_cache, mode_up, not_none, over, unapplied_array, unapplied_pending, unapplied_since}

turns-on : (result : Result (Unit {0}) DiskFault) (c b a : ℕ) → OnOk result (c ≤ b) → b ≤ a → OnOk result (c ≤ a)
turns-on (Ok done) c b a less more = omega (arith, less, more)
turns-on (Err fault) c b a less more = tt

-- ---- after some blocks were applied

-- Some blocks are applied, and then a call is done: that is the call. If nothing was pending, nothing was applied.
pub settled_calls : (a b c : StoreView) (call : Call) (answer : Answer) → Settles a b → (a.pending ≡ [] → b ≡ a) → Calls b call answer c → Calls a call answer c
settled_calls a b c call answer s nothing d = record {
  flat = rw (sym s.flat) d.flat;
  kept = keeps_again a.disk b.disk c.disk s.kept d.kept;
  durable = d.durable ∙ s.durable;
  cause = d.cause;
  since = λ array found. (let from = d.since array found in record { before = from.before; was = s.since from.before from.was; part = from.part });
  pending = λ w found. elim (d.pending w found) [ inl before ↦ inl (s.pending w before) | inr mine ↦ inr mine ];
  none = λ prompt. d.none (s.mode.defers ∙ prompt);
  syncs = d.syncs ∙ s.syncs;
  mode = record { read_only = d.mode.read_only ∙ s.mode.read_only; cleans = d.mode.cleans ∙ s.mode.cleans; flushes = d.mode.flushes ∙ s.mode.flushes; defers = d.mode.defers ∙ s.mode.defers; fails = d.mode.fails ∙ s.mode.fails };
  through = λ none. (rw (nothing none.0) at d.through) none;
}

pub settled_writes : (is_trim : Bool) (a b c : StoreView) (call : Call) (first n : ℕ) (answer : Answer) → Settles a b → (a.pending ≡ [] → b ≡ a) → Writes is_trim b call first n answer c → Writes is_trim a call first n answer c
settled_writes is_trim a b c call first n answer s nothing w = record {
  calls = settled_calls a b c call answer s nothing w.calls;
  turns = turns-on answer.result (disk_turns c.disk) (disk_turns b.disk) (disk_turns a.disk) w.turns s.turns;
  due = bound_again _ _ _ a.disk b.disk c.disk s.kept w.calls.kept (λ (each : ℕ) some. due-again (commands_due each c) (commands_due each b) (commands_due each a) n each) s.due w.due;
  through = λ none. (rw (nothing none.0) at w.through) none;
}

-- ---- an empty cache is the store below, which may defer

pub writes_deferring : (is_trim : Bool) (a b : StoreView) (call : Call) (first n : ℕ) (answer : Answer) → Writes is_trim a call first n answer b → Writes is_trim (deferring a) call first n answer (deferring b)
writes_deferring is_trim a b call first n answer w = record {
  calls = record {
    flat = w.calls.flat;
    kept = w.calls.kept;
    durable = w.calls.durable;
    cause = w.calls.cause;
    since = w.calls.since;
    pending = w.calls.pending;
    none = λ prompt. absurd (cc prompt);
    syncs = w.calls.syncs;
    mode = record { read_only = w.calls.mode.read_only; cleans = w.calls.mode.cleans; flushes = w.calls.mode.flushes; defers = refl; fails = w.calls.mode.fails };
    through = λ none. (let by = w.calls.through none in record { kept = by.kept; since = by.since });
  };
  turns = w.turns;
  due = w.due;
  through = w.through;
}

-- an empty cache hands a write on
pub empty_writes : (is_trim : Bool) (below below' : StoreView) (call : Call) (first n : ℕ) (answer : Answer) → Writes is_trim below call first n answer below' → Writes is_trim (cached below []) call first n answer (cached below' [])
empty_writes is_trim below below' call first n answer w = rw (empty_cache below, empty_cache below') (writes_deferring is_trim below below' call first n answer w)

-- ---- a write whose answer is known goes through, whatever is pending

pub known-over : (known : Option (Result (Unit {0}) DiskFault)) (call : Call) (mine : List Pending) (old : FlatDisk) (answer : Answer) (new : FlatDisk) (r : Result (Unit {0}) DiskFault) → known ≡ Some r
    → MatchOption known (Begun old call answer.result answer.shown new) (λ r. (answer ≡ with_nothing r) × (new ≡ old))
    → MatchOption known (Begun (over mine old) call answer.result answer.shown (over mine new)) (λ r. (answer ≡ with_nothing r) × (over mine new ≡ over mine old))
known-over None call mine old answer new r known b = absurd (cc known)
known-over (Some x) call mine old answer new r known b = (b.0, ap (over mine) b.1)

under-since : (below below' : StoreView) (mine : List Pending) (first : ℕ) (blocks : List (List ℕ)) → ((array : List (List ℕ)) → Contains below'.since array → ComesFrom below.since (write first blocks) array)
    → (array : List (List ℕ)) → Contains (flat_map (outcomes mine) below'.since) array → ComesFrom (flat_map (outcomes mine) below.since) (write first blocks) array
under-since below below' mine first blocks since array found =
    let r : IsOfOne (outcomes mine) below'.since array = of_one (outcomes mine) below'.since array found in
    let s = since r.from r.is_there in
    let u = torn_under mine s.before r.from first blocks array s.part (outcome_some mine r.from array r.is_of) in
    record { before = u.before; was = in_flat_map (outcomes mine) below.since s.before u.before s.was (some_outcome mine s.before u.before u.was); part = u.part }

under-due : (c d less more mine e n : ℕ) → c + less * e ≤ d + more * e + n * e → c + (less + mine) * e ≤ d + (more + mine) * e + n * e
under-due c d less more mine e n h = omega (arith, h, add-mul less mine e, add-mul more mine e)

-- the blocks of a cache that stay are due as before
pub due_under : (below below' : StoreView) (mine : List Pending) (n : ℕ) → PaysFor below n below' → PaysFor (cached below mine) n (cached below' mine)
due_under below below' mine n = bound_so _ _ below.disk below'.disk (λ (each : ℕ) due.
    rw (length-append below'.pending mine, length-append below.pending mine)
    (under-due below'.disk.drive.completed below.disk.drive.completed (length below'.pending) (length below.pending) (length mine) each n due))

pub known_writes : (is_trim : Bool) (below below' : StoreView) (mine : List Pending) (first : ℕ) (blocks : List (List ℕ)) (n : ℕ) (answer : Answer) (r : Result (Unit {0}) DiskFault) → known_answer (store_flat below) (write first blocks) ≡ Some r
    → Writes is_trim below (write first blocks) first n answer below' → Writes is_trim (cached below mine) (write first blocks) first n answer (cached below' mine)
known_writes is_trim below below' [] first blocks n answer r known w = rw (empty_cache below, empty_cache below') (writes_deferring is_trim below below' (write first blocks) first n answer w)
known_writes is_trim below below' (v ∷ mine) first blocks n answer r known w = record {
  calls = record {
    flat = rw (cached_flat below (v ∷ mine), cached_flat below' (v ∷ mine)) (known-over (known_answer (store_flat below) (write first blocks)) (write first blocks) (v ∷ mine) (store_flat below) answer (store_flat below') r known w.calls.flat);
    kept = w.calls.kept;
    durable = w.calls.durable;
    cause = w.calls.cause;
    since = under-since below below' (v ∷ mine) first blocks w.calls.since;
    pending = λ x found. elim (Contains-append_cases below'.pending (v ∷ mine) x found) [
      | inl under ↦ elim (w.calls.pending x under) [ inl before ↦ inl (Contains-append_left below.pending (v ∷ mine) x before) | inr new ↦ inr new ]
      | inr over ↦ inl (Contains-append_right below.pending (v ∷ mine) x over)
    ];
    none = λ prompt. absurd (cc prompt);
    syncs = w.calls.syncs;
    mode = mode_up below below' (v ∷ mine) (v ∷ mine) w.calls.mode;
    through = λ none. absurd (cc (none-last below.pending (v ∷ mine) none.0));
  };
  turns = w.turns;
  due = due_under below below' (v ∷ mine) n w.due;
  through = λ none. absurd (cc (none-last below.pending (v ∷ mine) none.0));
} where
  none-last : (xs ys : List Pending) → xs ++ ys ≡ [] → ys ≡ []
  none-last [] ys none = none
  none-last (x ∷ xs) ys none = absurd (cc none)

-- ---- a read

-- what is shown of the blocks that are pending, too
pub record ReadOver (known : Option (Result (Unit {0}) DiskFault)) (mine : List Pending) (old : FlatDisk) (first n : ℕ) (result : Result (Unit {0}) DiskFault) (new : FlatDisk) : Type 0 where
  pub shown : List (List ℕ)
  pub flat : MatchOption known (Begun (over mine old) (read first n) result shown (over mine new)) (λ r. (record { result = result; shown = shown } ≡ with_nothing r) × (over mine new ≡ over mine old))

read-over : (known : Option (Result (Unit {0}) DiskFault)) (mine : List Pending) (old : FlatDisk) (first n : ℕ) (answer : Answer) (result : Result (Unit {0}) DiskFault) (shown : List (List ℕ)) (new : FlatDisk) → answer ≡ record { result = result; shown = shown }
    → MatchOption known (Begun old (read first n) result shown new) (λ r. (answer ≡ with_nothing r) × (new ≡ old)) → ReadOver known mine old first n result new
read-over (Some r) mine old first n answer result shown new is b = record { shown = shown; flat = (sym is ∙ b.0, ap (over mine) b.1) }
read-over None mine old first n answer (Ok done) shown new is b = record { shown = blocks_from (overlay mine old.array) first n; flat = (refl, ap (over mine) b.1) }
read-over None mine old first n answer (Err fault) shown new is b = record { shown = []; flat = (b.0, refl, ap (overlay mine) b.2, ap (over mine) b.3) }

pub record ReadsThrough (below : StoreView) (mine : List Pending) (first n : ℕ) (result : Result (Unit {0}) DiskFault) (below' : StoreView) : Type 0 where
  pub shown : List (List ℕ)
  pub reads : ReadsBlocks (cached below mine) first n (record { result = result; shown = shown }) (cached below' mine)

read-since : (below below' : StoreView) (mine : List Pending) (first n : ℕ) → ((array : List (List ℕ)) → Contains below'.since array → ComesFrom below.since (read first n) array)
    → (array : List (List ℕ)) → Contains (flat_map (outcomes mine) below'.since) array → Contains (flat_map (outcomes mine) below.since) array
read-since below below' mine first n since array found =
    let r : IsOfOne (outcomes mine) below'.since array = of_one (outcomes mine) below'.since array found in
    let s = since r.from r.is_there in
    in_flat_map (outcomes mine) below.since s.before array s.was (rw s.part at r.is_of)

-- a read of the store below is a read, with the pending blocks
pub read_through : (below below' : StoreView) (mine : List Pending) (first n : ℕ) (answer : Answer) → ReadsBlocks below first n answer below' → ReadsThrough below mine first n answer.result below'
read_through below below' mine first n answer r =
    let o = read-over (known_answer (store_flat below) (read first n)) mine (store_flat below) first n answer answer.result answer.shown (store_flat below') refl r.calls.flat in
    record {
      shown = o.shown;
      reads = record {
        calls = record {
          flat = rw (cached_flat below mine, cached_flat below' mine) o.flat;
          kept = r.calls.kept;
          durable = r.calls.durable;
          cause = r.calls.cause;
          since = λ array found. record { before = array; was = read-since below below' mine first n r.calls.since array found; part = refl };
          pending = λ w found. inl (rw r.pending at found);
          none = λ prompt. absurd (cc prompt);
          syncs = r.calls.syncs;
          mode = mode_up below below' mine mine r.calls.mode;
          through = λ none. record {
            kept = (r.calls.through (none-both below.pending mine none.0, none-both below'.pending mine none.1)).kept;
            since = λ array found. inl (read-since below below' mine first n r.calls.since array found);
          };
        };
        turns = r.turns;
        completed = r.completed;
        pending = ap (λ (ws : List Pending). ws ++ mine) r.pending;
      };
    }
  where
    none-both : (xs ys : List Pending) → xs ++ ys ≡ [] → xs ≡ []
    none-both [] ys none = refl
    none-both (x ∷ xs) ys none = absurd (cc none)

-- ---- a sync that could not apply a block

failed-due : (c d less more e : ℕ) → c + less * e ≤ d + more * e + 1 * e → c ≤ d + (more + 1) * e
failed-due c d less more e h = omega (arith, h, add-mul more 1 e)

more-pending : (d more mine e : ℕ) → 1 ≤ mine → d + (more + 1) * e ≤ d + (more + mine) * e
more-pending d more mine e some = omega (arith, some, mul-le (more + 1) e (more + mine) e (omega (arith, some)) (omega arith))

may-write : (ws : List Pending) (w : Pending) (fault : DiskFault) → (ws ≡ [] → ⊥) → may_refuse (write w.place (w.block ∷ [])) fault ≡ true → may_fail ws fault ≡ true
may-write [] w fault some may = absurd (some refl)
may-write (x ∷ ws) w OutOfMemory some may = refl
may-write (x ∷ ws) w Failed some may = refl
may-write (x ∷ ws) w Stopped some may = refl
may-write (x ∷ ws) w Spent some may = refl
may-write (x ∷ ws) w OutOfRange some may = may
may-write (x ∷ ws) w Unmounted some may = may
may-write (x ∷ ws) w Smaller some may = may
may-write (x ∷ ws) w Reserve some may = may
may-write (x ∷ ws) w Damaged some may = may

long-pulled : (xs ys : List Pending) (w : Pending) → 1 ≤ length (xs ++ w ∷ ys)
long-pulled xs ys w = omega (arith, length-append xs (w ∷ ys))

-- A pending block could not be applied: the sync fails by that.
pub refused_fails : (is_trim : Bool) (below below' : StoreView) (xs ys : List Pending) (w : Pending) (fault : DiskFault) → AreApart w.place 1 xs → known_answer (store_flat below) (write w.place (w.block ∷ [])) ≡ None
    → WroteBlock is_trim below w (Err fault) below' → FailsSync (cached below (xs ++ w ∷ ys)) fault (cached below' (xs ++ w ∷ ys))
refused_fails is_trim below below' xs ys w fault apart known wrote = record {
  keeps = record {
    array = array;
    kept = wrote.calls.kept;
    durable = λ zones left. inl (rw wrote.calls.durable at left);
    turns = λ none. absurd (not_none below.pending xs ys w none);
    completed = bound_so _ _ below.disk below'.disk completed wrote.due;
    pending = unapplied_pending is_trim below below' xs ys w (Err fault) wrote;
    since = λ left found. inl (unapplied_since is_trim below below' xs ys w (Err fault) apart wrote left found);
    syncs = omega (arith, wrote.calls.syncs);
    mode = mode_up below below' (xs ++ w ∷ ys) (xs ++ w ∷ ys) wrote.calls.mode;
    silent = λ off none. absurd (not_none below.pending xs ys w none);
  };
  flushes = λ none. absurd (not_none below.pending xs ys w none);
  may = may-write (below.pending ++ (xs ++ w ∷ ys)) w fault (not_none below.pending xs ys w) begun.0;
  flat = stands;
  cause = wrote.calls.cause;
} where
  begun : Begun (store_flat below) (write w.place (w.block ∷ [])) (Err fault) [] (store_flat below')
  begun = begun_block is_trim below below' w fault known wrote

  array : store_array (cached below' (xs ++ w ∷ ys)) ≡ store_array (cached below (xs ++ w ∷ ys))
  array = unapplied_array below below' xs ys w apart (either_front (store_array below) w.place w.block (store_array below') begun.2)

  stands : store_flat (cached below' (xs ++ w ∷ ys)) ≡ record (store_flat (cached below (xs ++ w ∷ ys))) { status = status_after (Err fault) }
  stands = ap (λ (d : FlatDisk). record d { array = store_array (cached below' (xs ++ w ∷ ys)) }) begun.3
      ∙ ap (λ (c : List (List ℕ)). record (store_flat (cached below (xs ++ w ∷ ys))) { array = c; status = status_after (Err fault) }) array

  completed : (each : ℕ) → commands_due each below' ≤ commands_due each below + 1 * each → below'.disk.drive.completed ≤ commands_due each (cached below (xs ++ w ∷ ys)) + 1
  completed each due =
      let first = failed-due below'.disk.drive.completed below.disk.drive.completed (length below'.pending) (length below.pending) each due in
      let more = more-pending below.disk.drive.completed (length below.pending) (length (xs ++ w ∷ ys)) each (long-pulled xs ys w) in
      rw (length-append below.pending (xs ++ w ∷ ys)) (omega (arith, first, more))
