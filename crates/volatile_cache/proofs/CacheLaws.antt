-- A cache above a store keeps the contract of a store.
use Rattle.std.proofs.Common.{◌≡◌, set-set, inl, inr, ℕ, zero, suc, ◌+◌, ◌*◌, ◌≤◌, List, [], ◌∷◌, ◌++◌, ◌∙◌, length, set, refl, sym, ap, arith, Some, None, Ok, Err, true}
use Rattle.std.specs.Prelude.{◌⊎◌, Bool, Contains, MatchOption, Option, Result}
use Rattle.std.specs.List.{flat_map}
use Rattle.std.proofs.Math.Nat.{add-mul}
use Rattle.std.proofs.lemmas.List.{append-nil, length-append}
use Rattle.std.proofs.lemmas.List.Elements.{Contains-append_left, Contains-append_right, Contains-append_cases}
use Rattle.zone_translator.proofs.KeepingLaws.{keeps_again, keeps_same}
use Rattle.zone_translator.specs.Flat.{Begun, Call, FlatDisk, IsFront, answer_while, idle, known_answer, replaced, status_after, with_nothing, write}
use Rattle.zone_translator.specs.View.{disk_array, disk_turns, flat_of}
use Rattle.zone_translator.specs.declared.fault.DiskFault.{DiskFault}
use Rattle.zone_translator.specs.declared.fault.DiskFault.TheVariants.{OutOfRange, OutOfMemory, Failed, Stopped, Spent, Unmounted, Smaller, Reserve, Damaged}
use Rattle.nbd_session.specs.declared.fault.StoreFault.{StoreFault}
use Rattle.nbd_session.specs.declared.fault.StoreFault.TheVariants.{Disk, Medium}
use Rattle.nbd_session.specs.Pending.{AreApart, HoldsSome, Pending, overlay, pieces}
use Rattle.nbd_session.specs.Store.{Calls, ComesFrom, KeepsBySync, KeepsMode, PaysFor, StoreView, SyncsBy, TakesOneTurn, Writes, commands_due, may_fail, store_array, store_flat}
use Rattle.nbd_session.proofs.CostLaws.{bound_again, bound_always, bound_so}
use Rattle.nbd_session.proofs.PendingLaws.{front-torn, same-torn}
use Rattle.volatile_cache.specs.Outcomes.{Settles, cached, deferring, outcomes}
use Rattle.volatile_cache.proofs.Lists.{IsOfOne, in_flat_map, of_one}
use Rattle.volatile_cache.proofs.OutcomeLaws.{Through, cached_array, cached_flat, nothing_replaced, outcome_some, overlay_append, overlay_pieces, pulled, pulled_some, replaced_one, some_append, some_outcome, swapped, through, torn_one, torn_pieces}

-- ---- lists

in-second : (before xs ys : List Pending) (w : Pending) → Contains ys w → Contains (before ++ (xs ++ ys)) w
in-second before xs ys w found = Contains-append_right before (xs ++ ys) w (Contains-append_right xs ys w found)

in-first : (before xs ys : List Pending) (w : Pending) → Contains xs w → Contains (before ++ (xs ++ ys)) w
in-first before xs ys w found = Contains-append_right before (xs ++ ys) w (Contains-append_left xs ys w found)

is_later : {X : Type 0} (x : X) (xs : List X) (a : X) → Contains xs a → Contains (x ∷ xs) a
is_later x xs a found = (suc found.0, omega (arith, found.1), found.2)

is_head : {X : Type 0} (x : X) (xs : List X) (a : X) → a ≡ x → Contains (x ∷ xs) a
is_head x xs a same = (zero, omega arith, sym same)

due-sum : (c d less more m e : ℕ) → c + less * e ≤ d + more * e + 1 * e → c + (less + m) * e ≤ d + (more + (m + 1)) * e + 0 * e
due-sum c d less more m e h = omega (arith, h, add-mul less m e, add-mul more (m + 1) e, add-mul m 1 e)

length-pulled : (xs ys : List Pending) (w : Pending) → length (xs ++ w ∷ ys) ≡ length (xs ++ ys) + 1
length-pulled xs ys w = omega (arith, length-append xs (w ∷ ys), length-append xs ys)

-- the mode is the one of the store below
pub mode_up : (below below' : StoreView) (mine left : List Pending) → KeepsMode below below' → KeepsMode (cached below mine) (cached below' left)
mode_up below below' mine left m = record { read_only = m.read_only; cleans = m.cleans; flushes = m.flushes; defers = refl; fails = m.fails }

-- ---- a block is applied

-- what the store below did
abbrev pub WroteBlock : Bool → StoreView → Pending → Result (Unit {0}) DiskFault → StoreView → Type 0
WroteBlock is_trim below w result below' = Writes is_trim below (write w.place (w.block ∷ [])) w.place 1 (with_nothing result) below'

since-less : (is_trim : Bool) (below below' : StoreView) (w : Pending) (xs ys : List Pending) (result : Result (Unit {0}) DiskFault) → WroteBlock is_trim below w result below' → AreApart w.place 1 xs
    → (array : List (List ℕ)) → Contains (flat_map (outcomes (xs ++ ys)) below'.since) array → Contains (flat_map (outcomes (xs ++ w ∷ ys)) below.since) array
since-less is_trim below below' w xs ys result wrote apart array found =
    let r : IsOfOne (outcomes (xs ++ ys)) below'.since array = of_one (outcomes (xs ++ ys)) below'.since array found in
    let s : ComesFrom below.since (write w.place (w.block ∷ [])) r.from = wrote.calls.since r.from r.is_there in
    in_flat_map (outcomes (xs ++ w ∷ ys)) below.since s.before array s.was
    (some_outcome (xs ++ w ∷ ys) s.before array (pulled_some xs ys w s.before r.from array apart (torn_one s.before w.place w.block r.from s.part) (outcome_some (xs ++ ys) r.from array r.is_of)))

only-piece : (v w : Pending) → Contains (w ∷ []) v → v ≡ w
only-piece v w (zero, few, same) = sym same
only-piece v w (suc k, few, same) = absurd (omega (arith, few))

pending-less : (is_trim : Bool) (below below' : StoreView) (w : Pending) (xs ys : List Pending) (result : Result (Unit {0}) DiskFault) → WroteBlock is_trim below w result below'
    → (v : Pending) → Contains (below'.pending ++ (xs ++ ys)) v → Contains (below.pending ++ (xs ++ w ∷ ys)) v
pending-less is_trim below below' w xs ys result wrote v found = elim (Contains-append_cases below'.pending (xs ++ ys) v found) [
  | inl under ↦ elim (wrote.calls.pending v under) [
    | inl before ↦ Contains-append_left below.pending (xs ++ w ∷ ys) v before
    | inr mine ↦ in-second below.pending xs (w ∷ ys) v (is_head w ys v (only-piece v w mine))
  ]
  | inr over ↦ elim (Contains-append_cases xs ys v over) [
    | inl first ↦ in-first below.pending xs (w ∷ ys) v first
    | inr second ↦ in-second below.pending xs (w ∷ ys) v (is_later w ys v second)
  ]
]

due-less : (is_trim : Bool) (below below' : StoreView) (w : Pending) (xs ys : List Pending) (result : Result (Unit {0}) DiskFault) → WroteBlock is_trim below w result below'
    → PaysFor (cached below (xs ++ w ∷ ys)) 0 (cached below' (xs ++ ys))
due-less is_trim below below' w xs ys result wrote = bound_so _ _ below.disk below'.disk (λ (each : ℕ) due.
    rw (length-append below'.pending (xs ++ ys), length-append below.pending (xs ++ w ∷ ys), length-pulled xs ys w)
    (due-sum below'.disk.drive.completed below.disk.drive.completed (length below'.pending) (length below.pending) (length (xs ++ ys)) each due)) wrote.due

-- the array of the cache stays, done
array-pulled : (below below' : StoreView) (w : Pending) (xs ys : List Pending) → AreApart w.place 1 xs → store_array below' ≡ replaced (store_array below) w.place (w.block ∷ [])
    → store_array (cached below' (xs ++ ys)) ≡ store_array (cached below (xs ++ w ∷ ys))
array-pulled below below' w xs ys apart done =
    cached_array below' (xs ++ ys)
    ∙ (ap (overlay (xs ++ ys)) (done ∙ replaced_one (store_array below) w.place w.block)
    ∙ (pulled xs ys w (store_array below) apart ∙ sym (cached_array below (xs ++ w ∷ ys))))

begun-array : (known : Option (Result (Unit {0}) DiskFault)) (old : FlatDisk) (call : Call) (new : FlatDisk) → known ≡ None
    → MatchOption known (Begun old call (Ok tt) [] new) (λ r. (with_nothing (Ok tt) ≡ with_nothing r) × (new ≡ old)) → Begun old call (Ok tt) [] new
begun-array (Some r) old call new none b = absurd (cc none)
begun-array None old call new none b = b

-- A pending block that lies apart from all older ones is applied: the store above is as it was.
pub applied_settles : (is_trim : Bool) (below below' : StoreView) (w : Pending) (xs ys : List Pending) → AreApart w.place 1 xs → known_answer (store_flat below) (write w.place (w.block ∷ [])) ≡ None
    → WroteBlock is_trim below w (Ok tt) below' → Settles (cached below (xs ++ w ∷ ys)) (cached below' (xs ++ ys))
applied_settles is_trim below below' w xs ys apart known wrote =
    let b = begun-array (known_answer (store_flat below) (write w.place (w.block ∷ []))) (store_flat below) (write w.place (w.block ∷ [])) (store_flat below') known wrote.calls.flat in
    let array = array-pulled below below' w xs ys apart (ap (λ (d : FlatDisk). d.array) b.1) in
    record {
      flat = cached_flat below' (xs ++ ys) ∙ rest b.1 ∙ sym (cached_flat below (xs ++ w ∷ ys));
      kept = wrote.calls.kept;
      durable = wrote.calls.durable;
      since = since-less is_trim below below' w xs ys (Ok tt) wrote apart;
      pending = pending-less is_trim below below' w xs ys (Ok tt) wrote;
      syncs = wrote.calls.syncs;
      mode = mode_up below below' (xs ++ w ∷ ys) (xs ++ ys) wrote.calls.mode;
      turns = wrote.turns;
      due = due-less is_trim below below' w xs ys (Ok tt) wrote;
    }
  where
    -- all but the array of the store below is the same
    rest : store_flat below' ≡ record (store_flat below) { array = replaced (store_array below) w.place (w.block ∷ []) }
        → record (store_flat below') { array = overlay (xs ++ ys) (store_array below') } ≡ record (store_flat below) { array = overlay (xs ++ w ∷ ys) (store_array below) }
    rest is =
        ap (λ (d : FlatDisk). record d { array = overlay (xs ++ ys) d.array }) is
        ∙ ap (λ (a : List (List ℕ)). record (store_flat below) { array = a }) (ap (overlay (xs ++ ys)) (replaced_one (store_array below) w.place w.block) ∙ pulled xs ys w (store_array below) apart)

due-same : (d e : ℕ) → d ≤ d + 0 * e
due-same d e = omega arith

-- nothing is applied
pub settles_same : (store : StoreView) → Settles store store
settles_same store = record {
  flat = refl;
  kept = keeps_same store.disk;
  durable = refl;
  since = λ array found. found;
  pending = λ w found. found;
  syncs = refl;
  mode = record { read_only = refl; cleans = refl; flushes = refl; defers = refl; fails = refl };
  turns = omega arith;
  due = bound_always _ store.disk store.disk (λ (each : ℕ). due-same (commands_due each store) each);
}

pub due-again : (c b a n e : ℕ) → b ≤ a + 0 * e → c ≤ b + n * e → c ≤ a + n * e
due-again c b a n e first second = omega (arith, first, second)

-- one after the other
pub settles_again : (a b c : StoreView) → Settles a b → Settles b c → Settles a c
settles_again a b c x y = record {
  flat = y.flat ∙ x.flat;
  kept = keeps_again a.disk b.disk c.disk x.kept y.kept;
  durable = y.durable ∙ x.durable;
  since = λ array found. x.since array (y.since array found);
  pending = λ w found. x.pending w (y.pending w found);
  syncs = y.syncs ∙ x.syncs;
  mode = record { read_only = y.mode.read_only ∙ x.mode.read_only; cleans = y.mode.cleans ∙ x.mode.cleans; flushes = y.mode.flushes ∙ x.mode.flushes; defers = y.mode.defers ∙ x.mode.defers; fails = y.mode.fails ∙ x.mode.fails };
  turns = omega (arith, x.turns, y.turns);
  due = bound_again _ _ _ a.disk b.disk c.disk x.kept y.kept (λ (each : ℕ) some. due-again (commands_due each c) (commands_due each b) (commands_due each a) 0 each) x.due y.due;
}

-- ---- a write goes to the cache

some-pieces : (first : ℕ) (blocks : List (List ℕ)) (xs ys : List Pending) → 1 ≤ length blocks → xs ++ (ys ++ pieces first blocks) ≡ [] → ⊥
some-pieces first [] xs ys some none = omega (arith, some)
some-pieces first (b ∷ bs) xs ys some none =
    let long : length (xs ++ (ys ++ pieces first (b ∷ bs))) ≡ 0 = ap length none in
    omega (arith, long, length-append xs (ys ++ pieces first (b ∷ bs)), length-append ys (pieces first (b ∷ bs)))

pub length_pieces : (first : ℕ) (blocks : List (List ℕ)) → length (pieces first blocks) ≡ length blocks
length_pieces first [] = refl
length_pieces first (b ∷ bs) = ap suc (length_pieces (suc first) bs)

kept-since : (below : StoreView) (mine : List Pending) (first : ℕ) (blocks : List (List ℕ)) (array : List (List ℕ)) → Contains (flat_map (outcomes (mine ++ pieces first blocks)) below.since) array
    → ComesFrom (flat_map (outcomes mine) below.since) (write first blocks) array
kept-since below mine first blocks array found =
    let r : IsOfOne (outcomes (mine ++ pieces first blocks)) below.since array = of_one (outcomes (mine ++ pieces first blocks)) below.since array found in
    let t : Through mine (pieces first blocks) r.from array = through mine (pieces first blocks) r.from array (outcome_some (mine ++ pieces first blocks) r.from array r.is_of) in
    record {
      before = t.middle;
      was = in_flat_map (outcomes mine) below.since r.from t.middle r.is_there (some_outcome mine r.from t.middle t.was);
      part = torn_pieces t.middle first blocks array t.later;
    }

kept-pending : (below : StoreView) (mine : List Pending) (first : ℕ) (blocks : List (List ℕ)) (w : Pending) → Contains (below.pending ++ (mine ++ pieces first blocks)) w
    → Contains (below.pending ++ mine) w ⊎ Contains (pieces first blocks) w
kept-pending below mine first blocks w found = elim (Contains-append_cases below.pending (mine ++ pieces first blocks) w found) [
  | inl under ↦ inl (Contains-append_left below.pending mine w under)
  | inr over ↦ elim (Contains-append_cases mine (pieces first blocks) w over) [
    | inl before ↦ inl (Contains-append_right below.pending mine w before)
    | inr new ↦ inr new
  ]
]

due-kept : (c before mine n e : ℕ) → c + (before + (mine + n)) * e ≤ c + (before + mine) * e + n * e
due-kept c before mine n e = omega (arith, add-mul before (mine + n) e, add-mul mine n e, add-mul before mine e)

-- A write that is only kept in the cache is a write, by the contract of a store.
pub kept_writes : (is_trim : Bool) (below : StoreView) (mine : List Pending) (first : ℕ) (blocks : List (List ℕ)) → 1 ≤ length blocks → known_answer (store_flat (cached below mine)) (write first blocks) ≡ None
    → Writes is_trim (cached below mine) (write first blocks) first (length blocks) (with_nothing (Ok tt)) (cached below (mine ++ pieces first blocks))
kept_writes is_trim below mine first blocks some known = record {
  calls = record {
    flat = rw known (refl, ap (λ (a : List (List ℕ)). record (flat_of below.disk) { array = a }) array_is);
    kept = keeps_same below.disk;
    durable = refl;
    cause = tt;
    since = kept-since below mine first blocks;
    pending = kept-pending below mine first blocks;
    none = λ prompt. absurd (cc prompt);
    syncs = refl;
    mode = record { read_only = refl; cleans = refl; flushes = refl; defers = refl; fails = refl };
    through = λ none. absurd (some-pieces first blocks below.pending mine some none.1);
  };
  turns = omega arith;
  due = bound_always _ below.disk below.disk (λ (each : ℕ).
      rw (length-append below.pending (mine ++ pieces first blocks), length-append mine (pieces first blocks), length-append below.pending mine, length_pieces first blocks)
      (due-kept below.disk.drive.completed (length below.pending) (length mine) (length blocks) each));
  through = λ none. absurd (some-pieces first blocks below.pending mine some none.1);
} where
  array_is : store_array (cached below (mine ++ pieces first blocks)) ≡ replaced (store_array (cached below mine)) first blocks
  array_is =
      cached_array below (mine ++ pieces first blocks)
      ∙ (overlay_append mine (pieces first blocks) (store_array below)
      ∙ (overlay_pieces (overlay mine (store_array below)) first blocks
      ∙ ap (λ (a : List (List ℕ)). replaced a first blocks) (sym (cached_array below mine))))

-- ---- an empty cache is no cache

flat-ones : (since : List (List (List ℕ))) → flat_map (outcomes []) since ≡ since
flat-ones [] = refl
flat-ones (a ∷ more) = ap (λ (rest : List (List (List ℕ))). a ∷ rest) (flat-ones more)

pub empty_cache : (below : StoreView) → cached below [] ≡ deferring below
empty_cache below = rw (append-nil below.pending, flat-ones below.since) refl

-- ---- a sync

due-one : (c b a more left e : ℕ) → b + (more + left) * e ≤ a + 0 * e → c ≤ b + more * e + 1 → c ≤ a + 1
due-one c b a more left e first second = omega (arith, first, second, add-mul more left e)

-- What the store below keeps by a sync after some blocks were applied, the cache keeps. `IsLess` says what may be left in it.
pub keeps_synced : (below middle last : StoreView) (mine left : List Pending) → Settles (cached below mine) (cached middle left)
    → (below.pending ++ mine ≡ [] → (middle ≡ below) × (left ≡ [])) → KeepsBySync middle last → KeepsBySync (cached below mine) (cached last left)
keeps_synced below middle last mine left s nothing k = record {
  array = cached_array last left ∙ (ap (overlay left) k.array ∙ sym (cached_array middle left)) ∙ ap (λ (d : FlatDisk). d.array) s.flat;
  kept = keeps_again below.disk middle.disk last.disk s.kept k.kept;
  durable = λ zones found. elim (k.durable zones found) [ inl before ↦ inl (rw s.durable at before) | inr now ↦ inr now ];
  turns = λ none. k.turns (none-under none) ∙ ap (λ (m : StoreView). disk_turns m.disk) (nothing none).0;
  completed = bound_again _ _ _ below.disk middle.disk last.disk s.kept k.kept (λ (each : ℕ) some first second.
      due-one last.disk.drive.completed middle.disk.drive.completed (commands_due each (cached below mine)) (length middle.pending) (length left) each (rw (length-append middle.pending left) at first) second) s.due k.completed;
  pending = λ w found. elim (Contains-append_cases last.pending left w found) [
    | inl under ↦ s.pending w (Contains-append_left middle.pending left w (k.pending w under))
    | inr over ↦ s.pending w (Contains-append_right middle.pending left w over)
  ];
  since = λ array found.
      (let r : IsOfOne (outcomes left) last.since array = of_one (outcomes left) last.since array found in
      elim (k.since r.from r.is_there) [
        | inl before ↦ inl (s.since array (in_flat_map (outcomes left) middle.since r.from array before r.is_of))
        | inr some ↦ inr (some_append last.pending left (disk_array last.disk) r.from array some (outcome_some left r.from array r.is_of))
      ]);
  syncs = rw s.syncs at k.syncs;
  mode = record { read_only = k.mode.read_only ∙ s.mode.read_only; cleans = k.mode.cleans ∙ s.mode.cleans; flushes = k.mode.flushes ∙ s.mode.flushes; defers = refl; fails = k.mode.fails ∙ s.mode.fails };
  silent = λ off none. (
      let n = nothing none in
      let quiet = k.silent (s.mode.flushes ∙ off) (none-under none) in
      record {
        disk = quiet.disk ∙ ap (λ (m : StoreView). m.disk) n.0;
        since = λ array found. s.since array (more-since quiet.since array found);
      });
} where
  none-under : below.pending ++ mine ≡ [] → middle.pending ≡ []
  none-under none = ap (λ (m : StoreView). m.pending) (nothing none).0 ∙ first-none below.pending mine none
    where
      first-none : (xs ys : List Pending) → xs ++ ys ≡ [] → xs ≡ []
      first-none [] ys none = refl
      first-none (x ∷ xs) ys none = absurd (cc none)

  more-since : ((array : List (List ℕ)) → Contains last.since array → Contains middle.since array) → (array : List (List ℕ)) → Contains (flat_map (outcomes left) last.since) array → Contains (flat_map (outcomes left) middle.since) array
  more-since so array found =
      let r : IsOfOne (outcomes left) last.since array = of_one (outcomes left) last.since array found in
      in_flat_map (outcomes left) middle.since r.from array (so r.from r.is_there) r.is_of

-- as a flush may be refused, so may a write
may-first : (ws : List Pending) (w : Pending) (vs : List Pending) (fault : DiskFault) → may_fail ws fault ≡ true → may_fail (w ∷ vs) fault ≡ true
may-first ws w vs OutOfMemory may = refl
may-first ws w vs Failed may = refl
may-first ws w vs Stopped may = refl
may-first ws w vs Spent may = refl
may-first [] w vs OutOfRange may = may
may-first (x ∷ ws) w vs OutOfRange may = may
may-first [] w vs Damaged may = may
may-first (x ∷ ws) w vs Damaged may = may
may-first [] w vs Unmounted may = may
may-first (x ∷ ws) w vs Unmounted may = may
may-first [] w vs Smaller may = may
may-first (x ∷ ws) w vs Smaller may = may
may-first [] w vs Reserve may = may
may-first (x ∷ ws) w vs Reserve may = may

pub may_more : (ws vs : List Pending) (fault : DiskFault) → (vs ≡ [] → ⊥) → may_fail ws fault ≡ true → may_fail vs fault ≡ true
may_more ws [] fault some may = absurd (some refl)
may_more ws (v ∷ vs) fault some may = may-first ws v vs fault may

none-first : (xs ys zs : List Pending) → (xs ++ ys ≡ [] → zs ≡ xs) → xs ++ ys ≡ [] → zs ≡ []
none-first [] ys zs same none = same none
none-first (x ∷ xs) ys zs same none = absurd (cc none)

may-through : (xs ys zs : List Pending) (fault : DiskFault) → (xs ++ ys ≡ [] → zs ≡ xs) → may_fail zs fault ≡ true → may_fail (xs ++ ys) fault ≡ true
may-through [] [] zs fault same may = rw (same refl) at may
may-through [] (y ∷ ys) zs fault same may = may-first zs y ys fault may
may-through (x ∷ xs) ys zs fault same may = may-first zs x (xs ++ ys) fault may

flat-through : (below middle last : StoreView) (mine left : List Pending) → Settles (cached below mine) (cached middle left) → store_flat last ≡ store_flat middle → store_flat (cached last left) ≡ store_flat (cached below mine)
flat-through below middle last mine left s same =
    cached_flat last left ∙ (ap (λ (d : FlatDisk). record d { array = overlay left d.array }) same ∙ sym (cached_flat middle left)) ∙ s.flat

flat-failed : (below middle last : StoreView) (mine left : List Pending) (fault : DiskFault) → Settles (cached below mine) (cached middle left) → store_flat last ≡ record (store_flat middle) { status = status_after (Err fault) }
    → store_flat (cached last left) ≡ record (store_flat (cached below mine)) { status = status_after (Err fault) }
flat-failed below middle last mine left fault s is =
    cached_flat last left
    ∙ (ap (λ (d : FlatDisk). record d { array = overlay left d.array }) is
    ∙ ap (λ (d : FlatDisk). record d { status = status_after (Err fault) }) (sym (cached_flat middle left) ∙ s.flat))

-- What is done when all that has to be durable was applied: the sync is one of the store below.
pub syncs_through : (IsBelow IsDone : List Pending → Type 0) (below middle last : StoreView) (mine left : List Pending) (result : Result (Unit {0}) StoreFault)
    → Settles (cached below mine) (cached middle left) → (below.pending ++ mine ≡ [] → (middle ≡ below) × (left ≡ []))
    → (IsBelow last.pending → IsDone (last.pending ++ left)) → middle.disk.status ≡ below.disk.status
    → SyncsBy IsBelow middle result last → answer_while below.disk.status ≡ None → SyncsBy IsDone (cached below mine) result (cached last left)
syncs_through IsBelow IsDone below middle last mine left (Ok done) s nothing is same sync serves = (
  serves,
  record {
    keeps = keeps_synced below middle last mine left s nothing sync.1.keeps;
    flat = flat-through below middle last mine left s sync.1.flat;
    turns = omega (arith, s.turns, sync.1.turns);
    more = rw s.syncs at sync.1.more;
    done = is sync.1.done;
    since = λ array found.
        (let r : IsOfOne (outcomes left) last.since array = of_one (outcomes left) last.since array found in
        some_append last.pending left (disk_array last.disk) r.from array (sync.1.since r.from r.is_there) (outcome_some left r.from array r.is_of));
  },
)
syncs_through IsBelow IsDone below middle last mine left (Err (Disk fault)) s nothing is same (inl sync) serves = absurd (cc (sym (sym (ap answer_while same) ∙ sync.0) ∙ serves))
syncs_through IsBelow IsDone below middle last mine left (Err (Disk fault)) s nothing is same (inr sync) serves = inr (
  serves,
  record {
    keeps = keeps_synced below middle last mine left s nothing sync.1.keeps;
    flushes = λ none. sym (s.mode.flushes) ∙ sync.1.flushes (none-first below.pending mine middle.pending (λ n. ap (λ (m : StoreView). m.pending) (nothing n).0) none);
    may = may-through below.pending mine middle.pending fault (λ n. ap (λ (m : StoreView). m.pending) (nothing n).0) sync.1.may;
    flat = flat-failed below middle last mine left fault s sync.1.flat;
    cause = sync.1.cause;
  },
)
syncs_through IsBelow IsDone below middle last mine left (Err Medium) s nothing is same sync serves =
    (serves, keeps_synced below middle last mine left s nothing sync.1, flat-through below middle last mine left s sync.2)

-- the status is that of the disk below
settled-status : (old new : StoreView) → Settles old new → new.disk.status ≡ old.disk.status
settled-status old new s = ap (λ (d : FlatDisk). d.status) s.flat

-- A sync: all is applied, and the store below is synced.
pub sync_all : (below middle last : StoreView) (mine : List Pending) (result : Result (Unit {0}) StoreFault) → Settles (cached below mine) (cached middle []) → (mine ≡ [] → middle ≡ below)
    → SyncsBy (λ (pending : List Pending). pending ≡ []) middle result last → answer_while below.disk.status ≡ None
    → SyncsBy (λ (pending : List Pending). pending ≡ []) (cached below mine) result (cached last [])
sync_all below middle last mine result s nothing sync serves =
    syncs_through (λ (pending : List Pending). pending ≡ []) (λ (pending : List Pending). pending ≡ []) below middle last mine [] result s (λ none. (nothing (none-second below.pending mine none), refl))
    (λ none. append-nil last.pending ∙ none) (settled-status (cached below mine) (cached middle []) s) sync serves
  where
    none-second : (xs ys : List Pending) → xs ++ ys ≡ [] → ys ≡ []
    none-second [] ys none = none
    none-second (x ∷ xs) ys none = absurd (cc none)

apart-append : (xs ys : List Pending) (first n : ℕ) → AreApart first n xs → AreApart first n ys → AreApart first n (xs ++ ys)
apart-append [] ys first n x y = y
apart-append (w ∷ xs) ys first n x y = (x.0, apart-append xs ys first n x.1 y)

-- Some blocks are forced: they are applied, and the store below is forced to keep them.
pub force_some : (below middle last : StoreView) (mine left : List Pending) (first n : ℕ) (result : Result (Unit {0}) StoreFault) → Settles (cached below mine) (cached middle left) → (mine ≡ [] → (middle ≡ below) × (left ≡ []))
    → AreApart first n left → SyncsBy (AreApart first n) middle result last → answer_while below.disk.status ≡ None → SyncsBy (AreApart first n) (cached below mine) result (cached last left)
force_some below middle last mine left first n result s nothing apart sync serves =
    syncs_through (AreApart first n) (AreApart first n) below middle last mine left result s (λ none. nothing (none-second below.pending mine none))
    (λ under. apart-append last.pending left first n under apart) (settled-status (cached below mine) (cached middle left) s) sync serves
  where
    none-second : (xs ys : List Pending) → xs ++ ys ≡ [] → ys ≡ []
    none-second [] ys none = none
    none-second (x ∷ xs) ys none = absurd (cc none)

-- ---- a turn

abbrev pub over : List Pending → FlatDisk → FlatDisk
over mine disk = record disk { array = overlay mine disk.array }

idle-over : (known : Option (Result (Unit {0}) DiskFault)) (mine : List Pending) (old : FlatDisk) (result : Result (Unit {0}) DiskFault) (new : FlatDisk)
    → MatchOption known (Begun old idle result [] new) (λ r. (with_nothing result ≡ with_nothing r) × (new ≡ old))
    → MatchOption known (Begun (over mine old) idle result [] (over mine new)) (λ r. (with_nothing result ≡ with_nothing r) × (over mine new ≡ over mine old))
idle-over (Some r) mine old result new c = (c.0, ap (over mine) c.1)
idle-over None mine old (Ok done) new c = (c.0, ap (over mine) c.1)
idle-over None mine old (Err fault) new c = (c.0, c.1, ap (overlay mine) c.2, ap (over mine) c.3)

none-both : (xs ys : List Pending) → xs ++ ys ≡ [] → xs ≡ []
none-both [] ys none = refl
none-both (x ∷ xs) ys none = absurd (cc none)

turn-since : (below below' : StoreView) (mine : List Pending) → TakesOneTurn below below' → (array : List (List ℕ)) → Contains (flat_map (outcomes mine) below'.since) array → Contains (flat_map (outcomes mine) below.since) array
turn-since below below' mine t array found =
    let r : IsOfOne (outcomes mine) below'.since array = of_one (outcomes mine) below'.since array found in
    let s = t.calls.since r.from r.is_there in
    in_flat_map (outcomes mine) below.since s.before array s.was (rw s.part at r.is_of)

-- a turn of the store below is one of the store with the cache
pub turn_through : (below below' : StoreView) (mine : List Pending) → TakesOneTurn below below' → TakesOneTurn (cached below mine) (cached below' mine)
turn_through below below' mine t = record {
  result = t.result;
  calls = record {
    flat = rw (cached_flat below mine, cached_flat below' mine) (idle-over (known_answer (store_flat below) idle) mine (store_flat below) t.result (store_flat below') t.calls.flat);
    kept = t.calls.kept;
    durable = t.calls.durable;
    cause = t.calls.cause;
    since = λ array found. record { before = array; was = turn-since below below' mine t array found; part = refl };
    pending = λ w found. inl (rw t.pending at found);
    none = λ prompt. absurd (cc prompt);
    syncs = t.calls.syncs;
    mode = mode_up below below' mine mine t.calls.mode;
    through = λ none. record {
      kept = (t.calls.through (none-both below.pending mine none.0, none-both below'.pending mine none.1)).kept;
      since = λ array found. inl (turn-since below below' mine t array found);
    };
  };
  turn = t.turn;
  completed = t.completed;
  pending = ap (λ (ws : List Pending). ws ++ mine) t.pending;
}

-- ---- a write that is refused, since a pending block could not be applied

failed-array : (known : Option (Result (Unit {0}) DiskFault)) (call : Call) (old : FlatDisk) (fault : DiskFault) (new : FlatDisk) → known ≡ None
    → MatchOption known (Begun old call (Err fault) [] new) (λ r. (with_nothing (Err fault) ≡ with_nothing r) × (new ≡ old)) → Begun old call (Err fault) [] new
failed-array (Some r) call old fault new none b = absurd (cc none)
failed-array None call old fault new none b = b

-- what the store below began with the block that it refused
pub begun_block : (is_trim : Bool) (below below' : StoreView) (w : Pending) (fault : DiskFault) → known_answer (store_flat below) (write w.place (w.block ∷ [])) ≡ None
    → WroteBlock is_trim below w (Err fault) below' → Begun (store_flat below) (write w.place (w.block ∷ [])) (Err fault) [] (store_flat below')
begun_block is_trim below below' w fault known wrote =
    failed-array (known_answer (store_flat below) (write w.place (w.block ∷ []))) (write w.place (w.block ∷ [])) (store_flat below) fault (store_flat below') known wrote.calls.flat

pub either_front : (old : List (List ℕ)) (place : ℕ) (block : List ℕ) (new : List (List ℕ)) → IsFront old place (block ∷ []) new → (new ≡ old) ⊎ (new ≡ set old place block)
either_front old place block new front = torn_one old place block new (front-torn old place (block ∷ []) new front)

-- a block that stays pending is written over what was done of it
twice-set : (xs ys : List Pending) (w : Pending) (base : List (List ℕ)) → AreApart w.place 1 xs → overlay (xs ++ w ∷ ys) (set base w.place w.block) ≡ overlay (xs ++ w ∷ ys) base
twice-set xs ys w base apart =
    sym (pulled xs ys w (set base w.place w.block) apart) ∙ (ap (overlay (xs ++ ys)) (set-set base w.place w.block w.block) ∙ pulled xs ys w base apart)

twice-some : (xs ys : List Pending) (w : Pending) (base array : List (List ℕ)) → AreApart w.place 1 xs → HoldsSome (xs ++ w ∷ ys) (set base w.place w.block) array → HoldsSome (xs ++ w ∷ ys) base array
twice-some [] ys w base array apart (inl some) = inr some
twice-some [] ys w base array apart (inr some) = inr (rw (set-set base w.place w.block w.block) at some)
twice-some (x ∷ xs) ys w base array apart (inl some) = inl (twice-some xs ys w base array apart.1 some)
twice-some (x ∷ xs) ys w base array apart (inr some) = inr (twice-some xs ys w (set base x.place x.block) array apart.1 (rw (sym (swapped base x w apart.0)) at some))

pub over_some : (xs ys : List Pending) (w : Pending) (base base' array : List (List ℕ)) → AreApart w.place 1 xs → (base' ≡ base) ⊎ (base' ≡ set base w.place w.block) → HoldsSome (xs ++ w ∷ ys) base' array → HoldsSome (xs ++ w ∷ ys) base array
over_some xs ys w base base' array apart (inl same) some = rw same at some
over_some xs ys w base base' array apart (inr same) some = twice-some xs ys w base array apart (rw same at some)

-- A block that could not be applied stays pending. Done or not below, the array above is the same.
pub unapplied_array : (below below' : StoreView) (xs ys : List Pending) (w : Pending) → AreApart w.place 1 xs → (store_array below' ≡ store_array below) ⊎ (store_array below' ≡ set (store_array below) w.place w.block)
    → store_array (cached below' (xs ++ w ∷ ys)) ≡ store_array (cached below (xs ++ w ∷ ys))
unapplied_array below below' xs ys w apart (inl same) = cached_array below' (xs ++ w ∷ ys) ∙ (ap (overlay (xs ++ w ∷ ys)) same ∙ sym (cached_array below (xs ++ w ∷ ys)))
unapplied_array below below' xs ys w apart (inr done) =
    cached_array below' (xs ++ w ∷ ys)
    ∙ (ap (overlay (xs ++ w ∷ ys)) done ∙ (twice-set xs ys w (store_array below) apart ∙ sym (cached_array below (xs ++ w ∷ ys))))

pub unapplied_since : (is_trim : Bool) (below below' : StoreView) (xs ys : List Pending) (w : Pending) (result : Result (Unit {0}) DiskFault) → AreApart w.place 1 xs → WroteBlock is_trim below w result below'
    → (array : List (List ℕ)) → Contains (flat_map (outcomes (xs ++ w ∷ ys)) below'.since) array → Contains (flat_map (outcomes (xs ++ w ∷ ys)) below.since) array
unapplied_since is_trim below below' xs ys w result apart wrote array found =
    let r : IsOfOne (outcomes (xs ++ w ∷ ys)) below'.since array = of_one (outcomes (xs ++ w ∷ ys)) below'.since array found in
    let s = wrote.calls.since r.from r.is_there in
    in_flat_map (outcomes (xs ++ w ∷ ys)) below.since s.before array s.was
    (some_outcome (xs ++ w ∷ ys) s.before array (over_some xs ys w s.before r.from array apart (torn_one s.before w.place w.block r.from s.part) (outcome_some (xs ++ w ∷ ys) r.from array r.is_of)))

pub unapplied_pending : (is_trim : Bool) (below below' : StoreView) (xs ys : List Pending) (w : Pending) (result : Result (Unit {0}) DiskFault) → WroteBlock is_trim below w result below'
    → (v : Pending) → Contains (below'.pending ++ (xs ++ w ∷ ys)) v → Contains (below.pending ++ (xs ++ w ∷ ys)) v
unapplied_pending is_trim below below' xs ys w result wrote v found = elim (Contains-append_cases below'.pending (xs ++ w ∷ ys) v found) [
  | inl under ↦ elim (wrote.calls.pending v under) [
    | inl before ↦ Contains-append_left below.pending (xs ++ w ∷ ys) v before
    | inr mine ↦ in-second below.pending xs (w ∷ ys) v (is_head w ys v (only-piece v w mine))
  ]
  | inr over ↦ Contains-append_right below.pending (xs ++ w ∷ ys) v over
]

-- something is pending
pub not_none : (before xs ys : List Pending) (w : Pending) → before ++ (xs ++ w ∷ ys) ≡ [] → ⊥
not_none [] [] ys w none = cc none
not_none [] (x ∷ xs) ys w none = cc none
not_none (b ∷ before) xs ys w none = cc none

-- By the contract of a store: a write is refused, and nothing of it is kept.
pub refused_calls : (is_trim : Bool) (below below' : StoreView) (xs ys : List Pending) (w : Pending) (first : ℕ) (blocks : List (List ℕ)) (fault : DiskFault) → AreApart w.place 1 xs
    → known_answer (store_flat below) (write w.place (w.block ∷ [])) ≡ None → known_answer (store_flat (cached below (xs ++ w ∷ ys))) (write first blocks) ≡ None
    → WroteBlock is_trim below w (Err fault) below' → Calls (cached below (xs ++ w ∷ ys)) (write first blocks) (with_nothing (Err fault)) (cached below' (xs ++ w ∷ ys))
refused_calls is_trim below below' xs ys w first blocks fault apart known unknown wrote = record {
  flat = rw unknown (begun.0, refl, none-done, stands);
  kept = wrote.calls.kept;
  durable = wrote.calls.durable;
  cause = wrote.calls.cause;
  since = λ array found. record { before = array; was = unapplied_since is_trim below below' xs ys w (Err fault) apart wrote array found; part = same-torn array first blocks array refl };
  pending = λ v found. inl (unapplied_pending is_trim below below' xs ys w (Err fault) wrote v found);
  none = λ prompt. absurd (cc prompt);
  syncs = wrote.calls.syncs;
  mode = mode_up below below' (xs ++ w ∷ ys) (xs ++ w ∷ ys) wrote.calls.mode;
  through = λ none. absurd (not_none below.pending xs ys w none.0);
} where
  begun : Begun (store_flat below) (write w.place (w.block ∷ [])) (Err fault) [] (store_flat below')
  begun = begun_block is_trim below below' w fault known wrote

  same : store_array (cached below' (xs ++ w ∷ ys)) ≡ store_array (cached below (xs ++ w ∷ ys))
  same = unapplied_array below below' xs ys w apart (either_front (store_array below) w.place w.block (store_array below') begun.2)

  none-done : IsFront (store_array (cached below (xs ++ w ∷ ys))) first blocks (store_array (cached below' (xs ++ w ∷ ys)))
  none-done = record { done = 0; within = omega arith; written = same ∙ sym (nothing_replaced (store_array (cached below (xs ++ w ∷ ys))) first) }

  stands : store_flat (cached below' (xs ++ w ∷ ys)) ≡ record (store_flat (cached below (xs ++ w ∷ ys))) { array = store_array (cached below' (xs ++ w ∷ ys)); status = status_after (Err fault) }
  stands = ap (λ (d : FlatDisk). record d { array = store_array (cached below' (xs ++ w ∷ ys)) }) begun.3
