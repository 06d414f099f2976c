-- A read by pieces: blocks that are pending are shown from the cache, and the others are read below.
use Rattle.std.proofs.Common.{◌≡◌, ◌≢◌, ◌∙◌, ℕ, zero, suc, ◌+◌, ◌-◌, ◌*◌, ◌<◌, ◌≤◌, List, [], ◌∷◌, ◌++◌, length, take, drop, get_or, set, min, append-nil, eq-or-lt_of_le, refl, sym, ap, arith, inl, inr, Some, None, Ok, Err, length-set, get_or-set_same, take-add, drop-drop, subst}
use Rattle.std.specs.Prelude.{◌⊎◌, IfErr, IsErrAnd, IsSome, MatchOption, Option, Result}
use Rattle.std.specs.Option.{unwrap_or}
use Rattle.std.specs.List.{concat}
use Rattle.std.proofs.lemmas.List.{length-append}
use Rattle.std.proofs.lemmas.List.Folds.{concat-append}
use Rattle.zone_translator.proofs.DiskLaws.{kept-join}
use Rattle.zone_translator.proofs.KeepingLaws.{keeps_again, keeps_same}
use Rattle.std.proofs.Math.Nat.{add-mul}
use Rattle.std.proofs.lemmas.Nat.{mul-le}
use Rattle.zone_translator.specs.Flat.{Answer, Begun, FlatCall, FlatDisk, answer_while, blocks_from, known_range, read, status_after, with_nothing}
use Rattle.zone_translator.specs.View.{CompletesAtMost, DiskCause, disk_array, disk_size}
use Rattle.zone_translator.specs.declared.fault.DiskFault.{DiskFault}
use Rattle.zone_translator.specs.declared.fault.DiskFault.TheVariants.{OutOfMemory}
use Rattle.zone_translator.specs.declared.status.DiskStatus.{DiskStatus}
use Rattle.zone_translator.specs.declared.status.DiskStatus.TheVariants as statuses
use Rattle.nbd_session.specs.Pending.{AreApart, Pending, overlay}
use Rattle.nbd_session.proofs.CostLaws.{bound_again, bound_always}
use Rattle.nbd_session.proofs.PendingLaws.{all-apart}
use Rattle.nbd_session.specs.Store.{Calls, OrFails, ReadsBlocks, Shows, Spares, StoreView, store_array, store_flat}
use Rattle.nbd_session.specs.declared.fault.StoreFault.{StoreFault}
use Rattle.nbd_session.specs.declared.fault.StoreFault.TheVariants.{Disk, Medium}
use Rattle.volatile_cache.specs.Cache.{FailsWithin, ReadsPiece, ShowsMore, SparesWithin}
use Rattle.volatile_cache.specs.Outcomes.{cached}
use Rattle.volatile_cache.specs.Queue.{IsFirstPlace, all_pending, bytes_of, newest_of, oldest_of, pending_of}
use Rattle.volatile_cache.specs.declared.kept.Kept.{Kept}
use Rattle.volatile_cache.proofs.ApplyLaws.{range_unknown, unknown_range}
use Rattle.volatile_cache.proofs.CacheLaws.{over}
use Rattle.volatile_cache.proofs.KeptLaws.{apart-all, apart-before, newest-place, newest-splits, none-of-both, pending-around}
use Rattle.volatile_cache.proofs.OutcomeLaws.{cached_array, cached_flat, overlay_append}
use Rattle.volatile_cache.proofs.SpareLaws.{spares_longer, spares_over}
use Rattle.volatile_cache.proofs.ThroughLaws.{read_through}

-- ---- what is known of a range, and of a part of it

pub sub_range : (disk : FlatDisk) (first n at m : ℕ) → known_range disk first n ≡ None → first ≤ at → 1 ≤ m → at + m ≤ first + n → known_range disk at m ≡ None
sub_range disk first n at m known from some within =
    let u = unknown_range disk first n known in
    range_unknown disk at m (record { some = some; within = omega (arith, u.within, within); serves = u.serves })

serving-is : (status : DiskStatus) → answer_while status ≡ None → status ≡ statuses.Serving
serving-is statuses.Serving serves = refl
serving-is statuses.Stopped serves = absurd (cc serves)
serving-is statuses.Unmounted serves = absurd (cc serves)

-- ---- a block that is pending

overlay-length : (ws : List Pending) (base : List (List ℕ)) → length (overlay ws base) ≡ length base
overlay-length [] base = refl
overlay-length (w ∷ ws) base = overlay-length ws (set base w.place w.block) ∙ length-set base w.place w.block

pub cached_length : (below : StoreView) (mine : List Pending) → length (store_array (cached below mine)) ≡ length (store_array below)
cached_length below mine = ap length (cached_array below mine) ∙ overlay-length mine (store_array below)

-- the newest block that is pending at a place is served
newest-served : (kept : List Kept) (place : ℕ) (k : Kept) (base : List (List ℕ)) → newest_of place kept ≡ Some k → place < length base → get_or (overlay (all_pending kept) base) place [] ≡ bytes_of k.content
newest-served kept place k base found within =
    let s = newest-splits place kept k found in
    let under = overlay (all_pending s.older) base in
    let array : overlay (all_pending kept) base ≡ overlay (all_pending s.newer) (set under k.place (bytes_of k.content)) =
    ap (λ (ws : List Pending). overlay ws base) (pending-around kept s.older s.newer k s.kept_are) ∙ overlay_append (all_pending s.older) (pending_of k ∷ all_pending s.newer) base in
    let place_is = newest-place place kept k found in
    ap (λ (a : List (List ℕ)). get_or a place []) array
    ∙ (ap (λ (p : ℕ). get_or (overlay (all_pending s.newer) (set under k.place (bytes_of k.content))) p []) (sym place_is)
    ∙ (all-apart (all_pending s.newer) (set under k.place (bytes_of k.content)) k.place 1 s.apart k.place (omega arith) (omega arith)
    ∙ get_or-set_same under k.place (bytes_of k.content) [] (omega (arith, place_is, within, overlay-length (all_pending s.older) base))))

one-taken : (array : List (List ℕ)) (place : ℕ) → place < length array → take 1 (drop place array) ≡ get_or array place [] ∷ []
one-taken [] place within = absurd (omega (arith, within))
one-taken (x ∷ xs) zero within = refl
one-taken (x ∷ xs) (suc place) within = one-taken xs place (omega (arith, within))

some-kept : (place : ℕ) (kept : List Kept) (k : Kept) (below : List Pending) → newest_of place kept ≡ Some k → below ++ all_pending kept ≡ [] → ⊥
some-kept place [] k below found none = cc found
some-kept place (x ∷ xs) k [] found none = cc none
some-kept place (x ∷ xs) k (b ∷ below) found none = cc none

-- a block that is pending is read with nothing done
pub read_pending : (below : StoreView) (kept : List Kept) (place : ℕ) (k : Kept) → newest_of place kept ≡ Some k → place < length (store_array below) → known_range (store_flat below) place 1 ≡ None
    → ReadsBlocks (cached below (all_pending kept)) place 1 (record { result = Ok tt; shown = bytes_of k.content ∷ [] }) (cached below (all_pending kept))
read_pending below kept place k found within known = record {
  calls = record {
    flat = rw known (shown, refl);
    kept = keeps_same below.disk;
    durable = refl;
    cause = tt;
    since = λ array was. record { before = array; was = was; part = refl };
    pending = λ w was. inl was;
    none = λ prompt. absurd (cc prompt);
    syncs = refl;
    mode = record { read_only = refl; cleans = refl; flushes = refl; defers = refl; fails = refl };
    through = λ none. absurd (some-kept place kept k below.pending found none.0);
  };
  turns = refl;
  completed = omega arith;
  pending = refl;
} where
  shown : bytes_of k.content ∷ [] ≡ blocks_from (store_array (cached below (all_pending kept))) place 1
  shown =
      ap (λ (block : List ℕ). block ∷ []) (sym (newest-served kept place k (store_array below) found within) ∙ ap (λ (a : List (List ℕ)). get_or a place []) (sym (cached_array below (all_pending kept))))
      ∙ sym (one-taken (store_array (cached below (all_pending kept))) place (omega (arith, within, cached_length below (all_pending kept))))

-- ---- blocks that are not pending

set-apart : (base : List (List ℕ)) (place : ℕ) (block : List ℕ) (first n : ℕ) → (place < first) ⊎ (first + n ≤ place) → blocks_from (set base place block) first n ≡ blocks_from base first n
set-apart [] place block first n far = refl
set-apart (x ∷ xs) zero block zero zero far = refl
set-apart (x ∷ xs) zero block zero (suc n) (inl less) = absurd (omega (arith, less))
set-apart (x ∷ xs) zero block zero (suc n) (inr more) = absurd (omega (arith, more))
set-apart (x ∷ xs) zero block (suc first) n far = refl
set-apart (x ∷ xs) (suc place) block zero zero far = refl
set-apart (x ∷ xs) (suc place) block zero (suc n) (inl less) = absurd (omega (arith, less))
set-apart (x ∷ xs) (suc place) block zero (suc n) (inr more) = ap (λ (ys : List (List ℕ)). x ∷ ys) (set-apart xs place block zero n (inr (omega (arith, more))))
set-apart (x ∷ xs) (suc place) block (suc first) n (inl less) = set-apart xs place block first n (inl (omega (arith, less)))
set-apart (x ∷ xs) (suc place) block (suc first) n (inr more) = set-apart xs place block first n (inr (omega (arith, more)))

overlay-apart : (ws : List Pending) (base : List (List ℕ)) (first n : ℕ) → AreApart first n ws → blocks_from (overlay ws base) first n ≡ blocks_from base first n
overlay-apart [] base first n apart = refl
overlay-apart (w ∷ ws) base first n apart = overlay-apart ws (set base w.place w.block) first n apart.1 ∙ set-apart base w.place w.block first n apart.0

-- what is shown above is what was shown below
same-shown : (known : Option (Result (Unit {0}) DiskFault)) (mine : List Pending) (a b : FlatDisk) (first n : ℕ) (result : Result (Unit {0}) DiskFault) (s t : List (List ℕ))
    → (known ≡ None → blocks_from (overlay mine a.array) first n ≡ blocks_from a.array first n)
    → MatchOption known (Begun (over mine a) (read first n) result s (over mine b)) (λ r. (record { result = result; shown = s } ≡ with_nothing r) × (over mine b ≡ over mine a))
    → MatchOption known (Begun a (read first n) result t b) (λ r. (record { result = result; shown = t } ≡ with_nothing r) × (b ≡ a)) → s ≡ t
same-shown None mine a b first n (Ok done) s t apart above under = above.0 ∙ (apart refl ∙ sym under.0)
same-shown None mine a b first n (Err fault) s t apart above under = above.1 ∙ sym under.1
same-shown (Some r) mine a b first n result s t apart above under = ap (λ (x : Answer). x.shown) above.0 ∙ sym (ap (λ (x : Answer). x.shown) under.0)

pub read_apart : (below below' : StoreView) (mine : List Pending) (first n : ℕ) (answer : Answer) → (known_range (store_flat below) first n ≡ None → AreApart first n mine) → ReadsBlocks below first n answer below'
    → ReadsBlocks (cached below mine) first n answer (cached below' mine)
read_apart below below' mine first n answer apart r =
    let t = read_through below below' mine first n answer r in
    let same : t.shown ≡ answer.shown = same-shown (known_range (store_flat below) first n) mine (store_flat below) (store_flat below') first n answer.result t.shown answer.shown
    (λ none. overlay-apart mine (store_array below) first n (apart none)) (rw (cached_flat below mine, cached_flat below' mine) at t.reads.calls.flat) r.calls.flat in
    rw same at t.reads

-- a read that goes below whole
pub passed_read : (below below' : StoreView) (mine : List Pending) (first n : ℕ) (result : Result (Unit {0}) DiskFault) (bytes : List ℕ) → (known_range (store_flat below) first n ≡ None → AreApart first n mine)
    → Shows below first n result bytes below' → Shows (cached below mine) first n result bytes (cached below' mine)
passed_read below below' mine first n result bytes apart s = record {
  shown = s.shown;
  reads = read_apart below below' mine first n (record { result = result; shown = s.shown }) apart s.reads;
  bytes_are = s.bytes_are;
}

abbrev pub ReadsOver : (below below' : StoreView) (mine : List Pending) (first n : ℕ) (bytes : List ℕ) (result : Result (Unit {0}) StoreFault) → Type 0
ReadsOver below below' mine first n bytes result =
    OrFails (λ answer. Shows (cached below mine) first n answer bytes (cached below' mine)) ((bytes ≡ []) × Spares (cached below mine) first n (cached below' mine)) result

pub read_passed : (below below' : StoreView) (mine : List Pending) (first n : ℕ) (result : Result (Unit {0}) StoreFault) (bytes : List ℕ) → (known_range (store_flat below) first n ≡ None → AreApart first n mine)
    → OrFails (λ answer. Shows below first n answer bytes below') ((bytes ≡ []) × Spares below first n below') result → ReadsOver below below' mine first n bytes result
read_passed below below' mine first n (Ok done) bytes apart o = passed_read below below' mine first n (Ok tt) bytes apart o
read_passed below below' mine first n (Err (Disk fault)) bytes apart o = passed_read below below' mine first n (Err fault) bytes apart o
read_passed below below' mine first n (Err Medium) bytes apart o = (o.0, spares_over below below' mine first n o.1)

-- ---- one read after the other

-- a read that was done leaves the flat disk as it was
done-same : (a b : FlatDisk) (first n : ℕ) (shown : List (List ℕ)) → known_range a first n ≡ None → FlatCall a (read first n) (record { result = Ok tt; shown = shown }) b
    → (shown ≡ blocks_from a.array first n) × (b ≡ a)
done-same a b first n shown known flat = rw known at flat

-- a read of which nothing was known, and that was refused
refused-same : (a b : FlatDisk) (first n : ℕ) (fault : DiskFault) (shown : List (List ℕ)) → known_range a first n ≡ None → FlatCall a (read first n) (record { result = Err fault; shown = shown }) b
    → Begun a (read first n) (Err fault) shown b
refused-same a b first n fault shown known flat = rw known at flat

calls-again : (a b c : StoreView) (first m at k n : ℕ) (x y answer : Answer) → store_array b ≡ store_array a → b.pending ≡ a.pending → FlatCall (store_flat a) (read first n) answer (store_flat c)
    → Calls a (read first m) x b → Calls b (read at k) y c → IfErr answer.result (DiskCause c.disk) → Calls a (read first n) answer c
calls-again a b c first m at k n x y answer array pending flat f s cause = record {
  flat = flat;
  kept = keeps_again a.disk b.disk c.disk f.kept s.kept;
  durable = s.durable ∙ f.durable;
  cause = cause;
  since = λ left was. (
      let later = s.since left was in
      let earlier = f.since later.before later.was in
      record { before = earlier.before; was = earlier.was; part = later.part ∙ earlier.part });
  pending = λ w was. elim (s.pending w was) [ inl before ↦ inl (rw pending at before) | inr mine ↦ absurd mine ];
  none = λ prompt. s.none (f.mode.defers ∙ prompt);
  syncs = s.syncs ∙ f.syncs;
  mode = record { read_only = s.mode.read_only ∙ f.mode.read_only; cleans = s.mode.cleans ∙ f.mode.cleans; flushes = s.mode.flushes ∙ f.mode.flushes; defers = s.mode.defers ∙ f.mode.defers; fails = s.mode.fails ∙ f.mode.fails };
  through = λ none. (
      let middle : b.pending ≡ [] = pending ∙ none.0 in
      let first_ = f.through (none.0, middle) in
      let second = s.through (middle, none.1) in
      let same : disk_array b.disk ≡ disk_array a.disk = rw (middle, none.0) at array in
      record {
        kept = kept-join a.disk b.disk c.disk first_.kept second.kept;
        since = λ left was. elim (second.since left was) [
          | inl before ↦ first_.since left before
          | inr moment ↦ inr (moment ∙ same)
        ];
      });
}

-- blocks, and the blocks after them
pub reads_again : (a b c : StoreView) (first m k : ℕ) (s t : List (List ℕ)) → known_range (store_flat a) first (m + k) ≡ None → 1 ≤ m → 1 ≤ k
    → ReadsBlocks a first m (record { result = Ok tt; shown = s }) b → ReadsBlocks b (first + m) k (record { result = Ok tt; shown = t }) c
    → ReadsBlocks a first (m + k) (record { result = Ok tt; shown = s ++ t }) c
reads_again a b c first m k s t known some more x y = record {
  calls = calls-again a b c first m (first + m) k (m + k) (record { result = Ok tt; shown = s }) (record { result = Ok tt; shown = t }) (record { result = Ok tt; shown = s ++ t })
      (ap (λ (d : FlatDisk). d.array) front.1) x.pending (rw known (shown, back.1 ∙ front.1)) x.calls y.calls tt;
  turns = y.turns ∙ x.turns;
  completed = omega (arith, x.completed, y.completed);
  pending = y.pending ∙ x.pending;
} where
  front : (s ≡ blocks_from (store_array a) first m) × (store_flat b ≡ store_flat a)
  front = done-same (store_flat a) (store_flat b) first m s (sub_range (store_flat a) first (m + k) first m known (omega arith) some (omega arith)) x.calls.flat

  after : known_range (store_flat b) (first + m) k ≡ None
  after = ap (λ (d : FlatDisk). known_range d (first + m) k) front.1 ∙ sub_range (store_flat a) first (m + k) (first + m) k known (omega arith) more (omega arith)

  back : (t ≡ blocks_from (store_array b) (first + m) k) × (store_flat c ≡ store_flat b)
  back = done-same (store_flat b) (store_flat c) (first + m) k t after y.calls.flat

  second : t ≡ take k (drop m (drop first (store_array a)))
  second = back.0 ∙ (ap (λ (d : FlatDisk). blocks_from d.array (first + m) k) front.1 ∙ ap (take k) (sym (drop-drop m first (store_array a))))

  shown : s ++ t ≡ blocks_from (store_array a) first (m + k)
  shown = ap (λ (zs : List (List ℕ)). s ++ zs) second ∙ (ap (λ (zs : List (List ℕ)). zs ++ take k (drop m (drop first (store_array a)))) front.0 ∙ sym (take-add m k (drop first (store_array a))))

-- blocks, and a read that is refused
pub refused_again : (a b c : StoreView) (first m at k n : ℕ) (s : List (List ℕ)) (fault : DiskFault) → known_range (store_flat a) first n ≡ None → 1 ≤ m → 1 ≤ k → at ≡ first + m → m + k ≤ n
    → ReadsBlocks a first m (record { result = Ok tt; shown = s }) b → ReadsBlocks b at k (with_nothing (Err fault)) c → ReadsBlocks a first n (with_nothing (Err fault)) c
refused_again a b c first m at k n s fault known some more at_is within x y = record {
  calls = calls-again a b c first m at k n (record { result = Ok tt; shown = s }) (with_nothing (Err fault)) (with_nothing (Err fault))
      (ap (λ (d : FlatDisk). d.array) front.1) x.pending
      (rw known (begun.0, refl, begun.2 ∙ ap (λ (d : FlatDisk). d.array) front.1, begun.3 ∙ ap (λ (d : FlatDisk). record d { array = store_array c; status = status_after (Err fault) }) front.1)) x.calls y.calls y.calls.cause;
  turns = y.turns ∙ x.turns;
  completed = omega (arith, x.completed, y.completed, within);
  pending = y.pending ∙ x.pending;
} where
  front : (s ≡ blocks_from (store_array a) first m) × (store_flat b ≡ store_flat a)
  front = done-same (store_flat a) (store_flat b) first m s (sub_range (store_flat a) first n first m known (omega arith) some (omega (arith, within))) x.calls.flat

  after : known_range (store_flat b) at k ≡ None
  after = ap (λ (d : FlatDisk). known_range d at k) front.1 ∙ sub_range (store_flat a) first n at k known (omega (arith, at_is)) more (omega (arith, at_is, within))

  begun : Begun (store_flat b) (read at k) (Err fault) [] (store_flat c)
  begun = refused-same (store_flat b) (store_flat c) at k fault [] after y.calls.flat

-- a part of a read is refused, and so the read
pub part_refused : (a c : StoreView) (first k n : ℕ) (fault : DiskFault) → known_range (store_flat a) first n ≡ None → 1 ≤ k → k ≤ n
    → ReadsBlocks a first k (with_nothing (Err fault)) c → ReadsBlocks a first n (with_nothing (Err fault)) c
part_refused a c first k n fault known some within y = record {
  calls = record {
    flat = rw known (begun.0, refl, begun.2, begun.3);
    kept = y.calls.kept;
    durable = y.calls.durable;
    cause = y.calls.cause;
    since = λ left was. (let s = y.calls.since left was in record { before = s.before; was = s.was; part = s.part });
    pending = λ w was. elim (y.calls.pending w was) [ inl before ↦ inl before | inr mine ↦ absurd mine ];
    none = y.calls.none;
    syncs = y.calls.syncs;
    mode = y.calls.mode;
    through = λ none. (let t = y.calls.through none in record { kept = t.kept; since = t.since });
  };
  turns = y.turns;
  completed = omega (arith, y.completed, within);
  pending = y.pending;
} where
  begun : Begun (store_flat a) (read first k) (Err fault) [] (store_flat c)
  begun = refused-same (store_flat a) (store_flat c) first k fault [] (sub_range (store_flat a) first n first k known (omega arith) some (omega (arith, within))) y.calls.flat

-- blocks were read below, and there is no memory to show them
pub memory_refused : (a b : StoreView) (first n : ℕ) (shown : List (List ℕ)) → known_range (store_flat a) first n ≡ None → ReadsBlocks a first n (record { result = Ok tt; shown = shown }) b
    → ReadsBlocks a first n (with_nothing (Err OutOfMemory)) b
memory_refused a b first n shown known r = record {
  calls = record {
    flat = rw known (refl, refl, ap (λ (d : FlatDisk). d.array) done.1, done.1 ∙ stands);
    kept = r.calls.kept;
    durable = r.calls.durable;
    cause = tt;
    since = r.calls.since;
    pending = r.calls.pending;
    none = r.calls.none;
    syncs = r.calls.syncs;
    mode = r.calls.mode;
    through = r.calls.through;
  };
  turns = r.turns;
  completed = r.completed;
  pending = r.pending;
} where
  done : (shown ≡ blocks_from (store_array a) first n) × (store_flat b ≡ store_flat a)
  done = done-same (store_flat a) (store_flat b) first n shown known r.calls.flat

  stands : store_flat a ≡ record (store_flat a) { array = store_array b; status = statuses.Serving }
  stands =
      ap (λ (status : DiskStatus). record (store_flat a) { status = status }) (serving-is a.disk.status (unknown_range (store_flat a) first n known).serves)
      ∙ ap (λ (array : List (List ℕ)). record (store_flat a) { array = array; status = statuses.Serving }) (sym (ap (λ (d : FlatDisk). d.array) done.1))

-- ---- one piece

-- a block that is pending
pub piece_pending : (below : StoreView) (kept : List Kept) (at end : ℕ) (k : Kept) (size : ℕ) → newest_of at kept ≡ Some k → known_range (store_flat below) at (end - at) ≡ None → at < end
    → (below.disk.status ≡ statuses.Serving → length (store_array below) ≡ size) → size ≡ disk_size below.disk
    → ReadsBlocks (cached below (all_pending kept)) at 1 (record { result = Ok tt; shown = bytes_of k.content ∷ [] }) (cached below (all_pending kept))
piece_pending below kept at end k size found known less array size_is =
    let u = unknown_range (store_flat below) at (end - at) known in
    let long = array (serving-is below.disk.status u.serves) in
    read_pending below kept at k found (omega (arith, long, size_is, u.within, less)) (sub_range (store_flat below) at (end - at) at 1 known (omega arith) (omega arith) (omega (arith, less)))

pub pending_shown : (old : StoreView) (at end : ℕ) (block into into' : List ℕ) → at < end → ReadsBlocks old at 1 (record { result = Ok tt; shown = block ∷ [] }) old → into' ≡ into ++ block → ReadsPiece old at end (Ok (at + 1)) into into' old
pending_shown old at end block into into' less reads is =
    let one : at + 1 - at ≡ 1 = omega arith in
    (omega arith, omega (arith, less), rw one (record { shown = block ∷ []; reads = reads; bytes_are = is ∙ ap (λ (bytes : List ℕ). into ++ bytes) (sym (append-nil block)) }))

pub pending_unshown : (old : StoreView) (at end : ℕ) (block : List ℕ) → known_range (store_flat old) at (end - at) ≡ None → at < end → ReadsBlocks old at 1 (record { result = Ok tt; shown = block ∷ [] }) old → FailsWithin old at (end - at) OutOfMemory old
pending_unshown old at end block known less reads = record {
  count = 1;
  some = omega arith;
  within = omega (arith, less);
  reads = memory_refused old old at 1 (block ∷ []) (sub_range (store_flat old) at (end - at) at 1 known (omega arith) (omega arith) (omega (arith, less))) reads;
}

-- blocks of which none is pending
pub record IsClearTo (kept : List Kept) (at end next : ℕ) : Type 0 where
  pub some : at < next
  pub within : next ≤ end
  pub apart : AreApart at (next - at) (all_pending kept)

pub clear_to : (kept : List Kept) (at end next : ℕ) (found : Option ℕ) → IsFirstPlace at kept found → newest_of at kept ≡ None → at < end → next ≡ min (unwrap_or found end) end → IsClearTo kept at end next
clear_to kept at end next None first none less is = record {
  some = omega (arith, is, less);
  within = omega (arith, is);
  apart = apart-all at (next - at) kept first;
}
clear_to kept at end next (Some place) first none less is =
    let far : at ≢ place = λ same. some-not-none (oldest_of place kept) first.1 (rw same at (none-of-both at kept none)) in
    let past : at < place = elim (eq-or-lt_of_le first.0) [ inl same ↦ absurd (far same) | inr more ↦ more ] in
    record {
      some = omega (arith, is, less, past);
      within = omega (arith, is);
      apart = apart-before at (next - at) place kept first (omega (arith, is, past));
    }
  where
    some-not-none : (o : Option Kept) → IsSome o → o ≡ None → ⊥
    some-not-none (Some k) some none = cc none
    some-not-none None some none = cc some

pub clear_shown : (below below' : StoreView) (kept : List Kept) (at end next : ℕ) (into into' piece : List ℕ) → IsClearTo kept at end next → Shows below at (next - at) (Ok tt) piece below' → into' ≡ into ++ piece
    → ReadsPiece (cached below (all_pending kept)) at end (Ok next) into into' (cached below' (all_pending kept))
clear_shown below below' kept at end next into into' piece clear s is = (
  clear.some,
  clear.within,
  record {
    shown = s.shown;
    reads = read_apart below below' (all_pending kept) at (next - at) (record { result = Ok tt; shown = s.shown }) (λ none. clear.apart) s.reads;
    bytes_are = is ∙ ap (λ (bytes : List ℕ). into ++ bytes) s.bytes_are;
  },
)

pub clear_unshown : (below below' : StoreView) (kept : List Kept) (at end next : ℕ) (piece : List ℕ) → IsClearTo kept at end next → known_range (store_flat below) at (end - at) ≡ None → Shows below at (next - at) (Ok tt) piece below'
    → FailsWithin (cached below (all_pending kept)) at (end - at) OutOfMemory (cached below' (all_pending kept))
clear_unshown below below' kept at end next piece clear known s = record {
  count = next - at;
  some = omega (arith, clear.some);
  within = omega (arith, clear.within);
  reads = read_apart below below' (all_pending kept) at (next - at) (with_nothing (Err OutOfMemory)) (λ none. clear.apart)
      (memory_refused below below' at (next - at) s.shown (sub_range (store_flat below) at (end - at) at (next - at) known (omega arith) (omega (arith, clear.some)) (omega (arith, clear.within))) s.reads);
}

pub clear_refused : (below below' : StoreView) (kept : List Kept) (at end next : ℕ) (fault : DiskFault) (piece : List ℕ) → IsClearTo kept at end next → known_range (store_flat below) at (end - at) ≡ None → Shows below at (next - at) (Err fault) piece below'
    → FailsWithin (cached below (all_pending kept)) at (end - at) fault (cached below' (all_pending kept))
clear_refused below below' kept at end next fault piece clear known s =
    let begun = refused-same (store_flat below) (store_flat below') at (next - at) fault s.shown
    (sub_range (store_flat below) at (end - at) at (next - at) known (omega arith) (omega (arith, clear.some)) (omega (arith, clear.within))) s.reads.calls.flat in
    record {
      count = next - at;
      some = omega (arith, clear.some);
      within = omega (arith, clear.within);
      reads = read_apart below below' (all_pending kept) at (next - at) (with_nothing (Err fault)) (λ none. clear.apart) (rw begun.1 at s.reads);
    }

-- a read of the store below, as it is answered
abbrev pub ReadGives : StoreView → ℕ → ℕ → List ℕ → Result (Unit {0}) StoreFault → StoreView → Type 0
ReadGives old first n bytes result new = OrFails (λ answer. Shows old first n answer bytes new) ((bytes ≡ []) × Spares old first n new) result

-- it was refused, or the medium failed in it
pub clear_failed : (below below' : StoreView) (kept : List Kept) (at end next : ℕ) (fault : StoreFault) (into piece : List ℕ) → IsClearTo kept at end next → known_range (store_flat below) at (end - at) ≡ None
    → ReadGives below at (next - at) piece (Err fault) below' → ReadsPiece (cached below (all_pending kept)) at end (Err fault) into into (cached below' (all_pending kept))
clear_failed below below' kept at end next (Disk fault) into piece clear known s = clear_refused below below' kept at end next fault piece clear known s
clear_failed below below' kept at end next Medium into piece clear known s = record {
  count = next - at;
  some = omega (arith, clear.some);
  within = omega (arith, clear.within);
  spares = spares_over below below' (all_pending kept) at (next - at) s.1;
}

pub failed_piece : (old new : StoreView) (at end : ℕ) (result : Result ℕ StoreFault) (fault : StoreFault) (into : List ℕ) → IsErrAnd result (λ e. e ≡ fault) → ReadsPiece old at end (Err fault) into into new → ReadsPiece old at end result into into new
failed_piece old new at end (Ok next) fault into is f = absurd is
failed_piece old new at end (Err e) fault into is f = rw is f

-- ---- the pieces of a read

-- No block was read yet, or all up to one were shown.
abbrev pub ShowsUpTo : StoreView → ℕ → ℕ → List ℕ → StoreView → Type 0
ShowsUpTo old first at into new = ((at ≡ first) × (into ≡ []) × (new ≡ old)) ⊎ ((first < at) × ShowsMore old first (at - first) [] into new)

pub shows_again : (a b c : StoreView) (first at next end : ℕ) (into into' : List ℕ) → known_range (store_flat a) first (end - first) ≡ None → first ≤ at → at < next → next ≤ end
    → ShowsUpTo a first at into b → ShowsMore b at (next - at) into into' c → ShowsUpTo a first next into' c
shows_again a b c first at next end into into' known from less within (inl none) y = inr (
  omega (arith, from, less),
  record {
    shown = y.shown;
    reads = rw (none.2, none.0) at y.reads;
    bytes_are = y.bytes_are ∙ ap (λ (bytes : List ℕ). bytes ++ concat y.shown) none.1;
  },
)
shows_again a b c first at next end into into' known from less within (inr x) y =
    let m = at - first in
    let k = next - at in
    let sum : m + k ≡ next - first = omega (arith, x.0, less) in
    let place : first + m ≡ at = omega (arith, x.0) in
    let part : known_range (store_flat a) first (m + k) ≡ None = sub_range (store_flat a) first (end - first) first (m + k) known (omega arith) (omega (arith, sum, x.0, less)) (omega (arith, sum, within, x.0, less)) in
    inr (
      omega (arith, x.0, less),
      record {
        shown = x.1.shown ++ y.shown;
        reads = rw sum at (reads_again a b c first m k x.1.shown y.shown part (omega (arith, x.0)) (omega (arith, less)) x.1.reads (subst (λ (p : ℕ). ReadsBlocks b p k (record { result = Ok tt; shown = y.shown }) c) (sym place) y.reads));
        bytes_are = y.bytes_are ∙ (ap (λ (bytes : List ℕ). bytes ++ concat y.shown) x.1.bytes_are ∙ sym (concat-append x.1.shown y.shown));
      },
    )

-- a piece was refused
pub shows_none : (a b c : StoreView) (first at end : ℕ) (into : List ℕ) (fault : DiskFault) → known_range (store_flat a) first (end - first) ≡ None → first ≤ at → at < end
    → ShowsUpTo a first at into b → FailsWithin b at (end - at) fault c → Shows a first (end - first) (Err fault) [] c
shows_none a b c first at end into fault known from less (inl none) f = record {
  shown = [];
  reads = part_refused a c first f.count (end - first) fault known f.some (omega (arith, f.within, none.0)) (rw (none.2, none.0) at f.reads);
  bytes_are = refl;
}
shows_none a b c first at end into fault known from less (inr x) f = record {
  shown = [];
  reads = refused_again a b c first (at - first) at f.count (end - first) x.1.shown fault known (omega (arith, x.0)) f.some (omega (arith, x.0)) (omega (arith, f.within, x.0, less)) x.1.reads f.reads;
  bytes_are = refl;
}

spared-due : (c b a less left m k n e : ℕ) → c + left * e ≤ b + less * e + k * e → b ≤ a + m → m + k ≤ n → 1 ≤ e → c + left * e ≤ a + less * e + n * e
spared-due c b a less left m k n e due first within some = omega (arith, due, first, mul-le m 1 m e (omega arith) some, add-mul m k e, mul-le (m + k) e n e within (omega arith))

-- the medium failed in a piece
pub spares_after : (a b c : StoreView) (first at end : ℕ) (into : List ℕ) → known_range (store_flat a) first (end - first) ≡ None → first ≤ at → at < end → (a.pending ≡ [] → ⊥)
    → ShowsUpTo a first at into b → SparesWithin b at (end - at) c → Spares a first (end - first) c
spares_after a b c first at end into known from less some (inl none) f =
    spares_longer a c at f.count first (end - first) (omega (arith, f.within, none.0)) known (rw none.2 at f.spares)
spares_after a b c first at end into known from less some (inr x) f =
    let r = x.1.reads in
    let y = f.spares in
    let front = done-same (store_flat a) (store_flat b) first (at - first) x.1.shown (sub_range (store_flat a) first (end - first) first (at - first) known (omega arith) (omega (arith, x.0)) (omega (arith, x.0, less))) r.calls.flat in
    record {
      may = sym r.calls.mode.fails ∙ y.may;
      begun = known;
      flat = y.flat ∙ front.1;
      kept = keeps_again a.disk b.disk c.disk r.calls.kept y.kept;
      durable = y.durable ∙ r.calls.durable;
      written = λ none. absurd (some none);
      turns = omega (arith, y.turns, r.turns);
      due = bound_again _ _ _ a.disk b.disk c.disk r.calls.kept y.kept (λ (each : ℕ) some front due.
          spared-due c.disk.drive.completed b.disk.drive.completed a.disk.drive.completed (length a.pending) (length c.pending) (at - first) f.count (end - first) each
          (rw r.pending at due) front (omega (arith, f.within, x.0, less)) some) (bound_always (λ (each : ℕ). CompletesAtMost a.disk (at - first) b.disk) a.disk b.disk (λ each. r.completed)) y.due;
      since = λ left was. (let before = r.calls.since left (y.since left was) in rw (sym before.part) at before.was);
      pending = λ w was. rw r.pending at (y.pending w was);
      syncs = y.syncs ∙ r.calls.syncs;
      mode = record {
        read_only = y.mode.read_only ∙ r.calls.mode.read_only;
        cleans = y.mode.cleans ∙ r.calls.mode.cleans;
        flushes = y.mode.flushes ∙ r.calls.mode.flushes;
        defers = y.mode.defers ∙ r.calls.mode.defers;
        fails = y.mode.fails ∙ r.calls.mode.fails;
      };
    }

-- a piece was refused, or the medium failed in it
pub shows_failed : (a b c : StoreView) (first at end : ℕ) (into shown shown' : List ℕ) (fault : StoreFault) → known_range (store_flat a) first (end - first) ≡ None → first ≤ at → at < end → (a.pending ≡ [] → ⊥)
    → ShowsUpTo a first at into b → ReadsPiece b at end (Err fault) shown shown' c → ReadGives a first (end - first) [] (Err fault) c
shows_failed a b c first at end into shown shown' (Disk fault) known from less some x f = shows_none a b c first at end into fault known from less x f
shows_failed a b c first at end into shown shown' Medium known from less some x f = (refl, spares_after a b c first at end into known from less some x f)

-- ---- whatever the Reads returned

-- a piece has the bytes of its blocks
pub piece_whole : (n block : ℕ) (old piece new : List ℕ) → length piece ≡ n * block → new ≡ old ++ piece → length new ≡ length old + n * block
piece_whole n block old piece new whole is = rw is (length-append old piece ∙ ap (λ (k : ℕ). length old + k) whole)

-- so has a block that is pending
pub pending_whole : (at block : ℕ) (old bytes new : List ℕ) → length bytes ≡ block → new ≡ old ++ bytes → length new ≡ length old + (at + 1 - at) * block
pending_whole at block old bytes new whole is =
    let one : at + 1 - at ≡ 1 = omega arith in
    rw one (piece_whole 1 block old bytes new (omega (arith, whole)) is)

-- and so have the pieces up to a block, and one more
pub pieces_whole : (first at next block block' : ℕ) (old new : List ℕ) → first ≤ at → at < next → block' ≡ block → length old ≡ (at - first) * block → length new ≡ length old + (next - at) * block' → length new ≡ (next - first) * block
pieces_whole first at next block block' old new from less same was more =
    let sum : next - first ≡ (at - first) + (next - at) = omega (arith, from, less) in
    rw (sum, add-mul (at - first) (next - at) block) (rw (same, was) at more)

-- before the first one nothing is shown
pub none_shown : (first block : ℕ) (shown : List ℕ) → shown ≡ [] → length shown ≡ (first - first) * block
none_shown first block shown none =
    let zero : first - first ≡ 0 = omega arith in
    rw (none, zero) (omega arith)
