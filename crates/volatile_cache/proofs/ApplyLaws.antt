-- Pending blocks are applied one after the other, and one of them may be refused.
use Rattle.std.proofs.Common.{◌≡◌, ◌==◌, ◌∙◌, ℕ, nat_lt, ◌+◌, ◌*◌, ◌<◌, ◌≤◌, List, [], ◌∷◌, ◌++◌, length, set, refl, sym, ap, arith, inl, inr, Some, None, Ok, Err, true, false}
use Rattle.std.specs.Prelude.{◌⊎◌, Bool, Contains, MatchOption, OnErr, OnOk, Option, Result, is_ok, is_some}
use Rattle.std.specs.List.{AllByRecursion}
use Rattle.std.proofs.lemmas.Bool.Decides.{nat_tests}
use Rattle.std.proofs.Math.Nat.{add-mul}
use Rattle.std.proofs.lemmas.List.{length-append, map-append}
use Rattle.std.proofs.lemmas.Nat.{mul-le}
use Rattle.zone_translator.proofs.KeepingLaws.{keeps_again}
use Rattle.zone_translator.specs.Flat.{Answer, Begun, Call, FlatCall, FlatDisk, answer_while, known_answer, known_range, status_after, with_nothing, write}
use Rattle.zone_translator.specs.View.{disk_size}
use Rattle.zone_translator.specs.declared.fault.DiskFault.{DiskFault}
use Rattle.zone_translator.specs.declared.status.DiskStatus.{DiskStatus}
use Rattle.zone_translator.specs.declared.status.DiskStatus.TheVariants.{Serving, Stopped, Unmounted}
use Rattle.nbd_session.specs.Pending.{AreApart, Pending, pieces}
use Rattle.nbd_session.specs.Store.{FailsSync, KeepsBySync, OrFails, Spares, StoreView, SyncsBy, Writes, commands_due, store_array, store_flat}
use Rattle.nbd_session.proofs.CostLaws.{bound_again, bound_so}
use Rattle.nbd_session.specs.declared.fault.StoreFault.{StoreFault}
use Rattle.nbd_session.specs.declared.fault.StoreFault.TheVariants.{Disk, Medium}
use Rattle.volatile_cache.specs.Cache.{Applies, AreOf, Cache, FailsAfter, HasOutcomesOf, Keeps, Puts, PutsOrFails, Refuses, RefusesAfter, view_of}
use Rattle.volatile_cache.specs.Outcomes.{Settles, cached, outcomes}
use Rattle.volatile_cache.specs.Queue.{all_pending, bytes_of, is_trim, newest_of, oldest_of, pending_of, without_oldest}
use Rattle.volatile_cache.specs.declared.kept.Kept.{Kept}
use Rattle.volatile_cache.proofs.CacheLaws.{WroteBlock, applied_settles, either_front, force_some, kept_writes, may_more, not_none, over_some, refused_calls, settles_again, settles_same, sync_all}
use Rattle.volatile_cache.proofs.KeptLaws.{newest-splits, oldest-place, oldest-splits, pending-around}
use Rattle.volatile_cache.proofs.OutcomeLaws.{outcome_some, pulled_some, replaced_one, some_outcome}
use Rattle.volatile_cache.proofs.KeepLaws.{length_map}
use Rattle.volatile_cache.proofs.SpareLaws.{settled_spares, spares_keeps, spares_longer, spares_over}
use Rattle.volatile_cache.proofs.ThroughLaws.{empty_writes, known_writes, refused_fails, settled_writes}

-- ---- the oldest block of a place, between older and newer ones

record Pulls (place : ℕ) (kept : List Kept) (k : Kept) : Type 0 where
  pub older : List Pending
  pub newer : List Pending
  pub before : all_pending kept ≡ older ++ pending_of k ∷ newer
  pub after : all_pending (without_oldest place kept) ≡ older ++ newer
  pub apart : AreApart k.place 1 older

pulls : (place : ℕ) (kept : List Kept) (k : Kept) → oldest_of place kept ≡ Some k → Pulls place kept k
pulls place kept k found =
    let s = oldest-splits place kept k found in
    record {
      older = all_pending s.older;
      newer = all_pending s.newer;
      before = pending-around kept s.older s.newer k s.kept_are;
      after =
          ap (λ (p : ℕ). all_pending (without_oldest p kept)) (sym (oldest-place place kept k found))
          ∙ (ap (λ (ks : List Kept). all_pending ks) s.left ∙ map-append pending_of s.older s.newer);
      apart = s.apart;
    }

-- ---- what is known of a write of one block

-- a call of some blocks of which nothing is known: they are within the disk, which serves
pub record IsUnknown (disk : FlatDisk) (first n : ℕ) : Type 0 where
  pub some : 1 ≤ n
  pub within : first + n ≤ disk.size
  pub serves : answer_while disk.status ≡ None

pub unknown_range : (disk : FlatDisk) (first n : ℕ) → known_range disk first n ≡ None → IsUnknown disk first n
unknown_range disk first n known = by (n == 0) (nat_lt disk.size (first + n)) refl refl
  where
    by : (none past : Bool) → (n == 0) ≡ none → nat_lt disk.size (first + n) ≡ past → IsUnknown disk first n
    by true past is far = absurd (cc (rw is at known))
    by false true is far = absurd (cc (rw (is, far) at known))
    by false false is far = record { some = grind (arith, nat_tests, is); within = grind (arith, nat_tests, far); serves = rw (is, far) at known }

-- of some blocks within the disk its status tells what is known
pub range_status : (disk : FlatDisk) (first n : ℕ) → 1 ≤ n → first + n ≤ disk.size → known_range disk first n ≡ answer_while disk.status
range_status disk first n more within =
    let some : (n == 0) ≡ false = grind (arith, nat_tests, more) in
    let inside : nat_lt disk.size (first + n) ≡ false = grind (arith, nat_tests, within) in
    rw (some, inside) refl

pub range_unknown : (disk : FlatDisk) (first n : ℕ) → IsUnknown disk first n → known_range disk first n ≡ None
range_unknown disk first n u = range_status disk first n u.some u.within ∙ u.serves

-- of a block within the disk nothing is known beforehand while the disk serves
pub block_unknown : (disk : FlatDisk) (place : ℕ) (block : List ℕ) → place < disk.size → answer_while disk.status ≡ None → known_answer disk (write place (block ∷ [])) ≡ None
block_unknown disk place block within serves = range_unknown disk place 1 (record { some = omega arith; within = omega (arith, within); serves = serves })

-- a block was written, so the disk serves
pub done_serves : (disk new : FlatDisk) (place : ℕ) (block : List ℕ) → place < disk.size → FlatCall disk (write place (block ∷ [])) (with_nothing (Ok tt)) new → answer_while disk.status ≡ None
done_serves disk new place block within done = by (answer_while disk.status) refl
  where
    refused : (status : DiskStatus) (r : Result (Unit {0}) DiskFault) → answer_while status ≡ Some r → with_nothing (Ok tt) ≡ with_nothing r → ⊥
    refused Serving r is same = cc is
    refused Stopped r is same = cc (is, ap (λ (a : Answer). a.result) same)
    refused Unmounted r is same = cc (is, ap (λ (a : Answer). a.result) same)

    by : (known : Option (Result (Unit {0}) DiskFault)) → answer_while disk.status ≡ known → answer_while disk.status ≡ None
    by None is = is
    by (Some r) is =
        let known : known_answer disk (write place (block ∷ [])) ≡ Some r = range_status disk place 1 (omega arith) (omega (arith, within)) ∙ is in
        absurd (refused disk.status r is (rw known at done).0)

-- ---- one block

pub put_settles : (below below' : StoreView) (place : ℕ) (kept : List Kept) (k : Kept) → oldest_of place kept ≡ Some k → k.place < disk_size below.disk → Puts (is_trim k.content) below (pending_of k) (Ok tt) below'
    → Settles (cached below (all_pending kept)) (cached below' (all_pending (without_oldest place kept)))
put_settles below below' place kept k found within wrote =
    let p = pulls place kept k found in
    let serves = done_serves (store_flat below) (store_flat below') k.place (bytes_of k.content) within wrote.calls.flat in
    rw (p.before, p.after)
    (applied_settles (is_trim k.content) below below' (pending_of k) p.older p.newer (p.apart) (block_unknown (store_flat below) k.place (bytes_of k.content) within serves) wrote)

pub put_refuses : (below below' : StoreView) (place : ℕ) (kept : List Kept) (k : Kept) (fault : DiskFault) → oldest_of place kept ≡ Some k → k.place < disk_size below.disk → Puts (is_trim k.content) below (pending_of k) (Err fault) below'
    → Refuses below (all_pending kept) fault below'
put_refuses below below' place kept k fault found within wrote =
    let p = pulls place kept k found in
    record { older = p.older; w = pending_of k; newer = p.newer; mine_are = p.before; apart = p.apart; within = within; is_trim = is_trim k.content; puts = wrote }

-- it is on the array of the store below
pub put_array : (below below' : StoreView) (k : Kept) → k.place < disk_size below.disk → Puts (is_trim k.content) below (pending_of k) (Ok tt) below'
    → store_array below' ≡ set (store_array below) k.place (bytes_of k.content)
put_array below below' k within wrote =
    let serves = done_serves (store_flat below) (store_flat below') k.place (bytes_of k.content) within wrote.calls.flat in
    let begun : Begun (store_flat below) (write k.place (bytes_of k.content ∷ [])) (Ok tt) [] (store_flat below') = rw (block_unknown (store_flat below) k.place (bytes_of k.content) within serves) at wrote.calls.flat in
    ap (λ (d : FlatDisk). d.array) begun.1 ∙ replaced_one (store_array below) k.place (bytes_of k.content)

-- the outcomes of a cut become fewer
pub put_outcomes : (below below' : StoreView) (place : ℕ) (kept : List Kept) (k : Kept) → oldest_of place kept ≡ Some k → k.place < disk_size below.disk → Puts (is_trim k.content) below (pending_of k) (Ok tt) below'
    → (left : List (List ℕ)) → Contains (outcomes (all_pending (without_oldest place kept)) (store_array below')) left → Contains (outcomes (all_pending kept) (store_array below)) left
put_outcomes below below' place kept k found within wrote left later =
    let p = pulls place kept k found in
    let array : store_array below' ≡ set (store_array below) k.place (bytes_of k.content) = put_array below below' k within wrote in
    rw p.before (some_outcome (p.older ++ pending_of k ∷ p.newer) (store_array below) left
    (pulled_some p.older p.newer (pending_of k) (store_array below) (store_array below') left (p.apart) (inr array)
    (outcome_some (p.older ++ p.newer) (store_array below') left (rw p.after at later))))

pub refused_outcomes : (below below' : StoreView) (kept : List Kept) (fault : DiskFault) → Refuses below (all_pending kept) fault below'
    → (left : List (List ℕ)) → Contains (outcomes (all_pending kept) (store_array below')) left → Contains (outcomes (all_pending kept) (store_array below)) left
refused_outcomes below below' kept fault r left later =
    rw r.mine_are (some_outcome (r.older ++ r.w ∷ r.newer) (store_array below) left
    (over_some r.older r.newer r.w (store_array below) (store_array below') left r.apart (either (known_answer (store_flat below) (write r.w.place (r.w.block ∷ []))) refl r.puts.calls.flat)
    (outcome_some (r.older ++ r.w ∷ r.newer) (store_array below') left (rw r.mine_are at later))))
  where
    either : (known : Option (Result (Unit {0}) DiskFault)) → known_answer (store_flat below) (write r.w.place (r.w.block ∷ [])) ≡ known
        → MatchOption known (Begun (store_flat below) (write r.w.place (r.w.block ∷ [])) (Err fault) [] (store_flat below')) (λ x. (with_nothing (Err fault) ≡ with_nothing x) × (store_flat below' ≡ store_flat below))
        → (store_array below' ≡ store_array below) ⊎ (store_array below' ≡ set (store_array below) r.w.place r.w.block)
    either None is flat = either_front (store_array below) r.w.place r.w.block (store_array below') flat.2
    either (Some x) is flat = inl (ap (λ (d : FlatDisk). d.array) flat.1)

-- ---- the blocks are of the disk

all-middle : (P : Kept → Type 0) (xs ys : List Kept) (k : Kept) → AllByRecursion P (xs ++ k ∷ ys) → P k × AllByRecursion P (xs ++ ys)
all-middle P [] ys k all = all
all-middle P (x ∷ xs) ys k all = let rest = all-middle P xs ys k all.1 in (rest.0, (all.0, rest.1))

abbrev pub IsOf : StoreView → Kept → Type 0
IsOf below k = (k.place < disk_size below.disk) × (length (bytes_of k.content) ≡ below.disk.drive.geometry.block)

-- so is the oldest of a place
pub oldest_is_of : (below : StoreView) (place : ℕ) (kept : List Kept) (k : Kept) → oldest_of place kept ≡ Some k → AreOf below kept → IsOf below k
oldest_is_of below place kept k found are = let s = oldest-splits place kept k found in (all-middle (IsOf below) s.older s.newer k (rw s.kept_are at are)).0

-- so is the newest
pub newest_is_of : (below : StoreView) (place : ℕ) (kept : List Kept) (k : Kept) → newest_of place kept ≡ Some k → AreOf below kept → IsOf below k
newest_is_of below place kept k found are = let s = newest-splits place kept k found in (all-middle (IsOf below) s.older s.newer k (rw s.kept_are at are)).0

-- and the others
pub others_are_of : (below : StoreView) (place : ℕ) (kept : List Kept) (k : Kept) → oldest_of place kept ≡ Some k → AreOf below kept → AreOf below (without_oldest place kept)
others_are_of below place kept k found are =
    let s = oldest-splits place kept k found in
    rw (ap (λ (p : ℕ). without_oldest p kept) (sym (oldest-place place kept k found)) ∙ s.left) (all-middle (IsOf below) s.older s.newer k (rw s.kept_are at are)).1

-- ---- one block of the cache

pub apply_done : {S : Type 0} (view : S → StoreView) (old new : Cache S) (place : ℕ) (k : Kept) → oldest_of place old.kept ≡ Some k → AreOf (view old.store) old.kept
    → Puts (is_trim k.content) (view old.store) (pending_of k) (Ok tt) (view new.store) → new.kept ≡ without_oldest place old.kept → Applies view old (Ok tt) new
apply_done view old new place k found are wrote kept =
    (rw kept (put_settles (view old.store) (view new.store) place old.kept k found (oldest_is_of (view old.store) place old.kept k found are).0 wrote), λ none. absurd (cc (rw none at found)))

pub apply_outcomes : {S : Type 0} (view : S → StoreView) (old new : Cache S) (place : ℕ) (k : Kept) → oldest_of place old.kept ≡ Some k → AreOf (view old.store) old.kept
    → Puts (is_trim k.content) (view old.store) (pending_of k) (Ok tt) (view new.store) → new.kept ≡ without_oldest place old.kept → HasOutcomesOf view old new
apply_outcomes view old new place k found are wrote kept left later =
    put_outcomes (view old.store) (view new.store) place old.kept k found (oldest_is_of (view old.store) place old.kept k found are).0 wrote left (rw kept at later)

some-kept : (place : ℕ) (kept : List Kept) (k : Kept) → oldest_of place kept ≡ Some k → 0 < length kept
some-kept place [] k found = absurd (cc found)
some-kept place (x ∷ xs) k found = omega arith

-- refused, or the medium failed in it
pub apply_failed : {S : Type 0} (view : S → StoreView) (old new : Cache S) (place : ℕ) (k : Kept) (fault : StoreFault) → oldest_of place old.kept ≡ Some k → AreOf (view old.store) old.kept
    → PutsOrFails (is_trim k.content) (view old.store) (pending_of k) (Err fault) (view new.store) → new.kept ≡ old.kept → Applies view old (Err fault) new
apply_failed view old new place k (Disk fault) found are wrote kept = record {
  middle = old.store;
  settles = rw kept (settles_same (view_of view old));
  some = λ none. cc (rw none at found);
  refuses = rw kept (put_refuses (view old.store) (view new.store) place old.kept k fault found (oldest_is_of (view old.store) place old.kept k found are).0 wrote);
}
apply_failed view old new place k Medium found are spared kept = record {
  middle = old.store;
  settles = rw kept (settles_same (view_of view old));
  some = λ none. cc (rw none at found);
  stays = rw kept (some-kept place old.kept k found);
  place = k.place;
  spares = spared;
}

pub failed_outcomes : {S : Type 0} (view : S → StoreView) (old new : Cache S) (place : ℕ) (k : Kept) (fault : StoreFault) → oldest_of place old.kept ≡ Some k → AreOf (view old.store) old.kept
    → PutsOrFails (is_trim k.content) (view old.store) (pending_of k) (Err fault) (view new.store) → new.kept ≡ old.kept → HasOutcomesOf view old new
failed_outcomes view old new place k (Disk fault) found are wrote kept left later =
    refused_outcomes (view old.store) (view new.store) old.kept fault
    (put_refuses (view old.store) (view new.store) place old.kept k fault found (oldest_is_of (view old.store) place old.kept k found are).0 wrote) left (rw kept at later)
failed_outcomes view old new place k Medium found are spared kept left later =
    rw (kept, ap (λ (d : FlatDisk). d.array) spared.flat) at later

-- ---- many blocks

none_kept : (below : List Pending) (kept : List Kept) → below ++ all_pending kept ≡ [] → kept ≡ []
none_kept [] [] none = refl
none_kept [] (k ∷ ks) none = absurd (cc none)
none_kept (b ∷ below) kept none = absurd (cc none)

pub some_pending : (below : List Pending) (kept : List Kept) → 0 < length kept → below ++ all_pending kept ≡ [] → ⊥
some_pending below kept some none = let empty = ap length (none_kept below kept none) in omega (arith, some, empty)

pub applies_same : {S : Type 0} (view : S → StoreView) (cache : Cache S) → Applies view cache (Ok tt) cache
applies_same view cache = (settles_same (view_of view cache), λ none. refl)

pub applies_again : {S : Type 0} (view : S → StoreView) (a b c : Cache S) (result : Result (Unit {0}) StoreFault) → Applies view a (Ok tt) b → Applies view b result c → Applies view a result c
applies_again view a b c (Ok done) x y =
    (settles_again (view_of view a) (view_of view b) (view_of view c) x.0 y.0, λ none. y.1 (ap (λ k. k.kept) (x.1 none) ∙ none) ∙ x.1 none)
applies_again view a b c (Err (Disk fault)) x y = record {
  middle = y.middle;
  settles = settles_again (view_of view a) (view_of view b) (cached (view y.middle) (all_pending c.kept)) x.0 y.settles;
  some = λ none. y.some (ap (λ k. k.kept) (x.1 none) ∙ none);
  refuses = y.refuses;
}
applies_again view a b c (Err Medium) x y = record {
  middle = y.middle;
  settles = settles_again (view_of view a) (view_of view b) (cached (view y.middle) (all_pending c.kept)) x.0 y.settles;
  some = λ none. y.some (ap (λ k. k.kept) (x.1 none) ∙ none);
  stays = y.stays;
  place = y.place;
  spares = y.spares;
}

-- nothing was pending, so nothing was applied
nothing-applied : {S : Type 0} (view : S → StoreView) (old new : Cache S) → Applies view old (Ok tt) new → (view_of view old).pending ≡ [] → view_of view new ≡ view_of view old
nothing-applied view old new applied none = ap (view_of view) (applied.1 (none_kept (view old.store).pending old.kept none))

-- something was
some-refused : {S : Type 0} (view : S → StoreView) (old new : Cache S) (fault : DiskFault) → RefusesAfter view old fault new → (view_of view old).pending ≡ [] → ⊥
some-refused view old new fault r none = r.some (none_kept (view old.store).pending old.kept none)

-- nothing was known of the refused block either
refused-unknown : {S : Type 0} (view : S → StoreView) (old new : Cache S) (fault : DiskFault) (r : RefusesAfter view old fault new) → answer_while (view old.store).disk.status ≡ None
    → known_answer (store_flat (view r.middle)) (write r.refuses.w.place (r.refuses.w.block ∷ [])) ≡ None
refused-unknown view old new fault r serves =
    block_unknown (store_flat (view r.middle)) r.refuses.w.place r.refuses.w.block r.refuses.within (ap (λ (d : FlatDisk). answer_while d.status) r.settles.flat ∙ serves)

-- ---- a write that is refused by a pending block

refused-due : (c d less more mine e n : ℕ) → 1 ≤ n → c + less * e ≤ d + more * e + 1 * e → c + (less + mine) * e ≤ d + (more + mine) * e + n * e
refused-due c d less more mine e n some h = omega (arith, h, add-mul less mine e, add-mul more mine e, mul-le 1 e n e some (omega arith))

refused-below : (is_trim kind : Bool) (below below' : StoreView) (xs ys : List Pending) (w : Pending) (first : ℕ) (blocks : List (List ℕ)) (n : ℕ) (fault : DiskFault) → AreApart w.place 1 xs → 1 ≤ n
    → known_answer (store_flat below) (write w.place (w.block ∷ [])) ≡ None → known_answer (store_flat (cached below (xs ++ w ∷ ys))) (write first blocks) ≡ None
    → WroteBlock is_trim below w (Err fault) below' → Writes kind (cached below (xs ++ w ∷ ys)) (write first blocks) first n (with_nothing (Err fault)) (cached below' (xs ++ w ∷ ys))
refused-below is_trim kind below below' xs ys w first blocks n fault apart some known unknown wrote = record {
  calls = refused_calls is_trim below below' xs ys w first blocks fault apart known unknown wrote;
  turns = tt;
  due = bound_so _ _ below.disk below'.disk (λ (each : ℕ) due.
      rw (length-append below'.pending (xs ++ w ∷ ys), length-append below.pending (xs ++ w ∷ ys))
      (refused-due below'.disk.drive.completed below.disk.drive.completed (length below'.pending) (length below.pending) (length (xs ++ w ∷ ys)) each n some due)) wrote.due;
  through = λ none. absurd (not_none below.pending xs ys w none.0);
}

pub refused_writes : {S : Type 0} (view : S → StoreView) (old new : Cache S) (kind : Bool) (first : ℕ) (blocks : List (List ℕ)) (n : ℕ) (fault : DiskFault) → length blocks ≡ n
    → known_range (store_flat (view_of view old)) first n ≡ None → RefusesAfter view old fault new
    → Writes kind (view_of view old) (write first blocks) first n (with_nothing (Err fault)) (view_of view new)
refused_writes view old new kind first blocks n fault long known r =
    let f = r.refuses in
    let u = unknown_range (store_flat (view_of view old)) first n known in
    let unknown : known_answer (store_flat (cached (view r.middle) (all_pending new.kept))) (write first blocks) ≡ None = ap (λ (d : FlatDisk). known_answer d (write first blocks)) r.settles.flat ∙ (ap (known_range (store_flat (view_of view old)) first) long ∙ known) in
    settled_writes kind (view_of view old) (cached (view r.middle) (all_pending new.kept)) (view_of view new) (write first blocks) first n (with_nothing (Err fault)) r.settles (λ none. absurd (some-refused view old new fault r none))
    (rw f.mine_are (refused-below f.is_trim kind (view r.middle) (view new.store) f.older f.newer f.w first blocks n fault f.apart u.some (refused-unknown view old new fault r u.serves) unknown f.puts))

-- ---- a write that is kept, after some blocks were applied

pub kept_after : {S : Type 0} (view : S → StoreView) (old middle new : Cache S) (kind : Bool) (first : ℕ) (blocks : List (List ℕ)) (n : ℕ) → length blocks ≡ n
    → known_range (store_flat (view_of view old)) first n ≡ None → Applies view old (Ok tt) middle → Keeps middle (pieces first blocks) new
    → Writes kind (view_of view old) (write first blocks) first n (with_nothing (Ok tt)) (view_of view new)
kept_after view old middle new kind first blocks n long known applied kept =
    let u = unknown_range (store_flat (view_of view old)) first n known in
    let unknown : known_answer (store_flat (view_of view middle)) (write first blocks) ≡ None = ap (λ (d : FlatDisk). known_answer d (write first blocks)) applied.0.flat ∙ (ap (known_range (store_flat (view_of view old)) first) long ∙ known) in
    settled_writes kind (view_of view old) (view_of view middle) (view_of view new) (write first blocks) first n (with_nothing (Ok tt)) applied.0 (nothing-applied view old middle applied)
    (rw (kept.store, kept.kept, sym long) (kept_writes kind (view middle.store) (all_pending middle.kept) first blocks (omega (arith, long, u.some)) unknown))

-- ---- a write that goes below whole, after all blocks were applied

pub sent_after : {S : Type 0} (view : S → StoreView) (old middle new : Cache S) (kind : Bool) (call : Call) (first n : ℕ) (answer : Answer) → Applies view old (Ok tt) middle → middle.kept ≡ [] → new.kept ≡ []
    → Writes kind (view middle.store) call first n answer (view new.store) → Writes kind (view_of view old) call first n answer (view_of view new)
sent_after view old middle new kind call first n answer applied none after wrote =
    settled_writes kind (view_of view old) (view_of view middle) (view_of view new) call first n answer applied.0 (nothing-applied view old middle applied)
    (rw (none, after) (empty_writes kind (view middle.store) (view new.store) call first n answer wrote))

-- ---- a sync

one-again : (c b a e : ℕ) → b ≤ a + 0 * e → c ≤ b + 1 → c ≤ a + 1
one-again c b a e first second = omega (arith, first, second)

-- a sync that fails after some blocks were applied
settled-keeps : (a b c : StoreView) → Settles a b → (a.pending ≡ [] → ⊥) → KeepsBySync b c → KeepsBySync a c
settled-keeps a b c s some k = record {
  array = k.array ∙ ap (λ (d : FlatDisk). d.array) s.flat;
  kept = keeps_again a.disk b.disk c.disk s.kept k.kept;
  durable = λ zones found. elim (k.durable zones found) [ inl before ↦ inl (rw s.durable at before) | inr now ↦ inr now ];
  turns = λ none. absurd (some none);
  completed = bound_again _ _ _ a.disk b.disk c.disk s.kept k.kept (λ (each : ℕ) some. one-again c.disk.drive.completed (commands_due each b) (commands_due each a) each) s.due k.completed;
  pending = λ w found. s.pending w (k.pending w found);
  since = λ array found. elim (k.since array found) [ inl before ↦ inl (s.since array before) | inr now ↦ inr now ];
  syncs = rw s.syncs at k.syncs;
  mode = record { read_only = k.mode.read_only ∙ s.mode.read_only; cleans = k.mode.cleans ∙ s.mode.cleans; flushes = k.mode.flushes ∙ s.mode.flushes; defers = k.mode.defers ∙ s.mode.defers; fails = k.mode.fails ∙ s.mode.fails };
  silent = λ off none. absurd (some none);
}

settled-fails : (a b c : StoreView) (fault : DiskFault) → Settles a b → (a.pending ≡ [] → ⊥) → FailsSync b fault c → FailsSync a fault c
settled-fails a b c fault s some f = record {
  keeps = settled-keeps a b c s some f.keeps;
  flushes = λ none. absurd (some none);
  may = may_more b.pending a.pending fault some f.may;
  flat = f.flat ∙ ap (λ (d : FlatDisk). record d { status = status_after (Err fault) }) s.flat;
  cause = f.cause;
}

pub refused_sync : {S : Type 0} (view : S → StoreView) (IsDone : List Pending → Type 0) (old new : Cache S) (fault : DiskFault) → answer_while (view old.store).disk.status ≡ None → RefusesAfter view old fault new
    → SyncsBy IsDone (view_of view old) (Err (Disk fault)) (view_of view new)
refused_sync view IsDone old new fault serves r =
    let f = r.refuses in
    inr (
      serves,
      settled-fails (view_of view old) (cached (view r.middle) (all_pending new.kept)) (view_of view new) fault r.settles (some-refused view old new fault r)
          (rw f.mine_are (refused_fails f.is_trim (view r.middle) (view new.store) f.older f.newer f.w fault f.apart (refused-unknown view old new fault r serves) f.puts)),
    )

pub synced_after : {S : Type 0} (view : S → StoreView) (old middle new : Cache S) (result : Result (Unit {0}) StoreFault) → answer_while (view old.store).disk.status ≡ None → Applies view old (Ok tt) middle
    → middle.kept ≡ [] → new.kept ≡ [] → SyncsBy (λ (pending : List Pending). pending ≡ []) (view middle.store) result (view new.store)
    → SyncsBy (λ (pending : List Pending). pending ≡ []) (view_of view old) result (view_of view new)
synced_after {S = S} view old middle new result serves applied none after sync =
    rw after (sync_all (view old.store) (view middle.store) (view new.store) (all_pending old.kept) result (rw none at applied.0) (λ empty. ap (λ (c : Cache S). view c.store) (applied.1 (none_kept [] old.kept empty))) sync serves)

pub forced_after : {S : Type 0} (view : S → StoreView) (old middle new : Cache S) (first n : ℕ) (result : Result (Unit {0}) StoreFault) → answer_while (view old.store).disk.status ≡ None → Applies view old (Ok tt) middle
    → new.kept ≡ middle.kept → AreApart first n (all_pending middle.kept) → SyncsBy (AreApart first n) (view middle.store) result (view new.store)
    → SyncsBy (AreApart first n) (view_of view old) result (view_of view new)
forced_after {S = S} view old middle new first n result serves applied after apart sync =
    rw after (force_some (view old.store) (view middle.store) (view new.store) (all_pending old.kept) (all_pending middle.kept) first n result applied.0 nothing apart sync serves)
  where
    nothing : all_pending old.kept ≡ [] → (view middle.store ≡ view old.store) × (all_pending middle.kept ≡ [])
    nothing empty =
        let same = applied.1 (none_kept [] old.kept empty) in
        (ap (λ (c : Cache S). view c.store) same, ap (λ (c : Cache S). all_pending c.kept) same ∙ empty)

-- ---- what is known, and what was done, as the code asks for it

known-some : (o : Option (Result (Unit {0}) DiskFault)) → is_some o ≡ true → (r : Result (Unit {0}) DiskFault) × (o ≡ Some r)
known-some (Some r) is = (r, refl)
known-some None is = absurd (cc is)

pub known_none : (o : Option (Result (Unit {0}) DiskFault)) → is_some o ≡ false → o ≡ None
known_none (Some r) is = absurd (cc is)
known_none None is = refl

pub on_ok : {A E : Type 0} (result : Result A E) (Holds : Type 0) → is_ok result ≡ true → OnOk result Holds → Holds
on_ok (Ok done) Holds is holds = holds
on_ok (Err fault) Holds is holds = absurd (cc is)

pub on_refused : {A E : Type 0} (result : Result A E) (Holds : Type 0) → is_ok result ≡ false → OnErr result Holds → Holds
on_refused (Ok done) Holds is holds = absurd (cc is)
on_refused (Err fault) Holds is holds = holds

-- ---- a write, done, refused, or in which the medium failed

-- a write of the cache, as it is answered
abbrev pub WriteGives : {S : Type 0} → (S → StoreView) → Cache S → Bool → ℕ → List (List ℕ) → ℕ → Result (Unit {0}) StoreFault → Cache S → Type 0
WriteGives view old kind first blocks n result new =
    OrFails (λ answer. Writes kind (view_of view old) (write first blocks) first n (with_nothing answer) (view_of view new)) (Spares (view_of view old) first n (view_of view new)) result

-- one of the store below
abbrev pub WriteBelow : {S : Type 0} → (S → StoreView) → Cache S → Bool → ℕ → List (List ℕ) → ℕ → Result (Unit {0}) StoreFault → Cache S → Type 0
WriteBelow view old kind first blocks n result new =
    OrFails (λ answer. Writes kind (view old.store) (write first blocks) first n (with_nothing answer) (view new.store)) (Spares (view old.store) first n (view new.store)) result

some-failed : {S : Type 0} (view : S → StoreView) (old new : Cache S) → FailsAfter view old new → (view_of view old).pending ≡ [] → ⊥
some-failed view old new f none = f.some (none_kept (view old.store).pending old.kept none)

failed-spares : {S : Type 0} (view : S → StoreView) (old new : Cache S) (first n : ℕ) → known_range (store_flat (view_of view old)) first n ≡ None → FailsAfter view old new → Spares (view_of view old) first n (view_of view new)
failed-spares view old new first n known f =
    let b = cached (view f.middle) (all_pending new.kept) in
    let later : known_range (store_flat b) first n ≡ None = ap (λ (d : FlatDisk). known_range d first n) f.settles.flat ∙ known in
    settled_spares (view_of view old) b (view_of view new) first n f.settles (λ none. absurd (some-failed view old new f none))
    (spares_longer b (view_of view new) f.place 1 first n (unknown_range (store_flat b) first n later).some later (spares_over (view f.middle) (view new.store) (all_pending new.kept) f.place 1 f.spares))

-- a pending block could not be applied
pub write_failed : {S : Type 0} (view : S → StoreView) (old new : Cache S) (kind : Bool) (first : ℕ) (blocks : List (List ℕ)) (n : ℕ) (fault : StoreFault) → length blocks ≡ n
    → known_range (store_flat (view_of view old)) first n ≡ None → Applies view old (Err fault) new → WriteGives view old kind first blocks n (Err fault) new
write_failed view old new kind first blocks n (Disk fault) long known r = refused_writes view old new kind first blocks n fault long known r
write_failed view old new kind first blocks n Medium long known f = failed-spares view old new first n known f

-- a write whose answer is known goes below
known-passed : {S : Type 0} (view : S → StoreView) (old new : Cache S) (kind : Bool) (first n : ℕ) (blocks : List (List ℕ)) (result : Result (Unit {0}) DiskFault) → length blocks ≡ n
    → is_some (known_range (store_flat (view old.store)) first n) ≡ true → Writes kind (view old.store) (write first blocks) first n (with_nothing result) (view new.store) → new.kept ≡ old.kept
    → Writes kind (view_of view old) (write first blocks) first n (with_nothing result) (view_of view new)
known-passed view old new kind first n blocks result long known wrote kept =
    let r = known-some (known_range (store_flat (view old.store)) first n) known in
    rw kept (known_writes kind (view old.store) (view new.store) (all_pending old.kept) first blocks n (with_nothing result) r.0 (ap (known_range (store_flat (view old.store)) first) long ∙ r.1) wrote)

pub write_passed : {S : Type 0} (view : S → StoreView) (old new : Cache S) (kind : Bool) (first n : ℕ) (blocks : List (List ℕ)) (result : Result (Unit {0}) StoreFault) → length blocks ≡ n
    → is_some (known_range (store_flat (view old.store)) first n) ≡ true → WriteBelow view old kind first blocks n result new → new.kept ≡ old.kept → WriteGives view old kind first blocks n result new
write_passed view old new kind first n blocks (Ok done) long known o kept = known-passed view old new kind first n blocks (Ok tt) long known o kept
write_passed view old new kind first n blocks (Err (Disk fault)) long known o kept = known-passed view old new kind first n blocks (Err fault) long known o kept
write_passed view old new kind first n blocks (Err Medium) long known o kept = rw kept (spares_over (view old.store) (view new.store) (all_pending old.kept) first n o)

-- all blocks were applied, and it went below whole
pub write_sent : {S : Type 0} (view : S → StoreView) (old middle new : Cache S) (kind : Bool) (first : ℕ) (blocks : List (List ℕ)) (n : ℕ) (result : Result (Unit {0}) StoreFault) → Applies view old (Ok tt) middle → middle.kept ≡ [] → new.kept ≡ []
    → WriteBelow view middle kind first blocks n result new → WriteGives view old kind first blocks n result new
write_sent view old middle new kind first blocks n (Ok done) applied none after o = sent_after view old middle new kind (write first blocks) first n (with_nothing (Ok tt)) applied none after o
write_sent view old middle new kind first blocks n (Err (Disk fault)) applied none after o = sent_after view old middle new kind (write first blocks) first n (with_nothing (Err fault)) applied none after o
write_sent view old middle new kind first blocks n (Err Medium) applied none after o =
    settled_spares (view_of view old) (view_of view middle) (view_of view new) first n applied.0 (nothing-applied view old middle applied)
    (rw (none, after) (spares_over (view middle.store) (view new.store) [] first n o))

-- a sync for which a pending block could not be applied
pub sync_failed : {S : Type 0} (view : S → StoreView) (IsDone : List Pending → Type 0) (old new : Cache S) (fault : StoreFault) → answer_while (view old.store).disk.status ≡ None → Applies view old (Err fault) new
    → SyncsBy IsDone (view_of view old) (Err fault) (view_of view new)
sync_failed view IsDone old new (Disk fault) serves r = refused_sync view IsDone old new fault serves r
sync_failed view IsDone old new Medium serves f = (
  serves,
  spares_keeps (view f.middle) (view new.store) (all_pending new.kept) f.place (view_of view old) (omega (arith, f.stays, length_map new.kept)) (some-failed view old new f) f.settles f.spares,
  (spares_over (view f.middle) (view new.store) (all_pending new.kept) f.place 1 f.spares).flat ∙ f.settles.flat,
)
