-- The coins of a cut fall one after the other, and leave what they would leave together.
use Rattle.std.proofs.Common.{◌≡◌, ◌∙◌, ℕ, ◌+◌, ◌<◌, List, [], ◌∷◌, length, drop, set, refl, sym, ap, arith, true, false}
use Rattle.std.specs.Prelude.{if◌then◌else◌, Bool}
use Rattle.rand_core.specs.Stream.{Stream}
use Rattle.nbd_session.specs.Store.{StoreView, store_array}
use Rattle.volatile_cache.specs.Cache.{Cache}
use Rattle.volatile_cache.specs.Fates.{left_by, lost_by}
use Rattle.volatile_cache.specs.Queue.{all_pending, bytes_of}
use Rattle.volatile_cache.specs.declared.kept.Kept.{Kept}

lost-left : (coin : Stream → Bool × Stream) (a b : Stream) (kept : List Kept) (array : List (List ℕ)) → 0 < length kept → (true, b) ≡ coin a
    → left_by coin b (all_pending (drop 1 kept)) array ≡ left_by coin a (all_pending kept) array
lost-left coin a b [] array some falls = absurd (omega (arith, some))
lost-left coin a b (k ∷ ks) array some falls =
    ap (λ (fall : Bool × Stream). left_by coin fall.1 (all_pending ks) (if fall.0 then array else set array k.place (bytes_of k.content))) falls

lost-count : (coin : Stream → Bool × Stream) (a b : Stream) (kept : List Kept) → 0 < length kept → (true, b) ≡ coin a
    → 1 + lost_by coin b (all_pending (drop 1 kept)) ≡ lost_by coin a (all_pending kept)
lost-count coin a b [] some falls = absurd (omega (arith, some))
lost-count coin a b (k ∷ ks) some falls = rw (← falls) refl

-- What the coins yet to be thrown leave of a cache now is what all of them leave of it as it was; so many are lost yet.
abbrev pub SharesFate : {S : Type 0} → (S → StoreView) → (Stream → Bool × Stream) → Stream → Cache S → ℕ → Stream → Cache S → Type 0
SharesFate view coin first old lost chance now =
    (left_by coin chance (all_pending now.kept) (store_array (view now.store)) ≡ left_by coin first (all_pending old.kept) (store_array (view old.store)))
    × (lost + lost_by coin chance (all_pending now.kept) ≡ lost_by coin first (all_pending old.kept))

pub fate_first : {S : Type 0} (view : S → StoreView) (coin : Stream → Bool × Stream) (first chance : Stream) (cache : Cache S) → chance ≡ first → SharesFate view coin first cache 0 chance cache
fate_first view coin first chance cache same = (
  ap (λ (s : Stream). left_by coin s (all_pending cache.kept) (store_array (view cache.store))) same,
  ap (λ (s : Stream). 0 + lost_by coin s (all_pending cache.kept)) same ∙ omega arith,
)

-- the oldest block is lost
pub fate_lost : {S : Type 0} (view : S → StoreView) (coin : Stream → Bool × Stream) (first a b : Stream) (old now next : Cache S) (lost lost' : ℕ) → SharesFate view coin first old lost a now
    → 0 < length now.kept → (true, b) ≡ coin a → next.store ≡ now.store → next.kept ≡ drop 1 now.kept → lost' ≡ lost + 1 → SharesFate view coin first old lost' b next
fate_lost {S = S} view coin first a b old now next lost lost' fate some falls store kept more =
    let count : 1 + lost_by coin b (all_pending next.kept) ≡ lost_by coin a (all_pending now.kept) = rw kept (lost-count coin a b now.kept some falls) in (
      ap (λ (s : S). left_by coin b (all_pending next.kept) (store_array (view s))) store
          ∙ (ap (λ (ks : List Kept). left_by coin b (all_pending ks) (store_array (view now.store))) kept
          ∙ (lost-left coin a b now.kept (store_array (view now.store)) some falls ∙ fate.0)),
      omega (arith, count, fate.1, more),
    )

-- none is pending: all coins have fallen
pub fate_last : {S : Type 0} (view : S → StoreView) (coin : Stream → Bool × Stream) (first chance : Stream) (old now new : Cache S) (lost : ℕ) → SharesFate view coin first old lost chance now
    → now.kept ≡ [] → store_array (view new.store) ≡ store_array (view now.store)
    → (lost ≡ lost_by coin first (all_pending old.kept)) × (store_array (view new.store) ≡ left_by coin first (all_pending old.kept) (store_array (view old.store)))
fate_last view coin first chance old now new lost fate none array =
    let count : lost_by coin chance (all_pending now.kept) ≡ 0 = rw none refl in (
      omega (arith, count, fate.1),
      array ∙ (sym (ap (λ (ks : List Kept). left_by coin chance (all_pending ks) (store_array (view now.store))) none) ∙ fate.0),
    )

-- ---- how many are lost, whatever the Reads of the drive returned

abbrev pub SharesCount : (Stream → Bool × Stream) → Stream → List Kept → ℕ → Stream → List Kept → Type 0
SharesCount coin first old lost chance now = lost + lost_by coin chance (all_pending now) ≡ lost_by coin first (all_pending old)

pub count_first : (coin : Stream → Bool × Stream) (first chance : Stream) (kept : List Kept) → chance ≡ first → SharesCount coin first kept 0 chance kept
count_first coin first chance kept same = ap (λ (s : Stream). 0 + lost_by coin s (all_pending kept)) same ∙ omega arith

-- the oldest block is lost
pub count_lost : (coin : Stream → Bool × Stream) (first a b : Stream) (old now next : List Kept) (lost lost' : ℕ) → SharesCount coin first old lost a now
    → 0 < length now → (true, b) ≡ coin a → next ≡ drop 1 now → lost' ≡ lost + 1 → SharesCount coin first old lost' b next
count_lost coin first a b old now next lost lost' counts some falls kept more =
    let count : 1 + lost_by coin b (all_pending next) ≡ lost_by coin a (all_pending now) = rw kept (lost-count coin a b now some falls) in
    omega (arith, count, counts, more)

kept-count : (coin : Stream → Bool × Stream) (a b : Stream) (kept : List Kept) → 0 < length kept → (false, b) ≡ coin a → lost_by coin b (all_pending (drop 1 kept)) ≡ lost_by coin a (all_pending kept)
kept-count coin a b [] some falls = absurd (omega (arith, some))
kept-count coin a b (k ∷ ks) some falls = rw (← falls) refl

-- or it is not
pub count_kept : (coin : Stream → Bool × Stream) (first a b : Stream) (old now next : List Kept) (lost : ℕ) → SharesCount coin first old lost a now → 0 < length now → (false, b) ≡ coin a → next ≡ drop 1 now → SharesCount coin first old lost b next
count_kept coin first a b old now next lost counts some falls kept =
    let count : lost_by coin b (all_pending next) ≡ lost_by coin a (all_pending now) = rw kept (kept-count coin a b now some falls) in
    omega (arith, count, counts)

-- none is pending
pub count_last : (coin : Stream → Bool × Stream) (first chance : Stream) (old now : List Kept) (lost : ℕ) → SharesCount coin first old lost chance now → now ≡ [] → lost ≡ lost_by coin first (all_pending old)
count_last coin first chance old now lost counts none =
    let count : lost_by coin chance (all_pending now) ≡ 0 = rw none refl in
    omega (arith, count, counts)
