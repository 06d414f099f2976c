-- Records are placed, the newest first, and each block has the place of its newest one.
use Rattle.std.proofs.Common.{◌≡◌, ◌≢◌, inl, inr, ℕ, zero, suc, ◌+◌, ◌<◌, ◌≤◌, Bool, true, false, List, [], ◌∷◌, ◌++◌, length, map, set, get_or, drop, replicate, Option, Some, None, refl, sym, ap, subst, ◌∙◌, arith, append_assoc, append-nil}
use Rattle.std.specs.Prelude.{IsPermutation}
use Rattle.std.specs.List.{AllByRecursion, Contains}
use Rattle.std.specs.List.Sorted.{IsNonDecreasingBy}
use Rattle.std.proofs.lemmas.Bool.{cases_eq}
use Rattle.std.proofs.lemmas.List.{ext_get_or, get_or-replicate, get_or-set_other, get_or-set_same, length-append, length-replicate, length-set}
use Rattle.std.proofs.lemmas.List.Elements.{Contains-append_cases, Contains-append_left, Contains-append_right, Contains-push, Contains-push_cases}
use Rattle.std.proofs.lemmas.List.FromFn.{get_or-map-range_with_len, length-map-range_with_len}
use Rattle.std.proofs.lemmas.List.Sorted.{IsPermutation-sym}
use Rattle.std.proofs.Math.Seq.{drop-cons}
use Rattle.batch_log.specs.Log.{one_unless}
use Rattle.logical_map.specs.declared.place.Place.{Place}
use Rattle.logical_map.specs.declared.place.Place.TheVariants as places
use Rattle.drive_array.specs.Records.{IsNewest, Record, newest, place, told}
use Rattle.zone_choice.specs.Tables.{TablesView}
use Rattle.drive_array.proofs.NewestLaws.{all-among, newest-is}
use Rattle.drive_survey.specs.declared.records.KeptRecord.{KeptRecord}
use Rattle.drive_survey.specs.Heads.{HeadsView}
use Rattle.drive_survey.specs.KeptRecords.{entry_record, is_kept_trim, kept_entries, kept_record}
use Rattle.remount.specs.declared.tables.batches.ListedBatch.{ListedBatch}
use Rattle.remount.specs.Placing.{IsPlaceOf, NoneIsOlder, PlacesNewest, SameButPlaces, kept_place, all_listed, records_listed}
use Rattle.drive_survey.proofs.NewestListLaws.{among-map, map-among}
use Rattle.drive_survey.proofs.RecordKeyLaws.{AreApart, same-record}
use Rattle.remount.proofs.HeadPlaceLaws.{IsRead}
use Rattle.remount.proofs.ListingLaws.{in-any-order, of-batch-number, of-one}

-- ---- what is said of places

-- the same records in another order
placed-same : (zone_size : ℕ) (xs ys : List KeptRecord) (table : List Place) → ((r : KeptRecord) → Contains xs r → Contains ys r) → ((r : KeptRecord) → Contains ys r → Contains xs r) → PlacesNewest zone_size xs table → PlacesNewest zone_size ys table
placed-same zone_size xs ys table more back placed block lt = elim (placed block lt) as (λ _. IsPlaceOf zone_size ys block (get_or table block places.None)) [
  | inl none ↦ inl (none.0, λ r c same. none.1 r (back r c) same)
  | inr found ↦ inr (found.0, record { among = more found.0 found.1.among; block_is = found.1.block_is; newest = λ s c same. found.1.newest s (back s c) same }, found.2)
]

place-some : (zone_size : ℕ) (r : KeptRecord) → kept_place zone_size r ≡ places.None → ⊥
place-some zone_size r is = by r.trim refl is
  where
    by : (t : Bool) → r.trim ≡ t → kept_place zone_size r ≡ places.None → ⊥
    by true e is = (let bad = rw e at is in absurd (cc))
    by false e is = (let bad = rw e at is in absurd (cc))

-- nothing has a place, and there is no record
pub placed-none : (zone_size n : ℕ) (table : List Place) → table ≡ replicate n places.None → PlacesNewest zone_size [] table
placed-none zone_size n table is block lt =
    let short : block < n = omega (arith, lt, ap length is, length-replicate n places.None) in
    inl (ap (λ (t : List Place). get_or t block places.None) is ∙ get_or-replicate n block places.None places.None short, λ r c same. omega (arith, c.1))

-- ---- one record more

other-place : (zone_size block : ℕ) (all : List KeptRecord) (found : KeptRecord) (p : Place) → found.block ≢ block → IsPlaceOf zone_size all block p → IsPlaceOf zone_size (all ++ found ∷ []) block p
other-place zone_size block all found p apart (inl none) = inl (
  none.0,
  λ r c same. elim (Contains-push_cases all found r c) as (λ _. ⊥) [
    | inl d ↦ none.1 r d same
    | inr is ↦ apart (ap (λ (x : KeptRecord). x.block) is ∙ same)
  ],
)
other-place zone_size block all found p apart (inr was) = inr (
  was.0,
  record {
    among = Contains-append_left all (found ∷ []) was.0 was.1.among;
    block_is = was.1.block_is;
    newest = λ s c same. elim (Contains-push_cases all found s c) as (λ _. s.sequence ≤ was.0.sequence) [
      | inl d ↦ was.1.newest s d same
      | inr is ↦ absurd (apart (ap (λ (x : KeptRecord). x.block) is ∙ same))
    ];
  },
  was.2,
)

-- its block has no place
pub place-first : (zone_size : ℕ) (all : List KeptRecord) (found : KeptRecord) (table new : List Place) → found.block < length table → get_or table found.block places.None ≡ places.None → new ≡ set table found.block (kept_place zone_size found)
    → PlacesNewest zone_size all table → PlacesNewest zone_size (all ++ found ∷ []) new
place-first zone_size all found table new inside none is placed block lt = rw is (elim (cases_eq found.block block) as (λ _. IsPlaceOf zone_size (all ++ found ∷ []) block (get_or (set table found.block (kept_place zone_size found)) block places.None)) [
  | inl here ↦ inr (
    found,
    record {
      among = Contains-push all found;
      block_is = here;
      newest = λ s c same. elim (Contains-push_cases all found s c) as (λ _. s.sequence ≤ found.sequence) [
        | inl d ↦ absurd (unnamed (placed found.block inside) s d (same ∙ sym here))
        | inr one ↦ rw (← one) (omega arith)
      ];
    },
    rw (← here) (get_or-set_same table found.block (kept_place zone_size found) places.None inside),
  )
  | inr other ↦ (
      let short : block < length table = omega (arith, lt, ap length is, length-set table found.block (kept_place zone_size found)) in
      rw (get_or-set_other table found.block block (kept_place zone_size found) places.None (λ e. other (sym e))) (other-place zone_size block all found (get_or table block places.None) other (placed block short))
      )
])
  where
    unnamed : IsPlaceOf zone_size all found.block (get_or table found.block places.None) → (s : KeptRecord) → Contains all s → s.block ≡ found.block → ⊥
    unnamed (inl none_named) s d same = none_named.1 s d same
    unnamed (inr was) s d same = place-some zone_size was.0 (sym was.2 ∙ none)

-- its block has one by a record that is no older
pub place-kept : (zone_size : ℕ) (all : List KeptRecord) (found : KeptRecord) (table : List Place) → get_or table found.block places.None ≢ places.None → NoneIsOlder all found.sequence
    → PlacesNewest zone_size all table → PlacesNewest zone_size (all ++ found ∷ []) table
place-kept zone_size all found table some older placed block lt = elim (cases_eq found.block block) as (λ _. IsPlaceOf zone_size (all ++ found ∷ []) block (get_or table block places.None)) [
  | inl here ↦ here-kept here (placed block lt)
  | inr other ↦ other-place zone_size block all found (get_or table block places.None) other (placed block lt)
]
  where
    here-kept : found.block ≡ block → IsPlaceOf zone_size all block (get_or table block places.None) → IsPlaceOf zone_size (all ++ found ∷ []) block (get_or table block places.None)
    here-kept here (inl none) = absurd (some (ap (λ (b : ℕ). get_or table b places.None) here ∙ none.0))
    here-kept here (inr was) = inr (
      was.0,
      record {
        among = Contains-append_left all (found ∷ []) was.0 was.1.among;
        block_is = was.1.block_is;
        newest = λ s c same. elim (Contains-push_cases all found s c) as (λ _. s.sequence ≤ was.0.sequence) [
          | inl d ↦ was.1.newest s d same
          | inr one ↦ rw (← one) (older was.0 was.1.among)
        ];
      },
      was.2,
    )

-- its block is past the end
pub place-past : (zone_size : ℕ) (all : List KeptRecord) (found : KeptRecord) (table : List Place) → length table ≤ found.block → PlacesNewest zone_size all table → PlacesNewest zone_size (all ++ found ∷ []) table
place-past zone_size all found table past placed block lt = other-place zone_size block all found (get_or table block places.None) (λ e. omega (arith, past, lt, e)) (placed block lt)

-- ---- a batch

-- the first records of a batch are placed, and the rest are left
pub record PlacedSoFar (zone_size sequence : ℕ) (first now : List Place) (rest whole : List KeptRecord) : Type 0 where
  pub done : List KeptRecord
  pub split : done ++ rest ≡ whole
  pub numbers : (r : KeptRecord) → Contains done r → r.sequence ≡ sequence
  pub places : (all : List KeptRecord) → PlacesNewest zone_size all first → NoneIsOlder all sequence → PlacesNewest zone_size (all ++ done) now

-- before the first record of a batch is placed, all are left
pub so-far-none : (zone_size sequence : ℕ) (first : List Place) (whole : List KeptRecord) → PlacedSoFar zone_size sequence first first whole whole
so-far-none zone_size sequence first whole = record { done = []; split = refl; numbers = λ r c. absurd (omega (arith, c.1)); places = λ all placed older. rw (append-nil all) placed }

so-far-more : (zone_size sequence : ℕ) (first old new : List Place) (found : KeptRecord) (rest whole : List KeptRecord) → found.sequence ≡ sequence
    → ((all : List KeptRecord) → PlacesNewest zone_size all old → NoneIsOlder all found.sequence → PlacesNewest zone_size (all ++ found ∷ []) new)
    → PlacedSoFar zone_size sequence first old (found ∷ rest) whole → PlacedSoFar zone_size sequence first new rest whole
so-far-more zone_size sequence first old new found rest whole number step so_far = record {
  done = so_far.done ++ found ∷ [];
  split = append_assoc so_far.done (found ∷ []) rest ∙ so_far.split;
  numbers = λ r c. elim (Contains-push_cases so_far.done found r c) as (λ _. r.sequence ≡ sequence) [
    | inl d ↦ so_far.numbers r d
    | inr is ↦ sym (ap (λ (x : KeptRecord). x.sequence) is) ∙ number
  ];
  places = λ all placed older. subst (λ (rs : List KeptRecord). PlacesNewest zone_size rs new) (append_assoc all so_far.done (found ∷ []))
      (step (all ++ so_far.done) (so_far.places all placed older) (λ r c. elim (Contains-append_cases all so_far.done r c) as (λ _. found.sequence ≤ r.sequence) [
        | inl d ↦ (let le = older r d in omega (arith, le, number))
        | inr d ↦ (let same = so_far.numbers r d in omega (arith, same, number))
      ]));
}

-- an entry is placed
pub entry-placed : (zone_size sequence zone header k k' i i' : ℕ) (entries : List ℕ) (first old new : List Place) (whole : List KeptRecord) → i < length entries → i' ≡ suc i → k' ≡ k + one_unless (is_kept_trim (get_or entries i 0))
    → ((all : List KeptRecord) → PlacesNewest zone_size all old → NoneIsOlder all sequence → PlacesNewest zone_size (all ++ entry_record sequence zone header k (get_or entries i 0) ∷ []) new)
    → PlacedSoFar zone_size sequence first old (kept_entries sequence zone header k (drop i entries)) whole → PlacedSoFar zone_size sequence first new (kept_entries sequence zone header k' (drop i' entries)) whole
entry-placed zone_size sequence zone header k k' i i' entries first old new whole lt next count step so_far =
    let e = get_or entries i 0 in
    let so_far' : PlacedSoFar zone_size sequence first old (entry_record sequence zone header k e ∷ kept_entries sequence zone header (k + one_unless (is_kept_trim e)) (drop (suc i) entries)) whole = rw (drop-cons entries i 0 lt) at so_far in
    rw (next, count) (so-far-more zone_size sequence first old new (entry_record sequence zone header k e) (kept_entries sequence zone header (k + one_unless (is_kept_trim e)) (drop (suc i) entries)) whole refl step so_far')

-- once no record of a batch is left, all of them are placed
pub so-far-all : (zone_size sequence : ℕ) (first now : List Place) (whole : List KeptRecord) → PlacedSoFar zone_size sequence first now [] whole
    → (all : List KeptRecord) → PlacesNewest zone_size all first → NoneIsOlder all sequence → PlacesNewest zone_size (all ++ whole) now
so-far-all zone_size sequence first now whole so_far all placed older =
    let same : so_far.done ≡ whole = sym (append-nil so_far.done) ∙ so_far.split in
    rw (← same) (so_far.places all placed older)

-- two steps that change only places change only places together
pub both-kept : (first old new : TablesView) → SameButPlaces first old → SameButPlaces old new → SameButPlaces first new
both-kept first old new k l = record { size = l.size ∙ k.size; zones = l.zones ∙ k.zones; zone_size = l.zone_size ∙ k.zone_size; given = l.given ∙ k.given; unreadable = l.unreadable ∙ k.unreadable }

-- ---- all batches

-- the last batches are placed, and the first are left
pub record BatchesPlaced (zone_size : ℕ) (views : List HeadsView) (first now : List Place) (left whole : List ListedBatch) : Type 0 where
  pub done : List ListedBatch
  pub split : left ++ done ≡ whole
  pub places : PlacesNewest zone_size [] first → PlacesNewest zone_size (all_listed views done) now

-- before the first batch is placed, all are left
pub batches-none : (zone_size : ℕ) (views : List HeadsView) (first : List Place) (whole : List ListedBatch) → BatchesPlaced zone_size views first first whole whole
batches-none zone_size views first whole = record { done = []; split = append-nil whole; places = λ placed. placed }

-- by the order of the batches none that is placed is older than the next one
last-oldest : (left done : List ListedBatch) (batch d : ListedBatch) → IsNonDecreasingBy (λ (b : ListedBatch). b.head.sequence) (left ++ batch ∷ done) → Contains done d → batch.head.sequence ≤ d.head.sequence
last-oldest left done batch d sorted c =
    let le = sorted (length left + 0) (length left + suc c.0) batch (omega arith) (omega (arith, c.1, length-append left (batch ∷ done))) in
    let this : get_or (left ++ batch ∷ done) (length left + 0) batch ≡ batch = at-end left (batch ∷ done) 0 batch in
    let that : get_or (left ++ batch ∷ done) (length left + suc c.0) batch ≡ d = at-end left (batch ∷ done) (suc c.0) batch ∙ c-is done d batch c in
    let a = ap (λ (b : ListedBatch). b.head.sequence) this in
    let z = ap (λ (b : ListedBatch). b.head.sequence) that in
    omega (arith, le, a, z)
  where
    at-end : (xs ys : List ListedBatch) (k : ℕ) (e : ListedBatch) → get_or (xs ++ ys) (length xs + k) e ≡ get_or ys k e
    at-end [] ys k e = let same : 0 + k ≡ k = omega arith in ap (λ (i : ℕ). get_or ys i e) same
    at-end (x ∷ xs) ys k e = let same : suc (length xs) + k ≡ suc (length xs + k) = omega arith in ap (λ (i : ℕ). get_or (x ∷ (xs ++ ys)) i e) same ∙ at-end xs ys k e

    c-is : (xs : List ListedBatch) (x e : ListedBatch) (c : Contains xs x) → get_or xs c.0 e ≡ x
    c-is [] x e c = absurd (omega (arith, c.1))
    c-is (y ∷ ys) x e (zero, lt, is) = is
    c-is (y ∷ ys) x e (suc n, lt, is) = c-is ys x e (n, omega (arith, lt), is)

-- once the last batch that is left is placed, one batch fewer is left
pub batches-more : (zone_size : ℕ) (views : List HeadsView) (first old new : List Place) (before left whole : List ListedBatch) (batch : ListedBatch) → IsNonDecreasingBy (λ (b : ListedBatch). b.head.sequence) whole → before ≡ left ++ batch ∷ []
    → ((all : List KeptRecord) → PlacesNewest zone_size all old → NoneIsOlder all batch.head.sequence → PlacesNewest zone_size (all ++ records_listed views batch) new)
    → BatchesPlaced zone_size views first old before whole → BatchesPlaced zone_size views first new left whole
batches-more zone_size views first old new before left whole batch sorted popped step so_far = record {
  done = batch ∷ so_far.done;
  split = split;
  places = λ placed. placed-same zone_size (all_listed views so_far.done ++ records_listed views batch) (records_listed views batch ++ all_listed views so_far.done) new
      (swap (all_listed views so_far.done) (records_listed views batch)) (swap (records_listed views batch) (all_listed views so_far.done)) (step (all_listed views so_far.done) (so_far.places placed) older);
}
  where
    split : left ++ batch ∷ so_far.done ≡ whole
    split = sym (append_assoc left (batch ∷ []) so_far.done) ∙ ap (λ (bs : List ListedBatch). bs ++ so_far.done) (sym popped) ∙ so_far.split

    older : NoneIsOlder (all_listed views so_far.done) batch.head.sequence
    older r c =
        let one = of-one views so_far.done r c in
        let number = of-batch-number views one.0 r one.2 in
        let le = last-oldest left so_far.done batch one.0 (rw (← split) at sorted) one.1 in
        omega (arith, number, le)

    swap : (xs ys : List KeptRecord) (r : KeptRecord) → Contains (xs ++ ys) r → Contains (ys ++ xs) r
    swap xs ys r c = elim (Contains-append_cases xs ys r c) as (λ _. Contains (ys ++ xs) r) [
      | inl d ↦ Contains-append_right ys xs r d
      | inr d ↦ Contains-append_left ys xs r d
    ]

-- once no batch is left, the records of all are placed
pub batches-all : (zone_size : ℕ) (views : List HeadsView) (first now : List Place) (left whole : List ListedBatch) → left ≡ [] → BatchesPlaced zone_size views first now left whole → PlacesNewest zone_size [] first → PlacesNewest zone_size (all_listed views whole) now
batches-all zone_size views first now left whole none so_far placed =
    let same : so_far.done ≡ whole = ap (λ (bs : List ListedBatch). bs ++ so_far.done) (sym none) ∙ so_far.split in
    rw (← same) (so_far.places placed)

-- the batches may be listed in any order
pub placed-listed : (zone_size : ℕ) (views : List HeadsView) (listed sorted : List ListedBatch) (table : List Place) → IsPermutation listed sorted → PlacesNewest zone_size (all_listed views sorted) table → PlacesNewest zone_size (all_listed views listed) table
placed-listed zone_size views listed sorted table shuffled placed =
    placed-same zone_size (all_listed views sorted) (all_listed views listed) table (λ r c. in-any-order views sorted listed r (IsPermutation-sym listed sorted shuffled) c) (λ r c. in-any-order views listed sorted r shuffled c) placed

-- ---- the map

-- where the records are those of the logs, each block has the place of its newest one
pub placed-newest : (zone_size n : ℕ) (rs : List Record) (table : List Place) → AreApart rs → AllByRecursion (IsRead zone_size) rs → length table ≡ n → PlacesNewest zone_size (map kept_record rs) table → table ≡ told (place zone_size) n rs
placed-newest zone_size n rs table apart read long placed = ext_get_or places.None table (told (place zone_size) n rs) (long ∙ sym (length-map-range_with_len (λ (b : ℕ). place zone_size (newest b rs)) 0 n)) each
  where
    by : (block : ℕ) (x : Option Record) → IsNewest rs block x → (p : Place) → IsPlaceOf zone_size (map kept_record rs) block p → p ≡ place zone_size x
    by block None is p (inl none) = none.0
    by block None is p (inr found) =
        let r = map-among rs found.0 found.1.among in
        absurd (all-among (λ (other : Record). other.block ≡ block → ⊥) rs r.0 is r.1 (ap (λ (x : KeptRecord). x.block) r.2 ∙ found.1.block_is))
    by block (Some x) is p (inl none) = absurd (none.1 (kept_record x) (among-map rs x is.1.among) is.0)
    by block (Some x) is p (inr found) =
        let r = map-among rs found.0 found.1.among in
        let same : r.0.block ≡ block = ap (λ (k : KeptRecord). k.block) r.2 ∙ found.1.block_is in
        let number : r.0.sequence ≡ found.0.sequence = ap (λ (k : KeptRecord). k.sequence) r.2 in
        let le = found.1.newest (kept_record x) (among-map rs x is.1.among) is.0 in
        let ge = all-among (λ (other : Record). other.block ≡ x.block → other.sequence ≤ x.sequence) rs r.0 is.1.greatest r.1 (same ∙ sym is.0) in
        let one : r.0 ≡ x = same-record rs r.0 x apart r.1 is.1.among (same ∙ sym is.0) (omega (arith, le, ge, number)) in
        found.2 ∙ ap (kept_place zone_size) (sym r.2 ∙ ap kept_record one) ∙ all-among (IsRead zone_size) rs x read is.1.among

    each : (block : ℕ) → block < length table → get_or table block places.None ≡ get_or (told (place zone_size) n rs) block places.None
    each block lt =
        by block (newest block rs) (newest-is block rs) (get_or table block places.None) (placed block lt)
        ∙ sym (get_or-map-range_with_len (λ (b : ℕ). place zone_size (newest b rs)) 0 n block block places.None (omega (arith, lt, long)) (omega arith))
