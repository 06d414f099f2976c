-- The blocks that are in a zone: what its list has, and the first of them.
use Rattle.std.proofs.Common.{◌≡◌, ◌≢◌, ℕ, zero, suc, ◌+◌, ◌-◌, ◌/◌, ◌%◌, ◌<◌, ◌≤◌, Bool, true, false, cond, List, [], ◌∷◌, length, drop, get_or, set, replicate, Option, Some, refl, sym, ap, subst, ◌∙◌, inl, inr, arith}
use Rattle.std.specs.Prelude.{slice_get}
use Rattle.std.specs.List.{Contains, count_by, filter}
use Rattle.std.specs.List.Sorted.{IsNonDecreasing}
use Rattle.std.specs.Option.{option_map}
use Rattle.std.proofs.lemmas.Bool.{cases_eq, cases_lt, eqb-true, false≢true}
use Rattle.std.proofs.lemmas.List.{get_or-set_same, get_or-set_other, get_or_past, get_or_default, get_or-drop, length-drop}
use Rattle.std.proofs.lemmas.List.Elements.{Contains-append_right}
use Rattle.std.proofs.lemmas.List.Sums.{get_or-le-sum_by}
use Rattle.logical_map.specs.declared.place.Place.{Place}
use Rattle.logical_map.specs.declared.place.Place.TheVariants as places
use Rattle.logical_map.specs.Lists.{AreListed, FindsBlock, NotesMove, FindsThere, IsFirstBlock, IsFirstFrom, IsFirstThere, KeepsThere, ListView, NoBlockLies, NoneLies, Notes, Shortens, fresh_list, listed, missing}
use Rattle.logical_map.specs.Live.{blocks_in, is_zone, lies_in, zone_of}
use Rattle.logical_map.specs.Pages.{HasNoneFrom, place_in, paged_places}
use Rattle.logical_map.proofs.Showing.{length-shown, place-reserve, place-set, shown-at, some-at}

-- ---- which blocks are in a zone

cond-zero : (b : Bool) → ◌≡◌ {A = ℕ} (cond b 1 0) 0 → b ≡ false
cond-zero true e = absurd (omega (arith, e))
cond-zero false e = refl

-- past the end there is no place, in the list and in the pages
pub all-at : (page : ℕ → Option (List Place)) (n k : ℕ) → HasNoneFrom page n → get_or (paged_places page n) k places.None ≡ place_in page k
all-at page n k past = elim (cases_lt k n) as (λ _. get_or (paged_places page n) k places.None ≡ place_in page k) [
  | inl below ↦ shown-at page n k below
  | inr above ↦ get_or_past (paged_places page n) k places.None (omega (arith, length-shown page n)) ∙ sym (past k above)
]

-- a block that is in a zone is not past the end
below-end : (page : ℕ → Option (List Place)) (n size zone block : ℕ) → HasNoneFrom page n → lies_in size zone (place_in page block) ≡ true → block < n
below-end page n size zone block past lies = elim (cases_lt block n) as (λ _. block < n) [
  | inl below ↦ below
  | inr above ↦ absurd (false≢true (sym (ap (lies_in size zone) (past block above)) ∙ lies))
]

-- no block is in a zone whose count is 0
pub none-lies : (page : ℕ → Option (List Place)) (n size zone : ℕ) → HasNoneFrom page n → 0 ≡ count_by (lies_in size zone) (paged_places page n) → (block : ℕ) → lies_in size zone (place_in page block) ≡ false
none-lies page n size zone past none block =
    sym (ap (lies_in size zone) (all-at page n block past)) ∙ cond-zero (lies_in size zone (get_or (paged_places page n) block places.None)) (elim (cases_lt block n) as (λ _. ◌≡◌ {A = ℕ} (cond (lies_in size zone (get_or (paged_places page n) block places.None)) 1 0) 0) [
      | inl below ↦ omega (arith, none, get_or-le-sum_by (λ p. cond (lies_in size zone p) 1 0) (paged_places page n) block places.None (omega (arith, length-shown page n)))
      | inr above ↦ ap (λ p. cond (lies_in size zone p) 1 0) (get_or_past (paged_places page n) block places.None (omega (arith, length-shown page n)))
    ])

-- ---- the first of the blocks that are in a zone

head-in : (size zone first m : ℕ) (xs : List Place) → m < length xs → ((k : ℕ) → k < m → lies_in size zone (get_or xs k places.None) ≡ false) → lies_in size zone (get_or xs m places.None) ≡ true → slice_get (blocks_in size zone first xs) 0 ≡ Some (first + m)
head-in size zone first m [] h none here = absurd (omega (arith, h))
head-in size zone first zero (p ∷ xs) h none here = rw here (ap Some (omega arith))
head-in size zone first (suc m) (p ∷ xs) h none here = rw (none 0 (omega arith)) (head-in size zone (first + 1) m xs (omega (arith, h)) (λ k below. none (suc k) (omega (arith, below))) here ∙ ap Some (omega arith))

none-in : (size zone first : ℕ) (xs : List Place) → ((k : ℕ) → k < length xs → lies_in size zone (get_or xs k places.None) ≡ false) → blocks_in size zone first xs ≡ []
none-in size zone first [] none = refl
none-in size zone first (p ∷ xs) none = rw (none 0 (omega arith)) (none-in size zone (first + 1) xs (λ k below. none (suc k) (omega (arith, below))))

-- the places from a block on
rest-at : (page : ℕ → Option (List Place)) (n from k : ℕ) → HasNoneFrom page n → get_or (drop from (paged_places page n)) k places.None ≡ place_in page (from + k)
rest-at page n from k past = get_or-drop from (paged_places page n) k places.None ∙ all-at page n (from + k) past

first-at : (page : ℕ → Option (List Place)) (n size zone from m : ℕ) → HasNoneFrom page n → IsFirstBlock page size zone from (from + m) → slice_get (blocks_in size zone from (drop from (paged_places page n))) 0 ≡ Some (from + m)
first-at page n size zone from m past first =
    head-in size zone from m (drop from (paged_places page n)) (omega (arith, below-end page n size zone (from + m) past first.lies, length-drop from (paged_places page n), length-shown page n)) (λ k below. ap (lies_in size zone) (rest-at page n from k past) ∙ first.none (from + k) (omega arith) (omega (arith, below)))
    (ap (lies_in size zone) (rest-at page n from m past) ∙ first.lies)

-- the first block from one on that is in a zone is the first of the list
pub first-is : (page : ℕ → Option (List Place)) (n size zone from block : ℕ) → HasNoneFrom page n → IsFirstBlock page size zone from block → slice_get (blocks_in size zone from (drop from (paged_places page n))) 0 ≡ Some block
first-is page n size zone from block past first =
    let same : from + (block - from) ≡ block = omega (arith, first.after) in
    first-at page n size zone from (block - from) past (subst (IsFirstBlock page size zone from) (sym same) first) ∙ ap Some same

-- if none is there, the list is empty
pub none-is : (page : ℕ → Option (List Place)) (n size zone from : ℕ) → HasNoneFrom page n → NoBlockLies page size zone from n → slice_get (blocks_in size zone from (drop from (paged_places page n))) 0 ≡ Option.None
none-is page n size zone from past none = rw (none-in size zone from (drop from (paged_places page n)) (λ k below. ap (lies_in size zone) (rest-at page n from k past) ∙ none (from + k) (omega arith) (omega (arith, below, length-drop from (paged_places page n), length-shown page n)))) refl

-- what a walk over the map finds
pub walked : (page : ℕ → Option (List Place)) (n size zone from : ℕ) (found : Option ℕ) → HasNoneFrom page n → FindsBlock page size zone from n found → found ≡ slice_get (blocks_in size zone from (drop from (paged_places page n))) 0
walked page n size zone from Option.None past none = sym (none-is page n size zone from past none)
walked page n size zone from (Some block) past first = sym (first-is page n size zone from block past first)

-- ---- what a list finds

module _ (page : ℕ → Option (List Place)) (size zone from : ℕ) (blocks : List ℕ) (has : (block : ℕ) → lies_in size zone (place_in page block) ≡ true → Contains blocks block) (first : ℕ) (is_first : IsFirstFrom blocks from first) where
  -- a block that is listed neither before the first position nor among those passed over is not in the zone
  passed : (end block : ℕ) → NoneLies page size zone blocks first end → from ≤ block → ((k : ℕ) → end ≤ k → k < length blocks → get_or blocks k 0 ≡ block → ⊥) → (b : Bool) → lies_in size zone (place_in page block) ≡ b → b ≡ false
  passed end block none above past false e = refl
  passed end block none above past true e =
      let found = has block e in
      let same : get_or blocks found.0 0 ≡ block = get_or_default blocks found.0 0 block found.1 ∙ found.2 in
      absurd (elim (cases_lt found.0 first) as (λ _. ⊥) [
        | inl before ↦ omega (arith, is_first.below found.0 before, same, above)
        | inr after ↦ elim (cases_lt found.0 end) as (λ _. ⊥) [
          | inl before ↦ false≢true (sym (none found.0 after before) ∙ ap (λ b. lies_in size zone (place_in page b)) same ∙ e)
          | inr beyond ↦ past found.0 beyond found.1 same
        ]
      ])

  -- if no listed block from a bound on is in the zone, no block from it on is
  pub none-listed : (n : ℕ) → NoneLies page size zone blocks first (length blocks) → NoBlockLies page size zone from n
  none-listed n none = λ block above below. passed (length blocks) block none above (λ k end within same. omega (arith, end, within)) _ refl

  -- in a sorted list, the first block in the zone is the first of all in the zone
  pub first-listed : (position : ℕ) → IsNonDecreasing blocks → IsFirstThere page size zone blocks first position → IsFirstBlock page size zone from (get_or blocks position 0)
  first-listed position ascends there = record {
    after = is_first.above position there.after there.within;
    lies = there.lies;
    none = λ block above below. passed position block there.none above (λ k end within same. omega (arith, below, same, ascends position k 0 end within)) _ refl;
  }

-- what the list of a zone finds, once it is sorted
pub listed-finds : (page : ℕ → Option (List Place)) (n size zone from : ℕ) (lists : List ListView) (list : ListView) (first : ℕ) (found : Option ℕ) → HasNoneFrom page n → (listed lists zone).whole ≡ true → AreListed page size lists → KeepsThere page size zone (listed lists zone).blocks list.blocks → IsNonDecreasing list.blocks
    → IsFirstFrom list.blocks from first → FindsThere page size zone list.blocks first found → option_map (λ position. get_or list.blocks position 0) found ≡ slice_get (blocks_in size zone from (drop from (paged_places page n))) 0
listed-finds page n size zone from lists list first Option.None past whole are kept ascends is_first none =
    sym (none-is page n size zone from past (none-listed page size zone from list.blocks (λ block lies. kept block lies (are zone block whole lies)) first is_first n none))
listed-finds page n size zone from lists list first (Some position) past whole are kept ascends is_first there =
    sym (first-is page n size zone from (get_or list.blocks position 0) past (first-listed page size zone from list.blocks (λ block lies. kept block lies (are zone block whole lies)) first is_first position ascends there))

-- ---- lists that change

-- a list that is whole is there
pub whole-there : (lists : List ListView) (i : ℕ) → (listed lists i).whole ≡ true → i < length lists
whole-there lists i whole = elim (cases_lt i (length lists)) as (λ _. i < length lists) [
  | inl below ↦ below
  | inr past ↦ absurd (false≢true (sym (ap (λ (l : ListView). l.whole) (get_or_past lists i missing past)) ∙ whole))
]

-- the same blocks are in the same zones
listed-same : (page page' : ℕ → Option (List Place)) (size : ℕ) (lists : List ListView) → ((k : ℕ) → place_in page' k ≡ place_in page k) → AreListed page size lists → AreListed page' size lists
listed-same page page' size lists same are = λ zone block whole lies. are zone block whole (sym (ap (lies_in size zone) (same block)) ∙ lies)

-- a page is made
pub listed-reserve : (page page' : ℕ → Option (List Place)) (size number : ℕ) (lists : List ListView) → page number ≡ Option.None → page' number ≡ Some (replicate 256 places.None) → ((m : ℕ) → m ≢ number → page' m ≡ page m) → AreListed page size lists → AreListed page' size lists
listed-reserve page page' size number lists none made others are = listed-same page page' size lists (λ k. place-reserve page page' number k none made others) are

-- a block is moved
pub listed-set : (page page' : ℕ → Option (List Place)) (n size block : ℕ) (p : List Place) (place : Place) (lists lists' : List ListView) → block < n → length p ≡ 256 → page (block / 256) ≡ Some p → page' (block / 256) ≡ Some (set p (block % 256) place) → ((m : ℕ) → m ≢ block / 256 → page' m ≡ page m)
    → AreListed page size lists → NotesMove lists (zone_of size (get_or (paged_places page n) block places.None)) (zone_of size place) block lists' → AreListed page' size lists'
listed-set page page' n size block p place lists lists' below long old new others are follows = each
  where
    was : Option ℕ
    was = zone_of size (get_or (paged_places page n) block places.None)

    now : place_in page' block ≡ place
    now = some-at page' block (set p (block % 256) place) new ∙ get_or-set_same p (block % 256) place places.None (omega (arith, long))

    moved : (zone : ℕ) → (listed lists' zone).whole ≡ true → is_zone (zone_of size place) zone ≡ true → (b : Bool) → is_zone was zone ≡ b → Contains (listed lists' zone).blocks block
    moved zone whole here true e = follows.kept zone block (are zone block (follows.whole zone whole) (sym (ap (lies_in size zone) (shown-at page n block below)) ∙ e))
    moved zone whole here false e = follows.here zone here e whole

    each : AreListed page' size lists'
    each zone k whole lies = elim (cases_eq k block) as (λ _. Contains (listed lists' zone).blocks k) [
      | inl same ↦ subst (Contains (listed lists' zone).blocks) (sym same) (moved zone whole (sym (ap (lies_in size zone) (ap (place_in page') same ∙ now)) ∙ lies) _ refl)
      | inr differs ↦ follows.kept zone k (are zone k (follows.whole zone whole) (sym (ap (lies_in size zone) (place-set page page' block k p place differs old new others)) ∙ lies))
    ]

-- one list changes
pub listed-at : (lists : List ListView) (i zone : ℕ) (list : ListView) → i < length lists → zone ≡ i → listed (set lists i list) zone ≡ list
listed-at lists i zone list h e = rw e (get_or-set_same lists i list missing h)

-- the lists of other zones are the same
listed-other : (lists : List ListView) (i zone : ℕ) (list : ListView) → zone ≢ i → listed (set lists i list) zone ≡ listed lists zone
listed-other lists i zone list n = get_or-set_other lists i zone list missing n

-- a list that has what the old one had, of the same wholeness
pub listed-sort : (page : ℕ → Option (List Place)) (size i : ℕ) (lists : List ListView) (list : ListView) → i < length lists → list.whole ≡ (listed lists i).whole → KeepsThere page size i (listed lists i).blocks list.blocks → AreListed page size lists → AreListed page size (set lists i list)
listed-sort page size i lists list h whole kept are = λ zone block is_whole lies. elim (cases_eq zone i) as (λ _. Contains (listed (set lists i list) zone).blocks block) [
  | inl e ↦ subst (λ (l : ListView). Contains l.blocks block) (sym (listed-at lists i zone list h e)) (let here = sym (ap (λ z. lies_in size z (place_in page block)) e) ∙ lies in kept block here (are i block (sym whole ∙ sym (ap (λ (l : ListView). l.whole) (listed-at lists i zone list h e)) ∙ is_whole) here))
  | inr n ↦ subst (λ (l : ListView). Contains l.blocks block) (sym (listed-other lists i zone list n)) (are zone block (sym (ap (λ (l : ListView). l.whole) (listed-other lists i zone list n)) ∙ is_whole) lies)
]

-- lists that say the same
pub listed-made : (page : ℕ → Option (List Place)) (size : ℕ) (lists lists' : List ListView) → ((zone : ℕ) → listed lists' zone ≡ listed lists zone) → AreListed page size lists → AreListed page size lists'
listed-made page size lists lists' same are = λ zone block whole lies. subst (λ (l : ListView). Contains l.blocks block) (sym (same zone)) (are zone block (sym (ap (λ (l : ListView). l.whole) (same zone)) ∙ whole) lies)

-- a zone in which no block is begins its list anew
listed-fresh : (page : ℕ → Option (List Place)) (size i : ℕ) (lists : List ListView) → i < length lists → ((block : ℕ) → lies_in size i (place_in page block) ≡ false) → AreListed page size lists → AreListed page size (set lists i fresh_list)
listed-fresh page size i lists h none are = λ zone block is_whole lies. elim (cases_eq zone i) as (λ _. Contains (listed (set lists i fresh_list) zone).blocks block) [
  | inl e ↦ absurd (false≢true (sym (none block) ∙ sym (ap (λ z. lies_in size z (place_in page block)) e) ∙ lies))
  | inr n ↦ subst (λ (l : ListView). Contains l.blocks block) (sym (listed-other lists i zone fresh_list n)) (are zone block (sym (ap (λ (l : ListView). l.whole) (listed-other lists i zone fresh_list n)) ∙ is_whole) lies)
]

-- room is made in a list, which begins anew if no block is in its zone
pub listed-room : (page : ℕ → Option (List Place)) (size i : ℕ) (lists : List ListView) (empty : Bool) (list : ListView) → i < length lists → (empty ≡ true → (block : ℕ) → lies_in size i (place_in page block) ≡ false) → list ≡ cond empty fresh_list (listed lists i) → AreListed page size lists → AreListed page size (set lists i list)
listed-room page size i lists true list h none e are = rw e (listed-fresh page size i lists h (none refl) are)
listed-room page size i lists false list h none e are = rw e (listed-sort page size i lists (listed lists i) h refl (λ block lies had. had) are)

-- lists from which such blocks were dropped
pub listed-shorter : (page : ℕ → Option (List Place)) (size : ℕ) (lists lists' : List ListView) → Shortens page size lists lists' → AreListed page size lists → AreListed page size lists'
listed-shorter page size lists lists' shorter are = λ zone block whole lies. shorter.kept zone block lies (are zone block (shorter.whole zone whole) lies)

-- one list was made shorter, by blocks that are not in its zone
pub shorter-at : (page : ℕ → Option (List Place)) (size i : ℕ) (lists : List ListView) (list : ListView) → i < length lists → list.whole ≡ (listed lists i).whole → KeepsThere page size i (listed lists i).blocks list.blocks → Shortens page size lists (set lists i list)
shorter-at page size i lists list h whole kept = record {
  whole = λ zone w. elim (cases_eq zone i) as (λ _. (listed lists zone).whole ≡ true) [
    | inl e ↦ ap (λ k. (listed lists k).whole) e ∙ sym whole ∙ sym (ap (λ (l : ListView). l.whole) (listed-at lists i zone list h e)) ∙ w
    | inr n ↦ sym (ap (λ (l : ListView). l.whole) (listed-other lists i zone list n)) ∙ w
  ];
  kept = λ zone block lies had. elim (cases_eq zone i) as (λ _. Contains (listed (set lists i list) zone).blocks block) [
    | inl e ↦ subst (λ (l : ListView). Contains l.blocks block) (sym (listed-at lists i zone list h e)) (kept block (subst (λ k. lies_in size k (place_in page block) ≡ true) e lies) (subst (λ k. Contains (listed lists k).blocks block) e had))
    | inr n ↦ subst (λ (l : ListView). Contains l.blocks block) (sym (listed-other lists i zone list n)) had
  ];
}

-- what passes a test stays in a list
filter-keeps : (p : ℕ → Bool) (xs : List ℕ) (x k : ℕ) → k < length xs → get_or xs k x ≡ x → p x ≡ true → Contains (filter p xs) x
filter-keeps p [] x k h same passes = absurd (omega (arith, h))
filter-keeps p (y ∷ xs) x zero h same passes = rw (ap p same ∙ passes) (0, omega arith, same)
filter-keeps p (y ∷ xs) x (suc k) h same passes = either (filter-keeps p xs x k (omega (arith, h)) same passes) (p y)
  where
    either : Contains (filter p xs) x → (b : Bool) → Contains (cond b (y ∷ filter p xs) (filter p xs)) x
    either rest true = Contains-append_right (y ∷ []) (filter p xs) x rest
    either rest false = rest

-- what passes a test stays among what was filtered by it
pub Contains-filter : (p : ℕ → Bool) (xs : List ℕ) (x : ℕ) → p x ≡ true → Contains xs x → Contains (filter p xs) x
Contains-filter p xs x passes had = filter-keeps p xs x had.0 had.1 had.2 passes

-- ---- what a note changes

-- the list of a zone has a block that was moved there
pub follows-noted : (lists : List ListView) (was : Option ℕ) (zone block : ℕ) (list : ListView) → zone < length lists → Notes (listed lists zone) block list → NotesMove lists was (Some zone) block (set lists zone list)
follows-noted lists was zone block list h notes = record {
  whole = λ z w. elim (cases_eq z zone) as (λ _. (listed lists z).whole ≡ true) [
    | inl e ↦ ap (λ k. (listed lists k).whole) e ∙ notes.whole (sym (ap (λ (l : ListView). l.whole) (listed-at lists zone z list h e)) ∙ w)
    | inr n ↦ sym (ap (λ (l : ListView). l.whole) (listed-other lists zone z list n)) ∙ w
  ];
  here = λ z there apart w.
      let e : z ≡ zone = sym (eqb-true zone z there) in
      subst (λ (l : ListView). Contains l.blocks block) (sym (listed-at lists zone z list h e)) (notes.here (sym (ap (λ (l : ListView). l.whole) (listed-at lists zone z list h e)) ∙ w));
  kept = λ z other had. elim (cases_eq z zone) as (λ _. Contains (listed (set lists zone list) z).blocks other) [
    | inl e ↦ subst (λ (l : ListView). Contains l.blocks other) (sym (listed-at lists zone z list h e)) (notes.kept other (subst (λ k. Contains (listed lists k).blocks other) e had))
    | inr n ↦ subst (λ (l : ListView). Contains l.blocks other) (sym (listed-other lists zone z list n)) had
  ];
}
