-- Pages of places as one list: a page more, and a place changed.
use Rattle.std.proofs.Common.{◌≡◌, ◌≢◌, ℕ, zero, suc, ◌-◌, ◌/◌, ◌%◌, ◌<◌, ◌≤◌, Bool, true, false, List, [], ◌∷◌, ◌++◌, map, length, get_or, set, replicate, Option, Some, refl, sym, ap, ◌∙◌, inl, inr, arith}
use Rattle.std.specs.Option.{unwrap_or, option_map, is_some}
use Rattle.std.proofs.lemmas.List.{get_or-append_right, get_or-set_same, get_or-set_other, get_or_append_left, length-append, length-set, length-replicate, get_or-replicate, get_or_past}
use Rattle.std.proofs.lemmas.List.FromFn.{fill_by_all, length-map-range_with_len, get_or-map-range_with_len}
use Rattle.std.proofs.lemmas.Bool.{cases_eq, cases_lt}
use Rattle.logical_map.specs.declared.place.Place.{Place}
use Rattle.logical_map.specs.declared.place.Place.TheVariants as places
use Rattle.std.proofs.lemmas.Bool.{false≢true}
use Rattle.logical_map.specs.Places.{MapGrows, MapView, Reserves}
use Rattle.logical_map.specs.Pages.{HasNoneFrom, place_in, place_of, paged_places, ready}

-- the pages show as many places as there are blocks
pub length-shown : (page : ℕ → Option (List Place)) (n : ℕ) → length (paged_places page n) ≡ n
length-shown page n = length-map-range_with_len (place_in page) 0 n

-- each is the one of its page
pub shown-at : (page : ℕ → Option (List Place)) (n block : ℕ) → block < n → get_or (paged_places page n) block places.None ≡ place_in page block
shown-at page n block h = get_or-map-range_with_len (place_in page) 0 n block block places.None h (omega arith)

-- a place among words
pub word-at : (words : List ℕ) (i : ℕ) → get_or (map place_of words) i places.None ≡ place_of (get_or words i 0)
word-at [] i = refl
word-at (w ∷ words) zero = refl
word-at (w ∷ words) (suc i) = word-at words i

-- where a page is missing there is no place
pub none-at : (page : ℕ → Option (List Place)) (block : ℕ) → page (block / 256) ≡ Option.None → place_in page block ≡ places.None
none-at page block e = ap (λ (p : Option (List Place)). unwrap_or (option_map (λ q. get_or q (block % 256) places.None) p) places.None) e

-- a page that is there has the place of a block
pub some-at : (page : ℕ → Option (List Place)) (block : ℕ) (p : List Place) → page (block / 256) ≡ Some p → place_in page block ≡ get_or p (block % 256) places.None
some-at page block p e = ap (λ (q : Option (List Place)). unwrap_or (option_map (λ r. get_or r (block % 256) places.None) q) places.None) e

same-at : (page page' : ℕ → Option (List Place)) (block : ℕ) → page' (block / 256) ≡ page (block / 256) → place_in page' block ≡ place_in page block
same-at page page' block e = ap (λ (q : Option (List Place)). unwrap_or (option_map (λ r. get_or r (block % 256) places.None) q) places.None) e

-- so the list shows what the page has
pub shown-some : (page : ℕ → Option (List Place)) (n block : ℕ) (p : List Place) → block < n → page (block / 256) ≡ Some p → get_or p (block % 256) places.None ≡ get_or (paged_places page n) block places.None
shown-some page n block p h found = sym (shown-at page n block h ∙ some-at page block p found)

-- without pages no block has a place
pub shown-empty : (page : ℕ → Option (List Place)) (n : ℕ) → ((m : ℕ) → page m ≡ Option.None) → paged_places page n ≡ replicate n places.None
shown-empty page n none = sym (fill_by_all (place_in page) (replicate n places.None) n places.None (length-replicate n places.None) (λ k h. get_or-replicate n k places.None places.None h ∙ sym (none-at page k (none (k / 256)))))

-- a page that is made has no places, as none had before
pub place-reserve : (page page' : ℕ → Option (List Place)) (number k : ℕ) → page number ≡ Option.None → page' number ≡ Some (replicate 256 places.None) → ((m : ℕ) → m ≢ number → page' m ≡ page m) → place_in page' k ≡ place_in page k
place-reserve page page' number k none fresh others = elim (cases_eq (k / 256) number) as (λ _. place_in page' k ≡ place_in page k) [
  | inl e ↦ some-at page' k (replicate 256 places.None) (ap page' e ∙ fresh) ∙ get_or-replicate 256 (k % 256) places.None places.None (omega arith) ∙ sym (none-at page k (ap page e ∙ none))
  | inr n ↦ same-at page page' k (others (k / 256) n)
]

-- so all places are the same
pub shown-reserve : (page page' : ℕ → Option (List Place)) (n number : ℕ) → page number ≡ Option.None → page' number ≡ Some (replicate 256 places.None) → ((m : ℕ) → m ≢ number → page' m ≡ page m) → paged_places page' n ≡ paged_places page n
shown-reserve page page' n number none fresh others =
    sym (fill_by_all (place_in page') (paged_places page n) n places.None (length-shown page n) (λ k h. shown-at page n k h ∙ sym (place-reserve page page' number k none fresh others)))

-- a place changed
pub place-set : (page page' : ℕ → Option (List Place)) (block k : ℕ) (p : List Place) (place : Place) → k ≢ block → page (block / 256) ≡ Some p → page' (block / 256) ≡ Some (set p (block % 256) place) → ((m : ℕ) → m ≢ block / 256 → page' m ≡ page m)
    → place_in page' k ≡ place_in page k
place-set page page' block k p place differs old new others = elim (cases_eq (k / 256) (block / 256)) as (λ _. place_in page' k ≡ place_in page k) [
  | inl e ↦ some-at page' k (set p (block % 256) place) (ap page' e ∙ new) ∙ get_or-set_other p (block % 256) (k % 256) place places.None (λ r. differs (omega (arith, e, r))) ∙ sym (some-at page k p (ap page e ∙ old))
  | inr apart ↦ same-at page page' k (others (k / 256) apart)
]

-- a place that is set in its page is set in the list
pub shown-set : (page page' : ℕ → Option (List Place)) (n block : ℕ) (p : List Place) (place : Place) → block < n → length p ≡ 256 → page (block / 256) ≡ Some p → page' (block / 256) ≡ Some (set p (block % 256) place) → ((m : ℕ) → m ≢ block / 256 → page' m ≡ page m)
    → paged_places page' n ≡ set (paged_places page n) block place
shown-set page page' n block p place h long old new others =
    sym (fill_by_all (place_in page') (set (paged_places page n) block place) n places.None (length-set (paged_places page n) block place ∙ length-shown page n) each)
  where
    each : (k : ℕ) → k < n → get_or (set (paged_places page n) block place) k places.None ≡ place_in page' k
    each k below = elim (cases_eq k block) as (λ _. get_or (set (paged_places page n) block place) k places.None ≡ place_in page' k) [
      | inl e ↦ ap (λ (j : ℕ). get_or (set (paged_places page n) block place) j places.None) e ∙ get_or-set_same (paged_places page n) block place places.None (omega (arith, length-shown page n)) ∙ sym (get_or-set_same p (block % 256) place places.None (omega arith)) ∙ sym (some-at page' block (set p (block % 256) place) new) ∙ ap (place_in page') (sym e)
      | inr differs ↦ get_or-set_other (paged_places page n) block k place places.None differs ∙ shown-at page n k below ∙ sym (place-set page page' block k p place differs old new others)
    ]

-- a block is ready where its page is there
pub ready-at : (page : ℕ → Option (List Place)) (n block : ℕ) → block < n → get_or (ready page n) block false ≡ is_some (page (block / 256))
ready-at page n block h = get_or-map-range_with_len (λ b. is_some (page (b / 256))) 0 n block block false h (omega arith)

-- a block that has a place is ready
pub placed-ready : (page : ℕ → Option (List Place)) (n block : ℕ) → block < n → place_in page block ≢ places.None → get_or (ready page n) block false ≡ true
placed-ready page n block h placed = ready-at page n block h ∙ there (page (block / 256)) refl
  where
    there : (p : Option (List Place)) → page (block / 256) ≡ p → is_some (page (block / 256)) ≡ true
    there Option.None e = absurd (placed (none-at page block e))
    there (Some q) e = ap is_some e

-- a block that has a place is ready
pub shown-ready : (page : ℕ → Option (List Place)) (n block : ℕ) → get_or (paged_places page n) block places.None ≢ places.None → get_or (ready page n) block false ≡ true
shown-ready page n block placed = elim (cases_lt block n) as (λ _. get_or (ready page n) block false ≡ true) [
  | inl below ↦ placed-ready page n block below (λ none. placed (shown-at page n block below ∙ none))
  | inr past ↦ absurd (placed (get_or_past (paged_places page n) block places.None (omega (arith, past, length-shown page n))))
]

-- no block past the end is ready
ready-past : (page : ℕ → Option (List Place)) (n block : ℕ) → n ≤ block → get_or (ready page n) block false ≡ false
ready-past page n block h = get_or_past (ready page n) block false (omega (arith, length-map-range_with_len (λ b. is_some (page (b / 256))) 0 n))

-- the view of a map
abbrev pub view_with : (ℕ → Option (List Place)) → ℕ → ℕ → ℕ → MapView
view_with page n zones size = record { places = paged_places page n; ready = ready page n; zones = zones; zone_size = size }

-- nothing has to be made where the page is there
pub reserves_there : (page : ℕ → Option (List Place)) (n zones size block : ℕ) → block < n → is_some (page (block / 256)) ≡ true → Reserves (view_with page n zones size) block (view_with page n zones size)
reserves_there page n zones size block h there = record { places = refl; here = ready-at page n block h ∙ there; kept = λ other p. p; zones = refl; zone_size = refl }

-- and else the page is made
pub reserves_fresh : (page page' : ℕ → Option (List Place)) (n zones size block : ℕ) → block < n → page (block / 256) ≡ Option.None → page' (block / 256) ≡ Some (replicate 256 places.None) → ((m : ℕ) → m ≢ block / 256 → page' m ≡ page m)
    → Reserves (view_with page n zones size) block (view_with page' n zones size)
reserves_fresh page page' n zones size block h none fresh others = record {
  places = shown-reserve page page' n (block / 256) none fresh others;
  here = ready-at page' n block h ∙ ap is_some fresh;
  kept = λ other p. elim (cases_lt other n) as (λ _. get_or (ready page' n) other false ≡ true) [
    | inl below ↦ ready-at page' n other below ∙ elim (cases_eq (other / 256) (block / 256)) as (λ _. is_some (page' (other / 256)) ≡ true) [
      | inl e ↦ ap (λ (k : ℕ). is_some (page' k)) e ∙ ap is_some fresh
      | inr apart ↦ ap is_some (others (other / 256) apart) ∙ sym (ready-at page n other below) ∙ p
    ]
    | inr past ↦ absurd (false≢true (sym (ready-past page n other past) ∙ p))
  ];
  zones = refl;
  zone_size = refl;
}

abbrev made : List Place → List Bool → ℕ → ℕ → MapView
made a b zones size = record { places = a; ready = b; zones = zones; zone_size = size }

-- one place is set, and the same blocks are ready
pub sets : (page page' : ℕ → Option (List Place)) (n zones size block : ℕ) (p : List Place) (place : Place) → block < n → length p ≡ 256 → page (block / 256) ≡ Some p → page' (block / 256) ≡ Some (set p (block % 256) place) → ((m : ℕ) → m ≢ block / 256 → page' m ≡ page m)
    → made (paged_places page' n) (ready page' n) zones size ≡ made (set (paged_places page n) block place) (ready page n) zones size
sets page page' n zones size block p place h long old new others = both (paged_places page' n) (set (paged_places page n) block place) (ready page' n) (ready page n) (shown-set page page' n block p place h long old new others) same
  where
    there : (k : ℕ) → is_some (page k) ≡ is_some (page' k)
    there k = elim (cases_eq k (block / 256)) as (λ _. is_some (page k) ≡ is_some (page' k)) [ inl e ↦ ap (λ (j : ℕ). is_some (page j)) e ∙ ap is_some old ∙ sym (ap is_some new) ∙ sym (ap (λ (j : ℕ). is_some (page' j)) e) | inr apart ↦ ap is_some (sym (others k apart)) ]

    same : ready page' n ≡ ready page n
    same = sym (fill_by_all (λ b. is_some (page' (b / 256))) (ready page n) n false (length-map-range_with_len (λ b. is_some (page (b / 256))) 0 n) (λ k below. ready-at page n k below ∙ there (k / 256)))

    both : (a a' : List Place) (b b' : List Bool) → a ≡ a' → b ≡ b' → made a b zones size ≡ made a' b' zones size
    both a a' b b' e f = rw (e, f) refl

-- what is no page is none
pub missing-from : (o : Option (List Place)) → false ≡ is_some o → o ≡ Option.None
missing-from Option.None e = refl
missing-from (Some p) e = absurd (false≢true e)

-- ---- no places past the end

-- no page past the end has a place, also once one is made
pub none_from-reserve : (page page' : ℕ → Option (List Place)) (n number : ℕ) → HasNoneFrom page n → page number ≡ Option.None → page' number ≡ Some (replicate 256 places.None) → ((m : ℕ) → m ≢ number → page' m ≡ page m) → HasNoneFrom page' n
none_from-reserve page page' n number past none fresh others = λ k above. place-reserve page page' number k none fresh others ∙ past k above

-- or a place is set
pub none_from-set : (page page' : ℕ → Option (List Place)) (n block : ℕ) (p : List Place) (place : Place) → HasNoneFrom page n → block < n → page (block / 256) ≡ Some p → page' (block / 256) ≡ Some (set p (block % 256) place) → ((m : ℕ) → m ≢ block / 256 → page' m ≡ page m)
    → HasNoneFrom page' n
none_from-set page page' n block p place past below old new others = λ k above. place-set page page' block k p place (λ same. omega arith) old new others ∙ past k above

-- more blocks are shown without a place
pub shown-grow : (page : ℕ → Option (List Place)) (n count : ℕ) → HasNoneFrom page n → n ≤ count → paged_places page count ≡ paged_places page n ++ replicate (count - n) places.None
shown-grow page n count past more = sym (fill_by_all (place_in page) (paged_places page n ++ replicate (count - n) places.None) count places.None long each)
  where
    long : length (paged_places page n ++ replicate (count - n) places.None) ≡ count
    long = omega (arith, length-append (paged_places page n) (replicate (count - n) places.None), length-shown page n, length-replicate (count - n) places.None)

    each : (k : ℕ) → k < count → get_or (paged_places page n ++ replicate (count - n) places.None) k places.None ≡ place_in page k
    each k below = elim (cases_lt k n) as (λ _. get_or (paged_places page n ++ replicate (count - n) places.None) k places.None ≡ place_in page k) [
      | inl old ↦ get_or_append_left (paged_places page n) (replicate (count - n) places.None) places.None k (omega (arith, length-shown page n)) ∙ shown-at page n k old
      | inr new ↦ get_or-append_right (paged_places page n) (replicate (count - n) places.None) n k places.None (length-shown page n) new ∙ get_or-replicate (count - n) (k - n) places.None places.None (omega arith) ∙ sym (past k new)
    ]

-- the map grows by blocks that have no place
pub grows : (page : ℕ → Option (List Place)) (n count zones size : ℕ) → HasNoneFrom page n → n ≤ count → MapGrows (view_with page n zones size) count (view_with page count zones size)
grows page n count zones size past more = record {
  places = shown-grow page n count past more ∙ ap (λ (k : ℕ). paged_places page n ++ replicate (count - k) places.None) (sym (length-shown page n));
  kept = λ block p. elim (cases_lt block n) as (λ _. get_or (ready page count) block false ≡ true) [
    | inl below ↦ ready-at page count block (omega arith) ∙ sym (ready-at page n block below) ∙ p
    | inr above ↦ absurd (false≢true (sym (ready-past page n block above) ∙ p))
  ];
  zones = refl;
  zone_size = refl;
}
