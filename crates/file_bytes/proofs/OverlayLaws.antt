-- A file with pages that are kept of it: what is shown of it, and what a write in one page changes.
use Rattle.std.proofs.Common.{◌≡◌, ◌⊎◌, ℕ, ◌+◌, ◌-◌, ◌*◌, ◌/◌, ◌%◌, ◌<◌, ◌≤◌, ◌++◌, [], ◌∷◌, List, Bool, true, false, length, slice_index, refl, sym, ap, ◌∙◌, inl, inr, arith, div-add-mod', mod-lt, Option, Some, None}
use Rattle.std.proofs.Math.ListN.{take, drop}
use Rattle.std.specs.Prelude.{◌||◌, nat_eq, option_map, position, cond}
use Rattle.indexmap.specs.IndexSet.{insert_key}
use Rattle.std.specs.List.{list_any, position_from, splice}
use Rattle.std.proofs.lemmas.Bool.{cases_lt, eqb-true}
use Rattle.std.proofs.lemmas.List.{get_or_append_left, get_or-append_right, get_or_past, get_or-drop, get_or-take, length-append, length-drop, length-take-le}
use Rattle.std.proofs.lemmas.List.FromFn.{get_or-map-range_with_len, length-map-range_with_len}
use Rattle.std.proofs.lemmas.List.Quantifiers.{position-Some}
use Rattle.std.proofs.lemmas.Iterator.Adapters.{position_from-zero}
use Rattle.std.proofs.lemmas.Grind.{same_number_lists}
use Rattle.sqlite_disk.specs.Disk.{Holds}
use Rattle.file_bytes.specs.Changes.{SameBeside}
use Rattle.file_bytes.specs.Overlay.{IsPage, IsShown, IsWritten, byte_from, place_of, shown}
use Rattle.file_bytes.proofs.SpliceLaws.{length-spliced, spliced-above, spliced-below, spliced-within}

-- ---- the place of a page

-- what is found in a list is found where the list has one more
found-cond : (b : Bool) (a r s : Option ℕ) (i : ℕ) → cond b a r ≡ Some i → (r ≡ Some i → s ≡ Some i) → cond b a s ≡ Some i
found-cond true a r s i found next = found
found-cond false a r s i found next = next found

found-before : (p : ℕ → Bool) (k : ℕ) (xs : List ℕ) (y i : ℕ) → position_from p k xs ≡ Some i → position_from p k (xs ++ y ∷ []) ≡ Some i
found-before p k [] y i found = absurd (cc found)
found-before p k (x ∷ xs) y i found =
    found-cond (p x) (Some k) (position_from p (k + 1) xs) (position_from p (k + 1) (xs ++ y ∷ [])) i found (found-before p (k + 1) xs y i)

-- what is not found in a list is the one that is added, or is still not found
missed-cond : (b : Bool) (k : ℕ) (r s t : Option ℕ) → cond b (Some k) r ≡ None → (r ≡ None → s ≡ t) → cond b (Some k) s ≡ t
missed-cond true k r s t none next = absurd (cc none)
missed-cond false k r s t none next = next none

missed-before : (p : ℕ → Bool) (k : ℕ) (xs : List ℕ) (y : ℕ) → position_from p k xs ≡ None
    → position_from p k (xs ++ y ∷ []) ≡ cond (p y) (Some (k + length xs)) None
missed-before p k [] y none = ap (λ (n : ℕ). cond (p y) (Some n) None) (omega arith)
missed-before p k (x ∷ xs) y none =
    missed-cond (p x) k (position_from p (k + 1) xs) (position_from p (k + 1) (xs ++ y ∷ [])) (cond (p y) (Some (k + length (x ∷ xs))) None) none
    (λ rest. missed-before p (k + 1) xs y rest ∙ ap (λ (n : ℕ). cond (p y) (Some n) None) (omega arith))

position-before : (p : ℕ → Bool) (xs : List ℕ) (y i : ℕ) → position p xs ≡ Some i → position p (xs ++ y ∷ []) ≡ Some i
position-before p xs y i found =
    position_from-zero p (xs ++ y ∷ []) ∙ found-before p 0 xs y i (sym (position_from-zero p xs) ∙ found)

position-missed : (p : ℕ → Bool) (xs : List ℕ) (y : ℕ) → position p xs ≡ None → position p (xs ++ y ∷ []) ≡ cond (p y) (Some (length xs)) None
position-missed p xs y none =
    position_from-zero p (xs ++ y ∷ []) ∙ missed-before p 0 xs y (sym (position_from-zero p xs) ∙ none)
    ∙ ap (λ (n : ℕ). cond (p y) (Some n) None) (omega arith)

any-missed : (p : ℕ → Bool) (k : ℕ) (xs : List ℕ) → position_from p k xs ≡ None → list_any p xs ≡ false
any-missed p k [] none = refl
any-missed p k (x ∷ xs) none = by (p x) none (any-missed p (k + 1) xs)
  where
    by : (b : Bool) → cond b (Some k) (position_from p (k + 1) xs) ≡ None → (position_from p (k + 1) xs ≡ None → list_any p xs ≡ false) → (b || list_any p xs) ≡ false
    by true found next = absurd (cc found)
    by false missed next = next missed

pub is-new : (pages : List ℕ) (number : ℕ) → position (nat_eq number) pages ≡ None → insert_key nat_eq pages number ≡ pages ++ number ∷ []
is-new pages number none = rw (any-missed (nat_eq number) 0 pages (sym (position_from-zero (nat_eq number) pages) ∙ none)) refl

itself : (n : ℕ) → nat_eq n n ≡ true
itself n = grind arith

-- ---- what is shown

module _ (file pages kept : List ℕ) where
  pub length-shown : length (shown file pages kept) ≡ length file
  unfolding shown
  length-shown = length-map-range_with_len (λ at. byte_from file kept at (place_of pages (at / 4096))) 0 (length file)

  pub shown-at : (i : ℕ) → i < length file → slice_index (shown file pages kept) i ≡ byte_from file kept i (place_of pages (i / 4096))
  unfolding shown
  shown-at i low = get_or-map-range_with_len (λ at. byte_from file kept at (place_of pages (at / 4096))) 0 (length file) i i 0 low (omega arith)

-- two overlays show the same if each byte is the same
pub same-shown : (file pages kept others new : List ℕ)
    → ((i : ℕ) → i < length file → byte_from file new i (place_of others (i / 4096)) ≡ byte_from file kept i (place_of pages (i / 4096)))
    → shown file others new ≡ shown file pages kept
same-shown file pages kept others new each =
    same_number_lists (shown file others new) (shown file pages kept)
    (length-shown file others new ∙ sym (length-shown file pages kept))
    (λ i low.
    let within : i < length file = rw (length-shown file others new) at low in
    shown-at file others new i within ∙ each i within ∙ sym (shown-at file pages kept i within))

-- where nothing is kept the file is shown
pub shown-file : (file : List ℕ) → shown file [] [] ≡ file
shown-file file =
    same_number_lists (shown file [] []) file (length-shown file [] [])
    (λ i low. shown-at file [] [] i (rw (length-shown file [] []) at low))

-- a page that is kept is shown as before
module _ (file pages kept page : List ℕ) (number : ℕ) (long : length kept ≡ 4096 * length pages)
    (none : position (nat_eq number) pages ≡ None) (is_page : IsPage file number page) where
  abbrev new : List ℕ
  new = kept ++ page

  new-byte : (i : ℕ) → i < length file → i / 4096 ≡ number → slice_index new (4096 * length pages + i % 4096) ≡ slice_index file i
  new-byte i low at =
      let whole = div-add-mod' i 4096 in
      let place : 4096 * number + i % 4096 ≡ i = omega (arith, whole, at) in
      let few : i % 4096 < 4096 = mod-lt i (omega arith) in
      get_or-append_right kept page (4096 * length pages) (4096 * length pages + i % 4096) 0 long (omega arith)
      ∙ ap (slice_index page) (omega arith)
      ∙ is_page.each (i % 4096) few (omega (arith, place, low))
      ∙ ap (slice_index file) place

  same-byte : (i : ℕ) → i < length file
      → byte_from file new i (place_of (pages ++ number ∷ []) (i / 4096)) ≡ byte_from file kept i (place_of pages (i / 4096))
  same-byte i low = by (position (nat_eq (i / 4096)) pages) refl
    where
      here : (b : Bool) → nat_eq (i / 4096) number ≡ b
          → byte_from file new i (option_map (λ slot. 4096 * slot) (cond b (Some (length pages)) None)) ≡ slice_index file i
      here true same = new-byte i low (eqb-true (i / 4096) number same)
      here false same = refl

      by : (found : Option ℕ) → position (nat_eq (i / 4096)) pages ≡ found
          → byte_from file new i (place_of (pages ++ number ∷ []) (i / 4096)) ≡ byte_from file kept i (option_map (λ slot. 4096 * slot) found)
      by (Some slot) is =
          let there = position-before (nat_eq (i / 4096)) pages number slot is in
          let within = (position-Some (nat_eq (i / 4096)) pages slot 0 is).0 in
          let few : i % 4096 < 4096 = mod-lt i (omega arith) in
          rw there (get_or_append_left kept page 0 (4096 * slot + i % 4096) (omega (arith, within, long, few)))
      by None is = rw (position-missed (nat_eq (i / 4096)) pages number is) (here (nat_eq (i / 4096) number) refl)

  pub shown-kept : shown file (pages ++ number ∷ []) new ≡ shown file pages kept
  shown-kept = same-shown file pages kept (pages ++ number ∷ []) new same-byte

  pub place-kept : place_of (pages ++ number ∷ []) number ≡ Some (length kept)
  place-kept = rw (position-missed (nat_eq number) pages number none, itself number) (ap Some (sym long))

no-slot : (found : Option ℕ) → option_map (λ slot. 4096 * slot) found ≡ None → found ≡ None
no-slot None none = refl
no-slot (Some slot) none = absurd (cc none)

-- what is true once a page that was not kept is added
module _ (file pages kept others new page : List ℕ) (number : ℕ) (long : length kept ≡ 4096 * length pages)
    (missed : place_of pages number ≡ None) (is_page : IsPage file number page)
    (others_are : others ≡ insert_key nat_eq pages number) (new_is : new ≡ kept ++ page) where
  none : position (nat_eq number) pages ≡ None
  none = no-slot (position (nat_eq number) pages) missed

  keys : others ≡ pages ++ number ∷ []
  keys = others_are ∙ is-new pages number none

  pub long-after : length new ≡ 4096 * length others
  long-after =
      let more = length-append kept page in
      let one = length-append pages (number ∷ []) in
      rw (keys, new_is) (omega (arith, more, one, long, is_page.whole))

  pub place-after : place_of others number ≡ Some (length kept)
  place-after = rw keys (place-kept file pages kept page number long none is_page)

  pub shown-after : shown file others new ≡ shown file pages kept
  shown-after = rw (keys, new_is) (shown-kept file pages kept page number long none is_page)

-- ---- bytes within one page

module _ (at size i : ℕ) (one : at % 4096 + size ≤ 4096) (low : i < size) where
  pub same-page : (at + i) / 4096 ≡ at / 4096
  same-page =
      let first = div-add-mod' at 4096 in
      let whole = div-add-mod' (at + i) 4096 in
      let few : (at + i) % 4096 < 4096 = mod-lt (at + i) (omega arith) in
      omega (arith, first, whole, few, one, low)

  pub same-rest : (at + i) % 4096 ≡ at % 4096 + i
  same-rest =
      let first = div-add-mod' at 4096 in
      let whole = div-add-mod' (at + i) 4096 in
      omega (arith, first, whole, same-page)

-- what is shown within one page, which is kept
pub shown-in-page : (file pages kept : List ℕ) (at size place : ℕ) → at % 4096 + size ≤ 4096 → at + size ≤ length file
    → place_of pages (at / 4096) ≡ Some place → (i : ℕ) → i < size
    → slice_index (shown file pages kept) (at + i) ≡ slice_index kept (place + at % 4096 + i)
shown-in-page file pages kept at size place one within is i low =
    shown-at file pages kept (at + i) (omega (arith, within, low))
    ∙ rw (same-page at size i one low, is, same-rest at size i one low) (ap (slice_index kept) (omega arith))

-- the same where it is not kept
pub shown-in-file : (file pages kept : List ℕ) (at size : ℕ) → at % 4096 + size ≤ 4096 → at + size ≤ length file
    → place_of pages (at / 4096) ≡ None → (i : ℕ) → i < size → slice_index (shown file pages kept) (at + i) ≡ slice_index file (at + i)
shown-in-file file pages kept at size one within none i low =
    shown-at file pages kept (at + i) (omega (arith, within, low))
    ∙ rw (same-page at size i one low, none) refl

-- ---- a write within one page

-- the slot of a place
slot-of : (pages : List ℕ) (number place : ℕ) → place_of pages number ≡ Some place → (slot : ℕ) × (position (nat_eq number) pages ≡ Some slot) × (4096 * slot ≡ place)
slot-of pages number place is = by (position (nat_eq number) pages) refl
  where
    by : (found : Option ℕ) → position (nat_eq number) pages ≡ found → (slot : ℕ) × (position (nat_eq number) pages ≡ Some slot) × (4096 * slot ≡ place)
    by None missed = let none : option_map (λ slot. 4096 * slot) None ≡ Some place = rw missed at is in absurd (cc none)
    by (Some slot) found = let some : Some (4096 * slot) ≡ Some place = rw found at is in (slot, found, cc some)

pub place-within : (pages : List ℕ) (number place : ℕ) → place_of pages number ≡ Some place → place + 4096 ≤ 4096 * length pages
place-within pages number place is =
    let slot = slot-of pages number place is in
    let within = (position-Some (nat_eq number) pages slot.0 0 slot.1).0 in
    omega (arith, within, slot.2)

-- the number of the page in a slot
number-in : (pages : List ℕ) (number slot : ℕ) → position (nat_eq number) pages ≡ Some slot → number ≡ slice_index pages slot
number-in pages number slot found = eqb-true number (slice_index pages slot) (position-Some (nat_eq number) pages slot 0 found).1

module _ (file pages kept bytes : List ℕ) (at place : ℕ) (long : length kept ≡ 4096 * length pages)
    (one : at % 4096 + length bytes ≤ 4096) (within : at + length bytes ≤ length file) (is : place_of pages (at / 4096) ≡ Some place) where
  abbrev from : ℕ
  from = place + at % 4096

  abbrev changed : List ℕ
  changed = splice kept from (from + length bytes) bytes

  pub fits-page : from + length bytes ≤ length kept
  fits-page = let room = place-within pages (at / 4096) place is in omega (arith, room, one, long)

  pub long-changed : length changed ≡ 4096 * length pages
  long-changed = length-spliced kept bytes from fits-page ∙ long

  pub holds-written : Holds (shown file pages changed) at bytes
  holds-written = record {
    within = rw (length-shown file pages changed) within;
    each = λ i low.
        shown-in-page file pages changed at (length bytes) place one within is i low
        ∙ spliced-within kept bytes from fits-page i low;
  }

  -- a byte of a page that is beside the range
  beside-place : (i slot : ℕ) → (i < at) ⊎ (at + length bytes ≤ i) → position (nat_eq (i / 4096)) pages ≡ Some slot
      → (4096 * slot + i % 4096 < from) ⊎ (from + length bytes ≤ 4096 * slot + i % 4096)
  beside-place i slot beside found = by (cases_lt slot there.0)
    where
      there : (slot : ℕ) × (position (nat_eq (at / 4096)) pages ≡ Some slot) × (4096 * slot ≡ place)
      there = slot-of pages (at / 4096) place is

      few : i % 4096 < 4096
      few = mod-lt i (omega arith)

      same : slot ≡ there.0 → i / 4096 ≡ at / 4096
      same equal =
          number-in pages (i / 4096) slot found ∙ ap (slice_index pages) equal ∙ sym (number-in pages (at / 4096) there.0 there.1)

      in-page : slot ≡ there.0 → (i < at) ⊎ (at + length bytes ≤ i) → (4096 * slot + i % 4096 < from) ⊎ (from + length bytes ≤ 4096 * slot + i % 4096)
      in-page equal (inl below) = inl (omega (arith, div-add-mod' i 4096, div-add-mod' at 4096, same equal, below, equal, there.2))
      in-page equal (inr above) = inr (omega (arith, div-add-mod' i 4096, div-add-mod' at 4096, same equal, above, equal, there.2))

      from-it : (there.0 < slot) ⊎ (slot ≤ there.0) → there.0 ≤ slot → (4096 * slot + i % 4096 < from) ⊎ (from + length bytes ≤ 4096 * slot + i % 4096)
      from-it (inl after) least = inr (omega (arith, after, there.2, one))
      from-it (inr most) least = in-page (omega (arith, most, least)) beside

      by : (slot < there.0) ⊎ (there.0 ≤ slot) → (4096 * slot + i % 4096 < from) ⊎ (from + length bytes ≤ 4096 * slot + i % 4096)
      by (inl before) = inl (omega (arith, before, few, there.2))
      by (inr least) = from-it (cases_lt there.0 slot) least

  beside-kept : (p : ℕ) → (p < from) ⊎ (from + length bytes ≤ p) → slice_index changed p ≡ slice_index kept p
  beside-kept p (inl below) = spliced-below kept bytes from fits-page p below
  beside-kept p (inr above) = spliced-above kept bytes from fits-page p above

  other-byte : (i : ℕ) → (i < at) ⊎ (at + length bytes ≤ i)
      → byte_from file changed i (place_of pages (i / 4096)) ≡ byte_from file kept i (place_of pages (i / 4096))
  other-byte i beside = by (position (nat_eq (i / 4096)) pages) refl
    where
      by : (found : Option ℕ) → position (nat_eq (i / 4096)) pages ≡ found
          → byte_from file changed i (place_of pages (i / 4096)) ≡ byte_from file kept i (place_of pages (i / 4096))
      by None missed = rw missed refl
      by (Some slot) found = rw found (beside-kept (4096 * slot + i % 4096) (beside-place i slot beside found))

  other-shown : (i : ℕ) → (i < at) ⊎ (at + length bytes ≤ i) → slice_index (shown file pages changed) i ≡ slice_index (shown file pages kept) i
  other-shown i beside = by (cases_lt i (length file))
    where
      by : (i < length file) ⊎ (length file ≤ i) → slice_index (shown file pages changed) i ≡ slice_index (shown file pages kept) i
      by (inl low) = shown-at file pages changed i low ∙ other-byte i beside ∙ sym (shown-at file pages kept i low)
      by (inr past) =
          get_or_past (shown file pages changed) i 0 (rw (length-shown file pages changed) past)
          ∙ sym (get_or_past (shown file pages kept) i 0 (rw (length-shown file pages kept) past))

  pub beside-written : SameBeside at (length bytes) (shown file pages kept) (shown file pages changed)
  beside-written = record {
    long = length-shown file pages changed ∙ sym (length-shown file pages kept);
    below = λ i low. other-shown i (inl low);
    above = λ i high. other-shown i (inr high);
  }

-- ---- a room that is filled piece by piece

module _ (file pages kept room : List ℕ) (at done count : ℕ) (before : IsShown file (shown file pages kept) at done room)
    (one : (at + done) % 4096 + count ≤ 4096) (room_has : done + count ≤ length room) where
  place-fits : at + done + count ≤ length file
  place-fits = omega (arith, room_has, before.within)

  -- the next bytes, which are not kept
  pub more-of-file : place_of pages ((at + done) / 4096) ≡ None → IsShown file (shown file pages kept) at (done + count) room
  more-of-file none = record {
    few = room_has;
    within = before.within;
    shown = λ i low. by i low (cases_lt i done);
    rest = λ i from low. before.rest i (omega (arith, from)) low;
  }
    where
      by : (i : ℕ) → i < done + count → (i < done) ⊎ (done ≤ i) → slice_index room i ≡ slice_index (shown file pages kept) (at + i)
      by i low (inl first) = before.shown i first
      by i low (inr from) =
          let j : i - done < count = omega (arith, low, from) in
          before.rest i from (omega (arith, low, room_has))
          ∙ ap (slice_index file) (omega (arith, from))
          ∙ sym (shown-in-file file pages kept (at + done) count one place-fits none (i - done) j)
          ∙ ap (slice_index (shown file pages kept)) (omega (arith, from))

  -- the next bytes, which are kept
  pub more-of-page : (place : ℕ) (part new : List ℕ) → length kept ≡ 4096 * length pages
      → place_of pages ((at + done) / 4096) ≡ Some place
      → length part ≡ count → ((j : ℕ) → j < count → slice_index part j ≡ slice_index kept (place + (at + done) % 4096 + j))
      → new ≡ splice room done (done + length part) part → IsShown file (shown file pages kept) at (done + count) new
  more-of-page place part new long is many each new_is = rw new_is (record {
    few = rw long-new room_has;
    within = rw long-new before.within;
    shown = λ i low. by i low (cases_lt i done);
    rest = λ i from low.
        spliced-above room part done fits i (omega (arith, from, many))
        ∙ before.rest i (omega (arith, from)) (rw long-new at low);
  })
    where
      fits : done + length part ≤ length room
      fits = omega (arith, many, room_has)

      long-new : length (splice room done (done + length part) part) ≡ length room
      long-new = length-spliced room part done fits

      by : (i : ℕ) → i < done + count → (i < done) ⊎ (done ≤ i)
          → slice_index (splice room done (done + length part) part) i ≡ slice_index (shown file pages kept) (at + i)
      by i low (inl first) = spliced-below room part done fits i first ∙ before.shown i first
      by i low (inr from) =
          let j : i - done < count = omega (arith, low, from) in
          ap (slice_index (splice room done (done + length part) part)) (omega (arith, from))
          ∙ spliced-within room part done fits (i - done) (omega (arith, j, many))
          ∙ each (i - done) j
          ∙ sym (shown-in-page file pages kept (at + done) count place one place-fits is (i - done) j)
          ∙ ap (slice_index (shown file pages kept)) (omega (arith, from))

-- all bytes of a room are shown
pub all-shown : (file over room : List ℕ) (at done : ℕ) → length over ≡ length file → IsShown file over at done room → length room ≤ done → Holds over at room
all-shown file over room at done long is most = record {
  within = rw long is.within;
  each = λ i low. sym (is.shown i (omega (arith, low, most)));
}

-- ---- bytes that are written piece by piece

pub more-written : (before old new bytes part : List ℕ) (at done count : ℕ) → IsWritten before old at done bytes
    → Holds new (at + done) part → SameBeside (at + done) (length part) old new → length part ≡ count
    → ((j : ℕ) → j < count → slice_index part j ≡ slice_index bytes (done + j)) → done + count ≤ length bytes
    → IsWritten before new at (done + count) bytes
more-written before old new bytes part at done count is holds same many each few = record {
  few = few;
  beside = record {
    long = same.long ∙ is.beside.long;
    below = λ i low. same.below i (omega (arith, low)) ∙ is.beside.below i low;
    above = λ i high. same.above i (omega (arith, high, many)) ∙ is.beside.above i (omega (arith, high));
  };
  written = λ i low. by i low (cases_lt i done);
}
  where
    by : (i : ℕ) → i < done + count → (i < done) ⊎ (done ≤ i) → slice_index new (at + i) ≡ slice_index bytes i
    by i low (inl first) = same.below (at + i) (omega (arith, first)) ∙ is.written i first
    by i low (inr from) =
        let j : i - done < count = omega (arith, low, from) in
        ap (slice_index new) (omega (arith, from))
        ∙ holds.each (i - done) (omega (arith, j, many))
        ∙ each (i - done) j
        ∙ ap (slice_index bytes) (omega (arith, from))

-- a part of bytes
pub part-each : (bytes : List ℕ) (from count j : ℕ) → j < count → slice_index (take count (drop from bytes)) j ≡ slice_index bytes (from + j)
part-each bytes from count j low = get_or-take count (drop from bytes) j 0 low ∙ get_or-drop from bytes j 0

pub part-long : (bytes : List ℕ) (from count : ℕ) → from + count ≤ length bytes → length (take count (drop from bytes)) ≡ count
part-long bytes from count fits = length-take-le count (drop from bytes) (omega (arith, fits, length-drop from bytes))
