-- No zone is in a place where the last flush has more of its blocks.
use Rattle.std.proofs.Common.{◌≡◌, ◌≢◌, ◌⊎◌, ℕ, zero, suc, ◌+◌, ◌<◌, ◌≤◌, ◌^◌, Bool, true, false, cond, eqb, leb, not, ◌||◌, List, [], ◌∷◌, length, map, set, get_or, take, Some, None, Option, Result, Ok, Err, refl, sym, subst, ap, ◌∙◌, inl, inr, arith}
use Rattle.std.proofs.lemmas.Bool.{cases_eq, eqb-true, le-leb, leb-true}
use Rattle.std.proofs.lemmas.List.{get_or-map, get_or_default, get_or-set_other, get_or-set_same, length-map, length-set}
use Rattle.nvme_wire.specs.declared.command.Action.{Action}
use Rattle.nvme_wire.specs.declared.command.Action.TheVariants as actions
use Rattle.nvme_wire.specs.declared.status.Status.{Status}
use Rattle.nvme_wire.specs.declared.zone_state.ZoneState.{ZoneState}
use Rattle.zone_states.specs.declared.geometry.Geometry.{Geometry}
use Rattle.zone_states.specs.Transition.{state_after}
use Rattle.drive_port.specs.Step.{is_selected, one_if}
use Rattle.file_drive.specs.InFile.{AreApart, AreSummed, AreWithin, entry_at, flushed_at, is_apart, is_summed}
use Rattle.file_drive.specs.Tables.{acted, entry_after, entry_of, next_entries, next_entry, place_of, word_of}
use Rattle.file_drive.specs.declared.entry.Entry.{Entry}
use Rattle.file_drive.proofs.DataLaws.{within-at}
use Rattle.file_drive.proofs.PlaceLaws.{places-apart}
use Rattle.file_drive.proofs.ServedLaws.{word-says}
use Rattle.file_drive.proofs.SumLaws.{acted-summed}
use Rattle.file_drive.proofs.StoreLaws.{acted-few, no_entry}

-- ---- one zone

-- the flush has the zone in the other place, or no more blocks
apart-cases : (last entry : Entry) → is_apart last entry ≡ true → (one_if last.second ≢ one_if entry.second) ⊎ (last.written ≤ entry.written)
apart-cases last entry = by last.second entry.second
  where
    by : (a b : Bool) → (cond a (not b) b || leb last.written entry.written) ≡ true → (one_if a ≢ one_if b) ⊎ (last.written ≤ entry.written)
    by true true e = inr (leb-true last.written entry.written e)
    by true false e = inl (λ same. absurd (omega (arith, same)))
    by false true e = inl (λ same. absurd (omega (arith, same)))
    by false false e = inr (leb-true last.written entry.written e)

or-yes : (a b : Bool) → b ≡ true → (a || b) ≡ true
or-yes true b e = refl
or-yes false b e = e

-- no more blocks are no block behind those that are written
pub apart-few : (last entry : Entry) → last.written ≤ entry.written → is_apart last entry ≡ true
apart-few last entry few = or-yes (cond last.second (not entry.second) entry.second) (leb last.written entry.written) (le-leb last.written entry.written few)

-- a zone in the other place is apart, whatever is written of it
apart-other : (last : Bool) (n : ℕ) (written : ℕ) → (cond last (not (not last)) (not last) || leb n written) ≡ true
apart-other true n written = refl
apart-other false n written = refl

-- more blocks in the same place
pub apart-more : (last entry next : Entry) → next.second ≡ entry.second → entry.written ≤ next.written → is_apart last entry ≡ true → is_apart last next ≡ true
apart-more last entry next same more apart = rw same (by last.second entry.second apart)
  where
    by : (a b : Bool) → (cond a (not b) b || leb last.written entry.written) ≡ true → (cond a (not b) b || leb last.written next.written) ≡ true
    by true true e = let few = leb-true last.written entry.written e in le-leb last.written next.written (omega (arith, few, more))
    by true false e = refl
    by false true e = refl
    by false false e = let few = leb-true last.written entry.written e in le-leb last.written next.written (omega (arith, few, more))

-- a Reset leaves the place where the last flush has blocks
apart-reset : (last entry : Entry) (state : ZoneState) → is_apart last (entry_after actions.Reset last entry (Ok state)) ≡ true
apart-reset last entry state = by (eqb last.written 0) refl
  where
    by : (none : Bool) → eqb last.written 0 ≡ none
        → (cond last.second (not (cond none entry.second (not last.second))) (cond none entry.second (not last.second)) || leb last.written 0) ≡ true
    by true e = or-yes (cond last.second (not entry.second) entry.second) (leb last.written 0) (le-leb last.written 0 (omega (arith, eqb-true last.written 0 e)))
    by false e = apart-other last.second last.written 0

pub acted-apart : (action : Action) (last entry : Entry) → is_apart last entry ≡ true → is_apart last (acted action last entry) ≡ true
acted-apart action last entry apart = after (state_after entry.state action) action
  where
    after : (next : Result ZoneState Status) (action : Action) → is_apart last (entry_after action last entry next) ≡ true
    after (Err status) action = apart
    after (Ok state) actions.Reset = apart-reset last entry state
    after (Ok state) actions.Open = apart
    after (Ok state) actions.Close = apart
    after (Ok state) actions.Finish = apart
    after (Ok state) actions.Offline = apart

next-apart : (action : Option Action) (last entry : Entry) → is_apart last entry ≡ true → is_apart last (next_entry action last entry) ≡ true
next-apart None last entry apart = apart
next-apart (Some action) last entry apart = by (is_selected action entry.state)
  where
    by : (selected : Bool) → is_apart last (cond selected (acted action last entry) entry) ≡ true
    by true = acted-apart action last entry apart
    by false = apart

-- ---- the zones after an action on all of them

pub length-next : (action : Option Action) (words : List ℕ) (entries : List Entry) → length (next_entries action words entries) ≡ length entries
length-next action [] entries = refl
length-next action (word ∷ words) [] = refl
length-next action (word ∷ words) (entry ∷ entries) = let rest = length-next action words entries in omega (arith, rest)

-- each of them
pub next-at : (action : Option Action) (words : List ℕ) (entries : List Entry) (i : ℕ) (d : Entry) → i < length words → i < length entries
    → get_or (next_entries action words entries) i d ≡ next_entry action (flushed_at words i) (get_or entries i d)
next-at action [] entries i d few low = absurd (omega (arith, few))
next-at action (word ∷ words) [] i d few low = absurd (omega (arith, low))
next-at action (word ∷ words) (entry ∷ entries) zero d few low = refl
next-at action (word ∷ words) (entry ∷ entries) (suc i) d few low = next-at action words entries i d (omega (arith, few)) (omega (arith, low))

-- where there is no action they stay
pub next-none : (words : List ℕ) (entries : List Entry) → next_entries None words entries ≡ entries
next-none [] entries = refl
next-none (word ∷ words) [] = refl
next-none (word ∷ words) (entry ∷ entries) = ap (λ (rest : List Entry). entry ∷ rest) (next-none words entries)

-- the next one
pub next-more : (action : Option Action) (words : List ℕ) (entries : List Entry) (i : ℕ) (d : Entry) → i < length words → i < length entries
    → set (next_entries action (take i words) entries) i (next_entry action (flushed_at words i) (get_or (next_entries action (take i words) entries) i d)) ≡ next_entries action (take (i + 1) words) entries
next-more action [] entries i d few low = absurd (omega (arith, few))
next-more action (word ∷ words) [] i d few low = absurd (omega (arith, low))
next-more action (word ∷ words) (entry ∷ entries) zero d few low = refl
next-more action (word ∷ words) (entry ∷ entries) (suc i) d few low =
    let more : suc i + 1 ≡ suc (i + 1) = omega arith in
    rw more (ap (λ (rest : List Entry). next_entry action (entry_of word) entry ∷ rest) (next-more action words entries i d (omega (arith, few)) (omega (arith, low))))

next-few : (g : Geometry) (action : Option Action) (last entry : Entry) → entry.written ≤ g.capacity → (next_entry action last entry).written ≤ g.capacity
next-few g None last entry few = few
next-few g (Some action) last entry few = by (is_selected action entry.state)
  where
    by : (selected : Bool) → (cond selected (acted action last entry) entry).written ≤ g.capacity
    by true = acted-few g action last entry few
    by false = few

pub within-next : (g : Geometry) (action : Option Action) (words : List ℕ) (entries : List Entry) → AreWithin g entries → AreWithin g (next_entries action words entries)
within-next g action [] entries within = within
within-next g action (word ∷ words) [] within = tt
within-next g action (word ∷ words) (entry ∷ entries) within = (next-few g action (entry_of word) entry within.0, within-next g action words entries within.1)

-- ---- all zones

pub apart-next : (action : Option Action) (words : List ℕ) (entries : List Entry) → length words ≡ length entries → AreApart words entries → AreApart words (next_entries action words entries)
apart-next action words entries same apart number low =
    let low' : number < length entries = omega (arith, low, length-next action words entries) in
    rw (next-at action words entries number no_entry (omega (arith, low', same)) low') (next-apart action (flushed_at words number) (entry_at entries number) (apart number low'))

next-summed : (g : Geometry) (file : List ℕ) (number : ℕ) (action : Option Action) (last entry : Entry) → is_summed g file number last entry ≡ true → is_summed g file number last (next_entry action last entry) ≡ true
next-summed g file number None last entry was = was
next-summed g file number (Some action) last entry was = by (is_selected action entry.state)
  where
    by : (selected : Bool) → is_summed g file number last (cond selected (acted action last entry) entry) ≡ true
    by true = acted-summed g file number action last entry was
    by false = was

pub summed-next : (g : Geometry) (file : List ℕ) (action : Option Action) (words : List ℕ) (entries : List Entry) → length words ≡ length entries → length entries ≡ g.zones → AreWithin g entries
    → AreSummed g file words entries → AreSummed g file words (next_entries action words entries)
summed-next g file action words entries same count within was number low few =
    let low' : number < length entries = omega (arith, low, count) in
    subst (λ (entry : Entry). is_summed g file number (flushed_at words number) entry ≡ true) (sym (next-at action words entries number no_entry (omega (arith, low', same)) low'))
    (next-summed g file number action (flushed_at words number) (entry_at entries number) (was number low (within-at g entries number no_entry within low')))

-- of one zone something else is known
pub apart-set : (words : List ℕ) (entries : List Entry) (index : ℕ) (entry : Entry) → AreApart words entries → is_apart (flushed_at words index) entry ≡ true → AreApart words (set entries index entry)
apart-set words entries index entry apart one number low =
    let low' : number < length entries = omega (arith, low, length-set entries index entry) in
    elim (cases_eq number index) [
      | inl is ↦ rw (is, get_or-set_same entries index entry no_entry (omega (arith, low', is))) one
      | inr away ↦ rw (get_or-set_other entries index number entry no_entry away) (apart number low')
    ]

-- a flush has the same blocks in the same places
pub apart-flushed : (g : Geometry) (entries : List Entry) → g.capacity < 2 ^ 32 → AreWithin g entries → AreApart (map word_of entries) entries
apart-flushed g entries small within number low =
    let few = within-at g entries number no_entry within low in
    let says = word-says (entry_at entries number) (omega (arith, few, small)) in
    rw (get_or-map word_of entries number no_entry 0 low) (apart-few (entry_of (word_of (entry_at entries number))) (entry_at entries number) (omega (arith, says.1)))

-- as what its words say
pub apart-self : (words : List ℕ) → AreApart words (map entry_of words)
apart-self words number low =
    let low' : number < length words = omega (arith, low, length-map words entry_of) in
    rw (get_or-map entry_of words number 0 no_entry low') (apart-few (flushed_at words number) (flushed_at words number) (omega arith))

-- what the words of the zones say is as far apart
pub apart-again : (g : Geometry) (words : List ℕ) (entries : List Entry) → g.capacity < 2 ^ 32 → AreWithin g entries → AreApart words entries → AreApart words (map entry_of (map word_of entries))
apart-again g words entries small within apart number low =
    let low' : number < length entries = omega (arith, low, length-map (map word_of entries) entry_of, length-map entries word_of) in
    let few = within-at g entries number no_entry within low' in
    let says = word-says (entry_at entries number) (omega (arith, few, small)) in
    rw (get_or-map entry_of (map word_of entries) number 0 no_entry (omega (arith, low', length-map entries word_of)), get_or-map word_of entries number no_entry 0 low')
    (apart-more (flushed_at words number) (entry_at entries number) (entry_of (word_of (entry_at entries number))) says.2 (omega (arith, says.1)) (apart number low'))

-- ---- what is written behind a zone's blocks is no block of the last flush

pub apart-clear : (words : List ℕ) (entries : List Entry) (index : ℕ) → AreApart words entries → index < length entries
    → (i : ℕ) (d : Entry) → i < length (map entry_of words)
    → (place_of i (get_or (map entry_of words) i d) ≢ place_of index (entry_at entries index)) ⊎ ((get_or (map entry_of words) i d).written ≤ (entry_at entries index).written)
apart-clear words entries index apart low i d few =
    let few' : i < length words = omega (arith, few, length-map words entry_of) in
    let is : get_or (map entry_of words) i d ≡ flushed_at words i = get_or-map entry_of words i 0 d few' in
    rw is (elim (cases_eq i index) [
      | inl same ↦ rw same (elim (apart-cases (flushed_at words index) (entry_at entries index) (apart index low)) [
        | inl other ↦ inl (λ e. other (omega (arith, e)))
        | inr less ↦ inr less
      ])
      | inr away ↦ inl (places-apart i index (flushed_at words i) (entry_at entries index) away)
    ])

-- ---- a place where no block is counted

-- a zone that is in that place has no more blocks than are free there
pub free-clear : (entries : List Entry) (index : ℕ) (free : Entry) → index < length entries → is_apart (entry_at entries index) free ≡ true
    → (i : ℕ) (d : Entry) → i < length entries → (place_of i (get_or entries i d) ≢ place_of index free) ⊎ ((get_or entries i d).written ≤ free.written)
free-clear entries index free low apart i d few = elim (cases_eq i index) [
  | inl same ↦
      let is : get_or entries i d ≡ entry_at entries index = ap (λ (n : ℕ). get_or entries n d) same ∙ get_or_default entries index d no_entry low in
      rw is (elim (apart-cases (entry_at entries index) free apart) [
        | inl other ↦ inl (λ e. other (omega (arith, same, e)))
        | inr less ↦ inr less
      ])
  | inr away ↦ inl (places-apart i index (get_or entries i d) free away)
]
