-- The newest record of each block is found, record by record.
use Rattle.std.proofs.Common.{◌≡◌, ◌≢◌, ◌⊎◌, inl, inr, ℕ, zero, suc, ◌+◌, ◌-◌, ◌<◌, ◌≤◌, min, Bool, true, false, cond, List, [], ◌∷◌, ◌++◌, length, set, take, drop, get_or, Some, None, refl, sym, ap, subst, ◌∙◌, arith, append_assoc, append-nil}
use Rattle.std.specs.Prelude.{Vec, slice_get}
use Rattle.std.specs.declared.alloc.Global.{Global}
use Rattle.std.specs.BTreeMap.{BTreeMap, IsEmpty, get, is_at}
use Rattle.std.specs.List.{Contains}
use Rattle.std.specs.Ordering.{nat_cmp}
use Rattle.std.proofs.lemmas.Bool.{cases_eq, cases_lt, eq-eqb, ne_eqb}
use Rattle.std.proofs.lemmas.List.{length-append, length-drop, length-set, length-take, take_min}
use Rattle.std.proofs.lemmas.List.Elements.{Contains-append_left, Contains-push, Contains-push_cases}
use Rattle.std.proofs.Math.Seq.{drop-cons}
use Rattle.batch_log.specs.Log.{one_unless}
use Rattle.drive_survey.specs.declared.heads.Head.{Head}
use Rattle.drive_survey.specs.declared.records.KeptRecord.{KeptRecord}
use Rattle.drive_survey.specs.declared.clearing.newest.Newest.{Newest}
use Rattle.drive_survey.specs.Heads.{HeadsView}
use Rattle.drive_survey.specs.KeptRecords.{entry_record, is_kept_trim, kept_batches, kept_entries, kept_of_zone}
use Rattle.drive_survey.specs.NewestRecords.{AreNewest, IsNamedAfter, KeepsNewest}
use Rattle.drive_survey.proofs.RecordTableLaws.{at-is, drop-min}

-- ---- lists

-- an element is at some place, and what is at a place is an element
pub contains-get : {X : Type 0} (xs : List X) (x : X) → Contains xs x → (i : ℕ) × (slice_get xs i ≡ Some x)
contains-get [] x c = absurd (omega (arith, c.1))
contains-get (y ∷ ys) x (zero, lt, is) = (0, ap Some is)
contains-get (y ∷ ys) x (suc n, lt, is) = let rest = contains-get ys x (n, omega (arith, lt), is) in (suc rest.0, rest.1)

-- what a list has at an index is one of its elements
get-contains : {X : Type 0} (xs : List X) (i : ℕ) (x : X) → slice_get xs i ≡ Some x → Contains xs x
get-contains [] i x is = absurd (cc)
get-contains (y ∷ ys) zero x is = (0, omega arith, (cc))
get-contains (y ∷ ys) (suc i) x is = let rest = get-contains ys i x is in (suc rest.0, omega (arith, rest.1), rest.2)

-- a place is within the list
pub get-below : {X : Type 0} (xs : List X) (i : ℕ) (x : X) → slice_get xs i ≡ Some x → i < length xs
get-below [] i x is = absurd (cc)
get-below (y ∷ ys) zero x is = omega arith
get-below (y ∷ ys) (suc i) x is = omega (arith, get-below ys i x is)

get-left : {X : Type 0} (xs ys : List X) (i : ℕ) (x : X) → slice_get xs i ≡ Some x → slice_get (xs ++ ys) i ≡ Some x
get-left [] ys i x is = absurd (cc)
get-left (y ∷ xs) ys zero x is = is
get-left (y ∷ xs) ys (suc i) x is = get-left xs ys i x is

get-last : {X : Type 0} (xs : List X) (x : X) → slice_get (xs ++ x ∷ []) (length xs) ≡ Some x
get-last [] x = refl
get-last (y ∷ ys) x = get-last ys x

get-push : {X : Type 0} (xs : List X) (x y : X) (i : ℕ) → slice_get (xs ++ x ∷ []) i ≡ Some y → (slice_get xs i ≡ Some y) ⊎ ((i ≡ length xs) × (x ≡ y))
get-push [] x y zero is = inr (refl, (cc))
get-push [] x y (suc i) is = absurd (cc)
get-push (z ∷ zs) x y zero is = inl is
get-push (z ∷ zs) x y (suc i) is = by (get-push zs x y i is)
  where
    by : (slice_get zs i ≡ Some y) ⊎ ((i ≡ length zs) × (x ≡ y)) → (slice_get zs i ≡ Some y) ⊎ ((suc i ≡ suc (length zs)) × (x ≡ y))
    by (inl there) = inl there
    by (inr last) = inr (ap suc last.0, last.1)

get-set : {X : Type 0} (xs : List X) (x y : X) (i j : ℕ) → slice_get (set xs i x) j ≡ Some y → ((j ≡ i) × (x ≡ y)) ⊎ ((j ≢ i) × (slice_get xs j ≡ Some y))
get-set [] x y i j is = absurd (cc)
get-set (z ∷ zs) x y zero zero is = inl (refl, (cc))
get-set (z ∷ zs) x y zero (suc j) is = inr ((λ e. omega (arith, e)), is)
get-set (z ∷ zs) x y (suc i) zero is = inr ((λ e. omega (arith, e)), is)
get-set (z ∷ zs) x y (suc i) (suc j) is = by (get-set zs x y i j is)
  where
    by : ((j ≡ i) × (x ≡ y)) ⊎ ((j ≢ i) × (slice_get zs j ≡ Some y)) → ((suc j ≡ suc i) × (x ≡ y)) ⊎ ((suc j ≢ suc i) × (slice_get zs j ≡ Some y))
    by (inl here) = inl (ap suc here.0, here.1)
    by (inr other) = inr ((λ e. other.0 (omega (arith, e))), other.1)

get-set_here : {X : Type 0} (xs : List X) (x y : X) (i : ℕ) → slice_get xs i ≡ Some y → slice_get (set xs i x) i ≡ Some x
get-set_here [] x y i is = absurd (cc)
get-set_here (z ∷ zs) x y zero is = refl
get-set_here (z ∷ zs) x y (suc i) is = get-set_here zs x y i is

get-set_other : {X : Type 0} (xs : List X) (x y : X) (i j : ℕ) → j ≢ i → slice_get xs j ≡ Some y → slice_get (set xs i x) j ≡ Some y
get-set_other [] x y i j apart is = is
get-set_other (z ∷ zs) x y zero zero apart is = absurd (apart refl)
get-set_other (z ∷ zs) x y zero (suc j) apart is = is
get-set_other (z ∷ zs) x y (suc i) zero apart is = is
get-set_other (z ∷ zs) x y (suc i) (suc j) apart is = get-set_other zs x y i j (λ e. apart (ap suc e)) is

-- ---- one record

abbrev Places : Type 0
Places = BTreeMap ℕ ℕ

abbrev PutsAt : ℕ → ℕ → Places → Places → Type 0
PutsAt block place old new = (q : ℕ) → get nat_cmp new q ≡ cond (is_at (nat_cmp block) q) (Some place) (get nat_cmp old q)

put-here : (block place : ℕ) (old new : Places) → PutsAt block place old new → get nat_cmp new block ≡ Some place
put-here block place old new puts = puts block ∙ ap (λ (b : Bool). cond b (Some place) (get nat_cmp old block)) (at-is block block ∙ eq-eqb block block refl)

put-other : (block q place : ℕ) (old new : Places) → q ≢ block → PutsAt block place old new → get nat_cmp new q ≡ get nat_cmp old q
put-other block q place old new apart puts =
    puts q ∙ ap (λ (b : Bool). cond b (Some place) (get nat_cmp old q)) (at-is block q ∙ ne_eqb block q (λ e. apart (sym e)))

abbrev Own : Type 0
Own = Vec KeptRecord Global

-- where records that are kept keep their blocks, what was named first is named so still
abbrev KeepsBlocks : List KeptRecord → List KeptRecord → Type 0
KeepsBlocks old new = (j : ℕ) (r : KeptRecord) → slice_get old j ≡ Some r → (s : KeptRecord) × (slice_get new j ≡ Some s) × (s.block ≡ r.block)

named-more : (all old new : List KeptRecord) (found : KeptRecord) (k block : ℕ) → KeepsBlocks old new → IsNamedAfter all old k block → IsNamedAfter (all ++ found ∷ []) new k block
named-more all old new found k block keeps named = record {
  place = named.place;
  found = named.found;
  there = get-left all (found ∷ []) named.place named.found named.there;
  block_is = named.block_is;
  before = λ i s lt is. elim (get-push all found s i is) as (λ _. (j : ℕ) × (r : KeptRecord) × (j < k) × (slice_get new j ≡ Some r) × (r.block ≡ s.block)) [
    | inl was ↦ (let first = named.before i s lt was in let kept = keeps first.0 first.1 first.3 in (first.0, kept.0, first.2, kept.1, kept.2 ∙ first.4))
    | inr last ↦ absurd (omega (arith, last.0, lt, get-below all named.place named.found named.there))
  ];
}

-- the first record of a block comes last
pub put-first : (all : List KeptRecord) (found : KeptRecord) (old : Newest) (records : Own) (places : Places) → get nat_cmp old.places found.block ≡ None → PutsAt found.block (length old.records.items) old.places places
    → records.items ≡ old.records.items ++ found ∷ [] → KeepsNewest all old → KeepsNewest (all ++ found ∷ []) (record { records = records; places = places })
put-first all found old records places none puts pushed k = record {
  are = subst (AreNewest (all ++ found ∷ [])) (sym pushed) (record { among = among; latest = latest; covers = covers; in_order = in-order });
  few = omega (arith, ap length pushed, length-append items (found ∷ []), length-append all (found ∷ []), k.few);
  found = λ block place is. rw pushed (located block place is);
  placed = λ place r is. seated place r (rw pushed at is);
}
  where
    items : List KeptRecord
    items = old.records.items

    unnamed : (r : KeptRecord) → Contains items r → r.block ≡ found.block → ⊥
    unnamed r c same = let there = contains-get items r c in let bad = sym (ap (get nat_cmp old.places) same ∙ none) ∙ k.placed there.0 r there.1 in absurd (cc)

    among : (r : KeptRecord) → Contains (items ++ found ∷ []) r → Contains (all ++ found ∷ []) r
    among r c = elim (Contains-push_cases items found r c) as (λ _. Contains (all ++ found ∷ []) r) [
      | inl d ↦ Contains-append_left all (found ∷ []) r (k.are.among r d)
      | inr is ↦ subst (λ (x : KeptRecord). Contains (all ++ found ∷ []) x) is (Contains-push all found)
    ]

    latest : (r s : KeptRecord) → Contains (items ++ found ∷ []) r → Contains (all ++ found ∷ []) s → s.block ≡ r.block → s.sequence ≤ r.sequence
    latest r s c d same = elim (Contains-push_cases items found r c) as (λ _. s.sequence ≤ r.sequence) [
      | inl e ↦ (elim (Contains-push_cases all found s d) as (λ _. s.sequence ≤ r.sequence) [
        | inl f ↦ k.are.latest r s e f same
        | inr is ↦ absurd (unnamed r e (sym same ∙ ap (λ (x : KeptRecord). x.block) (sym is)))
      ])
      | inr one ↦ (elim (Contains-push_cases all found s d) as (λ _. s.sequence ≤ r.sequence) [
        | inl f ↦ (let held = k.are.covers s f in absurd (unnamed held.0 held.1 (held.2 ∙ same ∙ ap (λ (x : KeptRecord). x.block) (sym one))))
        | inr is ↦ rw (← is, ← one) (omega arith)
      ])
    ]

    covers : (s : KeptRecord) → Contains (all ++ found ∷ []) s → (r : KeptRecord) × Contains (items ++ found ∷ []) r × (r.block ≡ s.block)
    covers s c = elim (Contains-push_cases all found s c) as (λ _. (r : KeptRecord) × Contains (items ++ found ∷ []) r × (r.block ≡ s.block)) [
      | inl d ↦ (let held = k.are.covers s d in (held.0, Contains-append_left items (found ∷ []) held.0 held.1, held.2))
      | inr is ↦ (found, Contains-push items found, ap (λ (x : KeptRecord). x.block) is)
    ]

    before-last : (i : ℕ) (s : KeptRecord) → i < length all → slice_get (all ++ found ∷ []) i ≡ Some s → (j : ℕ) × (r : KeptRecord) × (j < length items) × (slice_get (items ++ found ∷ []) j ≡ Some r) × (r.block ≡ s.block)
    before-last i s lt is = elim (get-push all found s i is) as (λ _. (j : ℕ) × (r : KeptRecord) × (j < length items) × (slice_get (items ++ found ∷ []) j ≡ Some r) × (r.block ≡ s.block)) [
      | inl was ↦ (
          let held = k.are.covers s (get-contains all i s was) in
          let at = contains-get items held.0 held.1 in
          (at.0, held.0, get-below items at.0 held.0 at.1, get-left items (found ∷ []) at.0 held.0 at.1, held.2)
          )
      | inr last ↦ absurd (omega (arith, last.0, lt))
    ]

    last-named : (i : ℕ) (r : KeptRecord) → i ≡ length items → found ≡ r → IsNamedAfter (all ++ found ∷ []) (items ++ found ∷ []) i r.block
    last-named i r at same = record {
      place = length all;
      found = found;
      there = get-last all found;
      block_is = ap (λ (x : KeptRecord). x.block) same;
      before = λ j s lt is. rw at (before-last j s lt is);
    }

    in-order : (i : ℕ) (r : KeptRecord) → slice_get (items ++ found ∷ []) i ≡ Some r → IsNamedAfter (all ++ found ∷ []) (items ++ found ∷ []) i r.block
    in-order i r is = elim (get-push items found r i is) as (λ _. IsNamedAfter (all ++ found ∷ []) (items ++ found ∷ []) i r.block) [
      | inl was ↦ named-more all items (items ++ found ∷ []) found i r.block (λ j s there. (s, get-left items (found ∷ []) j s there, refl)) (k.are.in_order i r was)
      | inr last ↦ last-named i r last.0 last.1
    ]

    located : (block place : ℕ) → get nat_cmp places block ≡ Some place → (r : KeptRecord) × (slice_get (items ++ found ∷ []) place ≡ Some r) × (r.block ≡ block)
    located block place is = elim (cases_eq block found.block) as (λ _. (r : KeptRecord) × (slice_get (items ++ found ∷ []) place ≡ Some r) × (r.block ≡ block)) [
      | inl same ↦ (
          let here : get nat_cmp places block ≡ Some (length items) = rw same (put-here found.block (length items) old.places places puts) in
          let one : length items ≡ place = (let e = sym here ∙ is in cc) in
          (found, subst (λ (i : ℕ). slice_get (items ++ found ∷ []) i ≡ Some found) one (get-last items found), sym same)
          )
      | inr other ↦ (let was = k.found block place (sym (put-other found.block block (length items) old.places places other puts) ∙ is) in (was.0, get-left items (found ∷ []) place was.0 was.1, was.2))
    ]

    seated : (place : ℕ) (r : KeptRecord) → slice_get (items ++ found ∷ []) place ≡ Some r → get nat_cmp places r.block ≡ Some place
    seated place r is = elim (get-push items found r place is) as (λ _. get nat_cmp places r.block ≡ Some place) [
      | inl there ↦ put-other found.block r.block (length items) old.places places (unnamed r (get-contains items place r there)) puts ∙ k.placed place r there
      | inr last ↦ rw (← last.1, last.0) (put-here found.block (length items) old.places places puts)
    ]

-- a later one takes its place
put-later : (all : List KeptRecord) (found taken : KeptRecord) (old : Newest) (records : Own) (place : ℕ) → slice_get old.records.items place ≡ Some taken → taken.block ≡ found.block → taken.sequence < found.sequence
    → records.items ≡ set old.records.items place found → KeepsNewest all old → KeepsNewest (all ++ found ∷ []) (record { records = records; places = old.places })
put-later all found taken old records place there block lt replaced k = record {
  are = subst (AreNewest (all ++ found ∷ [])) (sym replaced) (record { among = among; latest = latest; covers = covers; in_order = in-order });
  few = omega (arith, ap length replaced, length-set items place found, length-append all (found ∷ []), k.few);
  found = λ q i is. rw replaced (located q i is);
  placed = λ i r is. seated i r (rw replaced at is);
}
  where
    items : List KeptRecord
    items = old.records.items

    -- one of the records is the new one, or an old one of another block
    sides : (i : ℕ) (r : KeptRecord) → slice_get (set items place found) i ≡ Some r → ((i ≡ place) × (found ≡ r)) ⊎ ((slice_get items i ≡ Some r) × (r.block ≢ found.block))
    sides i r is = elim (get-set items found r place i is) as (λ _. ((i ≡ place) × (found ≡ r)) ⊎ ((slice_get items i ≡ Some r) × (r.block ≢ found.block))) [
      | inl here ↦ inl here
      | inr other ↦ inr (
        other.1,
        λ same. (
            let own = k.placed i r other.1 in
            let its = k.placed place taken there in
            let one : i ≡ place = (let e = sym own ∙ ap (get nat_cmp old.places) (same ∙ sym block) ∙ its in cc) in
            other.0 one
            ),
      )
    ]

    among : (r : KeptRecord) → Contains (set items place found) r → Contains (all ++ found ∷ []) r
    among r c = let at = contains-get (set items place found) r c in elim (sides at.0 r at.1) as (λ _. Contains (all ++ found ∷ []) r) [
      | inl here ↦ subst (λ (x : KeptRecord). Contains (all ++ found ∷ []) x) here.1 (Contains-push all found)
      | inr other ↦ Contains-append_left all (found ∷ []) r (k.are.among r (get-contains items at.0 r other.0))
    ]

    latest : (r s : KeptRecord) → Contains (set items place found) r → Contains (all ++ found ∷ []) s → s.block ≡ r.block → s.sequence ≤ r.sequence
    latest r s c d same = let at = contains-get (set items place found) r c in elim (sides at.0 r at.1) as (λ _. s.sequence ≤ r.sequence) [
      | inl here ↦ (elim (Contains-push_cases all found s d) as (λ _. s.sequence ≤ r.sequence) [
        | inl f ↦ (
            let le = k.are.latest taken s (get-contains items place taken there) f (same ∙ ap (λ (x : KeptRecord). x.block) (sym here.1) ∙ sym block) in
            rw (← here.1) (omega (arith, le, lt))
            )
        | inr is ↦ rw (← is, ← here.1) (omega arith)
      ])
      | inr other ↦ (elim (Contains-push_cases all found s d) as (λ _. s.sequence ≤ r.sequence) [
        | inl f ↦ k.are.latest r s (get-contains items at.0 r other.0) f same
        | inr is ↦ absurd (other.1 (sym same ∙ ap (λ (x : KeptRecord). x.block) (sym is)))
      ])
    ]

    own-new : (block : ℕ) (r : KeptRecord) → Contains items r → r.block ≡ block → (x : KeptRecord) × Contains (set items place found) x × (x.block ≡ block)
    own-new q r c same = let at = contains-get items r c in elim (cases_eq at.0 place) as (λ _. (x : KeptRecord) × Contains (set items place found) x × (x.block ≡ q)) [
      | inl here ↦ (
          let one : taken ≡ r = (let e = sym there ∙ ap (slice_get items) (sym here) ∙ at.1 in cc) in
          (found, get-contains (set items place found) place found (get-set_here items found taken place there), sym block ∙ ap (λ (x : KeptRecord). x.block) one ∙ same)
          )
      | inr other ↦ (r, get-contains (set items place found) at.0 r (get-set_other items found r place at.0 other at.1), same)
    ]

    covers : (s : KeptRecord) → Contains (all ++ found ∷ []) s → (r : KeptRecord) × Contains (set items place found) r × (r.block ≡ s.block)
    covers s c = elim (Contains-push_cases all found s c) as (λ _. (r : KeptRecord) × Contains (set items place found) r × (r.block ≡ s.block)) [
      | inl d ↦ (let held = k.are.covers s d in own-new s.block held.0 held.1 held.2)
      | inr is ↦ (found, get-contains (set items place found) place found (get-set_here items found taken place there), ap (λ (x : KeptRecord). x.block) is)
    ]

    keeps : KeepsBlocks items (set items place found)
    keeps j r is = elim (cases_eq j place) as (λ _. (s : KeptRecord) × (slice_get (set items place found) j ≡ Some s) × (s.block ≡ r.block)) [
      | inl here ↦ (
          let one : taken ≡ r = (let e = sym there ∙ ap (slice_get items) (sym here) ∙ is in cc) in
          (found, rw here (get-set_here items found taken place there), sym block ∙ ap (λ (x : KeptRecord). x.block) one)
          )
      | inr other ↦ (r, get-set_other items found r place j other is, refl)
    ]

    in-order : (i : ℕ) (r : KeptRecord) → slice_get (set items place found) i ≡ Some r → IsNamedAfter (all ++ found ∷ []) (set items place found) i r.block
    in-order i r is = elim (sides i r is) as (λ _. IsNamedAfter (all ++ found ∷ []) (set items place found) i r.block) [
      | inl here ↦ (
          let was = named-more all items (set items place found) found place taken.block keeps (k.are.in_order place taken there) in
          let same : taken.block ≡ r.block = block ∙ ap (λ (x : KeptRecord). x.block) here.1 in
          rw (here.0, ← same) was
          )
      | inr other ↦ named-more all items (set items place found) found i r.block keeps (k.are.in_order i r other.0)
    ]

    located : (q i : ℕ) → get nat_cmp old.places q ≡ Some i → (r : KeptRecord) × (slice_get (set items place found) i ≡ Some r) × (r.block ≡ q)
    located q i is = let was = k.found q i is in elim (cases_eq i place) as (λ _. (r : KeptRecord) × (slice_get (set items place found) i ≡ Some r) × (r.block ≡ q)) [
      | inl here ↦ (
          let one : taken ≡ was.0 = (let e = sym there ∙ ap (slice_get items) (sym here) ∙ was.1 in cc) in
          (found, rw here (get-set_here items found taken place there), sym block ∙ ap (λ (x : KeptRecord). x.block) one ∙ was.2)
          )
      | inr other ↦ (was.0, get-set_other items found was.0 place i other was.1, was.2)
    ]

    seated : (i : ℕ) (r : KeptRecord) → slice_get (set items place found) i ≡ Some r → get nat_cmp old.places r.block ≡ Some i
    seated i r is = elim (sides i r is) as (λ _. get nat_cmp old.places r.block ≡ Some i) [
      | inl here ↦ rw (here.0, ← here.1, ← block) (k.placed place taken there)
      | inr other ↦ k.placed i r other.0
    ]

-- one that is not later is left out
leave-out : (all : List KeptRecord) (found taken : KeptRecord) (old : Newest) (records : Own) (place : ℕ) → slice_get old.records.items place ≡ Some taken → taken.block ≡ found.block → found.sequence ≤ taken.sequence → records.items ≡ old.records.items
    → KeepsNewest all old → KeepsNewest (all ++ found ∷ []) (record { records = records; places = old.places })
leave-out all found taken old records place there block le same k = record {
  are = subst (AreNewest (all ++ found ∷ [])) (sym same) (record { among = among; latest = latest; covers = covers; in_order = in-order });
  few = omega (arith, ap length same, length-append all (found ∷ []), k.few);
  found = λ q i is. rw same (k.found q i is);
  placed = λ i r is. k.placed i r (rw same at is);
}
  where
    items : List KeptRecord
    items = old.records.items

    among : (r : KeptRecord) → Contains items r → Contains (all ++ found ∷ []) r
    among r c = Contains-append_left all (found ∷ []) r (k.are.among r c)

    latest : (r s : KeptRecord) → Contains items r → Contains (all ++ found ∷ []) s → s.block ≡ r.block → s.sequence ≤ r.sequence
    latest r s c d here = elim (Contains-push_cases all found s d) as (λ _. s.sequence ≤ r.sequence) [
      | inl f ↦ k.are.latest r s c f here
      | inr is ↦ (
          let more = k.are.latest r taken c (k.are.among taken (get-contains items place taken there)) (block ∙ ap (λ (x : KeptRecord). x.block) is ∙ here) in
          rw (← is) (omega (arith, le, more))
          )
    ]

    covers : (s : KeptRecord) → Contains (all ++ found ∷ []) s → (r : KeptRecord) × Contains items r × (r.block ≡ s.block)
    covers s c = elim (Contains-push_cases all found s c) as (λ _. (r : KeptRecord) × Contains items r × (r.block ≡ s.block)) [
      | inl d ↦ k.are.covers s d
      | inr is ↦ (taken, get-contains items place taken there, block ∙ ap (λ (x : KeptRecord). x.block) is)
    ]

    in-order : (i : ℕ) (r : KeptRecord) → slice_get items i ≡ Some r → IsNamedAfter (all ++ found ∷ []) items i r.block
    in-order i r is = named-more all items items found i r.block (λ j s at. (s, at, refl)) (k.are.in_order i r is)

-- a block that was named before
pub put-again : (all : List KeptRecord) (found : KeptRecord) (old : Newest) (records : Own) (place : ℕ) → Some place ≡ get nat_cmp old.places found.block
    → ((taken : KeptRecord) → slice_get old.records.items place ≡ Some taken → taken.sequence < found.sequence → records.items ≡ set old.records.items place found)
    → ((taken : KeptRecord) → slice_get old.records.items place ≡ Some taken → found.sequence ≤ taken.sequence → records.items ≡ old.records.items)
    → KeepsNewest all old → KeepsNewest (all ++ found ∷ []) (record { records = records; places = old.places })
put-again all found old records place is later earlier k =
    let taken = k.found found.block place (sym is) in
    elim (cases_lt taken.0.sequence found.sequence) as (λ _. KeepsNewest (all ++ found ∷ []) (record { records = records; places = old.places })) [
      | inl lt ↦ put-later all found taken.0 old records place taken.1 taken.2 lt (later taken.0 taken.1 lt) k
      | inr ge ↦ leave-out all found taken.0 old records place taken.1 taken.2 ge (earlier taken.0 taken.1 ge) k
    ]

-- an empty table keeps the newest of no records
pub keeps-none : (records : Own) (places : Places) → records.items ≡ [] → IsEmpty places → KeepsNewest [] (record { records = records; places = places })
keeps-none records places none empty = record {
  are = record { among = λ r c. absurd (let bad = rw none at c in omega (arith, bad.1)); latest = λ r s c d. absurd (omega (arith, d.1)); covers = λ s c. absurd (omega (arith, c.1)); in_order = λ i r is. absurd (let bad = rw none at is in cc) };
  few = omega (arith, ap length none);
  found = λ block place is. absurd (let bad = rw empty at is in cc);
  placed = λ place r is. absurd (let bad = rw none at is in cc);
}

-- ---- one part after the other

-- of these records the first were taken, and the rest are left
pub record TakenSoFar (first now : Newest) (rest whole : List KeptRecord) : Type 0 where
  pub done : List KeptRecord
  pub split : done ++ rest ≡ whole
  pub takes : (all : List KeptRecord) → KeepsNewest all first → KeepsNewest (all ++ done) now

-- at the start none of the records was taken
pub taken-none : (first : Newest) (whole : List KeptRecord) → TakenSoFar first first whole whole
taken-none first whole = record { done = []; split = refl; takes = λ all k. rw (append-nil all) k }

-- taking the next records leaves only the rest to be taken
taken-more : (first old new : Newest) (xs rest whole : List KeptRecord) → TakenSoFar first old (xs ++ rest) whole → ((all : List KeptRecord) → KeepsNewest all old → KeepsNewest (all ++ xs) new) → TakenSoFar first new rest whole
taken-more first old new xs rest whole so_far more = record {
  done = so_far.done ++ xs;
  split = append_assoc so_far.done xs rest ∙ so_far.split;
  takes = λ all k. subst (λ (ys : List KeptRecord). KeepsNewest ys new) (append_assoc all so_far.done xs) (more (all ++ so_far.done) (so_far.takes all k));
}

-- once no record is left, the newest of all of them are kept
pub taken-all : (first now : Newest) (whole : List KeptRecord) → TakenSoFar first now [] whole → (all : List KeptRecord) → KeepsNewest all first → KeepsNewest (all ++ whole) now
taken-all first now whole so_far all k =
    let same : so_far.done ≡ whole = sym (append-nil so_far.done) ∙ so_far.split in
    rw (← same) (so_far.takes all k)

-- an entry has at most one data block
pub at-most-one : (trim : Bool) → one_unless trim ≤ 1
at-most-one true = omega arith
at-most-one false = omega arith

-- an entry is taken
pub entry-more : (first old new : Newest) (sequence zone header k k' i i' : ℕ) (entries : List ℕ) (whole : List KeptRecord) → i < length entries → i' ≡ suc i → k' ≡ k + one_unless (is_kept_trim (get_or entries i 0))
    → ((all : List KeptRecord) → KeepsNewest all old → KeepsNewest (all ++ entry_record sequence zone header k (get_or entries i 0) ∷ []) new)
    → TakenSoFar first old (kept_entries sequence zone header k (drop i entries)) whole → TakenSoFar first new (kept_entries sequence zone header k' (drop i' entries)) whole
entry-more first old new sequence zone header k k' i i' entries whole lt next count more so_far =
    let e = get_or entries i 0 in
    let so_far' : TakenSoFar first old (entry_record sequence zone header k e ∷ kept_entries sequence zone header (k + one_unless (is_kept_trim e)) (drop (suc i) entries)) whole = rw (drop-cons entries i 0 lt) at so_far in
    rw (next, count) (taken-more first old new (entry_record sequence zone header k e ∷ []) (kept_entries sequence zone header (k + one_unless (is_kept_trim e)) (drop (suc i) entries)) whole so_far' more)

-- a batch is taken
pub batch-more : (first old new : Newest) (zone from i i' k : ℕ) (heads items : List Head) (head d : Head) (rest own others : List ℕ) (whole : List KeptRecord)
    → items ≡ heads → i < length items → head ≡ get_or items i d → i' ≡ suc i → k ≡ min (head.end - from) (length rest) → own ≡ take k rest → others ≡ drop k rest
    → ((all : List KeptRecord) → KeepsNewest all old → KeepsNewest (all ++ kept_entries head.sequence zone head.offset 0 own) new)
    → TakenSoFar first old (kept_batches zone from (drop i heads) rest) whole → TakenSoFar first new (kept_batches zone head.end (drop i' heads) others) whole
batch-more first old new zone from i i' k heads items head d rest own others whole same lt is next count owned left more so_far =
    let split : drop i heads ≡ head ∷ drop (suc i) heads = rw (← same) (drop-cons items i d lt ∙ ap (λ (h : Head). h ∷ drop (suc i) items) (sym is)) in
    let own_is : own ≡ take (head.end - from) rest = owned ∙ ap (λ (n : ℕ). take n rest) count ∙ take_min (head.end - from) rest in
    let others_is : others ≡ drop (head.end - from) rest = left ∙ ap (λ (n : ℕ). drop n rest) count ∙ drop-min (head.end - from) rest in
    let more' = rw own_is at more in
    let so_far' = rw split at so_far in
    rw (next, others_is) (taken-more first old new (kept_entries head.sequence zone head.offset 0 (take (head.end - from) rest)) (kept_batches zone head.end (drop (suc i) heads) (drop (head.end - from) rest)) whole so_far' more')

-- ---- how many there are

kept-count : (sequence zone header k : ℕ) (entries : List ℕ) → length (kept_entries sequence zone header k entries) ≡ length entries
kept-count sequence zone header k [] = refl
kept-count sequence zone header k (e ∷ es) = ap suc (kept-count sequence zone header (k + one_unless (is_kept_trim e)) es)

kept-few : (zone from : ℕ) (heads : List Head) (entries : List ℕ) → length (kept_batches zone from heads entries) ≤ length entries
kept-few zone from [] entries = omega arith
kept-few zone from (h ∷ hs) entries =
    let n = h.end - from in
    let own = kept_entries h.sequence zone h.offset 0 (take n entries) in
    let rest = kept-few zone h.end hs (drop n entries) in
    omega (arith, length-append own (kept_batches zone h.end hs (drop n entries)), kept-count h.sequence zone h.offset 0 (take n entries), length-take n entries, length-drop n entries, rest)

-- at most one for each entry
pub newest-few : (zone : ℕ) (heads : HeadsView) (newest : Newest) → KeepsNewest (kept_of_zone zone heads) newest → length newest.records.items ≤ length heads.entries
newest-few zone heads newest k = omega (arith, k.few, kept-few zone 0 heads.heads heads.entries)
