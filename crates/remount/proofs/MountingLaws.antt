-- The roles that a report gives the zones.
use Rattle.std.proofs.Common.{◌≡◌, ◌≢◌, ◌⊎◌, inl, inr, ℕ, zero, suc, ◌+◌, ◌<◌, ◌≤◌, ◌||◌, not, Bool, true, false, cond, eqb, List, [], ◌∷◌, length, get_or, Option, Some, None, refl, sym, ap, ◌∙◌, arith}
use Rattle.std.specs.Prelude.{count_by, slice_get}
use Rattle.std.specs.List.{AllByRecursion}
use Rattle.std.specs.Option.{option_map}
use Rattle.std.proofs.lemmas.Bool.{cases_lt, eq-eqb, and_parts}
use Rattle.std.proofs.lemmas.List.{get_or_past}
use Rattle.std.proofs.lemmas.List.FromFn.{get_or-map-range_with_len, length-map-range_with_len}
use Rattle.nvme_wire.specs.declared.zone_state.ZoneState.{ZoneState}
use Rattle.nvme_wire.specs.declared.zone_state.ZoneState.TheVariants as states
use Rattle.zone_states.specs.Transition.{is_state}
use Rattle.drive_port.specs.Contents.{empty, is_active_usage, usage_of}
use Rattle.zone_choice.specs.declared.roles.Filling.{Filling}
use Rattle.zone_choice.specs.declared.roles.Second.TheVariants.{Next}
use Rattle.zone_choice.specs.Roles.{AreApart, IsOccupied, fillings, is_filling_at, mounted_as}
use Rattle.drive_survey.specs.declared.reported.ReportedZone.{ReportedZone}
use Rattle.remount.specs.Mount.{HostIsBelow}
use Rattle.remount.specs.Mounting.{FindsNext, FindsPartly, IsLowestPartly, empties, is_empty_reported, is_partly_at}
use Rattle.drive_survey.specs.Survey.{is_partly_reported}
use Rattle.drive_array.proofs.AllLaws.{count-cons}

-- ---- states

-- a zone that was reported partly written is active and has a block
pub partly-active : (r : ReportedZone) → is_partly_reported r ≡ true → (is_active_usage (usage_of r.state) ≡ true) × (r.blocks ≢ 0)
partly-active r partly =
    let parts = and_parts (is_active_usage (usage_of r.state)) (not (eqb r.blocks 0)) partly in
    (parts.0, λ none. (let same : not (eqb r.blocks 0) ≡ false = rw (eq-eqb r.blocks 0 none) refl in absurd (cc)))

active-not_empty : (s : ZoneState) → is_active_usage (usage_of s) ≡ true → is_state s states.Empty ≡ false
active-not_empty states.Empty e = absurd (cc)
active-not_empty states.ImplicitlyOpened e = refl
active-not_empty states.ExplicitlyOpened e = refl
active-not_empty states.Closed e = refl
active-not_empty states.ReadOnly e = refl
active-not_empty states.Full e = refl
active-not_empty states.Offline e = refl

-- a state that tests as Empty is Empty
pub state-empty : (s : ZoneState) → is_state s states.Empty ≡ true → s ≡ states.Empty
state-empty states.Empty e = refl
state-empty states.ImplicitlyOpened e = absurd (cc)
state-empty states.ExplicitlyOpened e = absurd (cc)
state-empty states.Closed e = absurd (cc)
state-empty states.ReadOnly e = absurd (cc)
state-empty states.Full e = absurd (cc)
state-empty states.Offline e = absurd (cc)

-- a state whose usage is empty is Empty
pub usage-empty : (s : ZoneState) → usage_of s ≡ empty → s ≡ states.Empty
usage-empty states.Empty e = refl
usage-empty states.ImplicitlyOpened e = absurd (cc)
usage-empty states.ExplicitlyOpened e = absurd (cc)
usage-empty states.Closed e = absurd (cc)
usage-empty states.ReadOnly e = absurd (cc)
usage-empty states.Full e = absurd (cc)
usage-empty states.Offline e = absurd (cc)

-- ---- the zones that were reported Empty

-- a zone is marked as empty just where it was reported Empty
pub empties-at : (reported : List ReportedZone) (zones zone : ℕ) (r : ReportedZone) → zone < zones → slice_get reported zone ≡ Some r → get_or (empties reported zones) zone false ≡ is_state r.state states.Empty
empties-at reported zones zone r lt there =
    get_or-map-range_with_len (λ z. is_empty_reported (slice_get reported z)) 0 zones zone zone false lt (omega arith) ∙ ap is_empty_reported there

-- there is a mark for each zone
pub length-empties : (reported : List ReportedZone) (zones : ℕ) → length (empties reported zones) ≡ zones
length-empties reported zones = length-map-range_with_len (λ z. is_empty_reported (slice_get reported z)) 0 zones

-- a zone that is marked as empty is one of the zones
pub empties-past : (reported : List ReportedZone) (zones zone : ℕ) → get_or (empties reported zones) zone false ≡ true → zone < zones
empties-past reported zones zone is = by (cases_lt zone zones)
  where
    by : (zone < zones) ⊎ (zones ≤ zone) → zone < zones
    by (inl lt) = lt
    by (inr le) = let none = get_or_past (empties reported zones) zone false (omega (arith, le, length-empties reported zones)) in absurd (cc)

-- ---- the zones that are being filled

occupied-partly : (reported : List ReportedZone) (zones from : ℕ) (f : Filling) → IsLowestPartly reported from zones f → IsOccupied (empties reported zones) f
occupied-partly reported zones from f found = record {
  in_range = omega (arith, found.before, length-empties reported zones);
  not_empty = empties-at reported zones f.zone found.found found.before found.there ∙ active-not_empty found.found.state (partly-active found.found found.partly).0;
}

-- what holds of zones that were reported partly written holds of all that are being filled
pub all-partly : (P : Filling → Type 0) (reported : List ReportedZone) (zones : ℕ) (host next : Option Filling) → ((from : ℕ) (f : Filling) → IsLowestPartly reported from zones f → P f)
    → FindsPartly reported 0 zones host → FindsNext reported zones host next → AllByRecursion P (fillings (mounted_as (empties reported zones) host next))
all-partly P reported zones None None holds first second = tt
all-partly P reported zones None (Some n) holds first second = absurd (cc)
all-partly P reported zones (Some h) None holds first second = (holds 0 h first, tt)
all-partly P reported zones (Some h) (Some n) holds first second = (holds 0 h first, (holds (h.zone + 1) n second, tt))

-- the zones that are being filled differ, and none of them is marked as empty
pub apart-mounted : (reported : List ReportedZone) (zones : ℕ) (host next : Option Filling) → FindsPartly reported 0 zones host → FindsNext reported zones host next → AreApart (mounted_as (empties reported zones) host next)
apart-mounted reported zones None None first second = record { occupied = tt; differ = tt }
apart-mounted reported zones None (Some n) first second = absurd (cc)
apart-mounted reported zones (Some h) None first second = record { occupied = (occupied-partly reported zones 0 h first, tt); differ = tt }
apart-mounted reported zones (Some h) (Some n) first second = record {
  occupied = (occupied-partly reported zones 0 h first, (occupied-partly reported zones (h.zone + 1) n second, tt));
  differ = λ same. omega (arith, same, second.after);
}

-- a next zone comes only with a host zone, and has the greater number
pub order-mounted : (reported : List ReportedZone) (zones : ℕ) (host next : Option Filling) → FindsPartly reported 0 zones host → FindsNext reported zones host next → HostIsBelow host (option_map Next next)
order-mounted reported zones None None first second = tt
order-mounted reported zones None (Some n) first second = absurd (cc)
order-mounted reported zones (Some h) None first second = tt
order-mounted reported zones (Some h) (Some n) first second = omega (arith, second.after)

-- ---- counts

count-here : {X : Type 0} (p : X → Bool) (x : X) (xs : List X) → p x ≡ true → count_by p (x ∷ xs) ≡ suc (count_by p xs)
count-here p x xs is = let one : cond {A = ℕ} (p x) 1 0 ≡ 1 = rw is refl in omega (arith, count-cons p x xs, one)

count-more : {X : Type 0} (p : X → Bool) (x : X) (xs : List X) → count_by p xs ≤ count_by p (x ∷ xs)
count-more p x xs = omega (arith, count-cons p x xs)

-- a list with an element that passes a test counts at least one
pub count-one : {X : Type 0} (p : X → Bool) (xs : List X) (d : X) (i : ℕ) → i < length xs → p (get_or xs i d) ≡ true → 1 ≤ count_by p xs
count-one p [] d i lt is = absurd (omega (arith, lt))
count-one p (x ∷ xs) d zero lt is = omega (arith, count-here p x xs is)
count-one p (x ∷ xs) d (suc i) lt is = omega (arith, count-more p x xs, count-one p xs d i (omega (arith, lt)) is)

count-two : {X : Type 0} (p : X → Bool) (xs : List X) (d : X) (i j : ℕ) → i < j → j < length xs → p (get_or xs i d) ≡ true → p (get_or xs j d) ≡ true → 2 ≤ count_by p xs
count-two p [] d i j lt within is also = absurd (omega (arith, within))
count-two p (x ∷ xs) d i zero lt within is also = absurd (omega (arith, lt))
count-two p (x ∷ xs) d zero (suc j) lt within is also = omega (arith, count-here p x xs is, count-one p xs d j (omega (arith, within)) also)
count-two p (x ∷ xs) d (suc i) (suc j) lt within is also = omega (arith, count-more p x xs, count-two p xs d i j (omega (arith, lt)) (omega (arith, within)) is also)

-- a list with three elements that pass a test counts at least three
pub count-three : {X : Type 0} (p : X → Bool) (xs : List X) (d : X) (i j k : ℕ) → i < j → j < k → k < length xs → p (get_or xs i d) ≡ true → p (get_or xs j d) ≡ true → p (get_or xs k d) ≡ true → 3 ≤ count_by p xs
count-three p [] d i j k lt after within is also last = absurd (omega (arith, within))
count-three p (x ∷ xs) d i j zero lt after within is also last = absurd (omega (arith, after))
count-three p (x ∷ xs) d i zero (suc k) lt after within is also last = absurd (omega (arith, lt))
count-three p (x ∷ xs) d zero (suc j) (suc k) lt after within is also last = omega (arith, count-here p x xs is, count-two p xs d j k (omega (arith, after)) (omega (arith, within)) also last)
count-three p (x ∷ xs) d (suc i) (suc j) (suc k) lt after within is also last = omega (arith, count-more p x xs, count-three p xs d i j k (omega (arith, lt)) (omega (arith, after)) (omega (arith, within)) is also last)

-- ---- no other zone is partly written

-- no three zones are all reported partly written
abbrev pub AreFew : List ReportedZone → ℕ → Type 0
AreFew reported zones = (i j k : ℕ) → i < j → j < k → k < zones → is_partly_at reported i ≡ true → is_partly_at reported j ≡ true → is_partly_at reported k ≡ true → ⊥

partly-there : (reported : List ReportedZone) (from zones : ℕ) (f : Filling) → IsLowestPartly reported from zones f → is_partly_at reported f.zone ≡ true
partly-there reported from zones f found = rw found.there found.partly

cases-order : (a b : ℕ) → (a < b) ⊎ ((a ≡ b) ⊎ (b < a))
cases-order a b = by (cases_lt a b)
  where
    by : (a < b) ⊎ (b ≤ a) → (a < b) ⊎ ((a ≡ b) ⊎ (b < a))
    by (inl lt) = inl lt
    by (inr le) = elim (cases_lt b a) as (λ _. (a < b) ⊎ ((a ≡ b) ⊎ (b < a))) [ inl more ↦ inr (inr more) | inr ge ↦ inr (inl (omega (arith, le, ge))) ]

or-true : (b : Bool) → (b || true) ≡ true
or-true true = refl
or-true false = refl

-- if at most two zones were reported partly written, each of them is being filled
pub partly-filling : (reported : List ReportedZone) (zones zone : ℕ) (host next : Option Filling) → AreFew reported zones → FindsPartly reported 0 zones host → FindsNext reported zones host next → zone < zones → is_partly_at reported zone ≡ true
    → is_filling_at (mounted_as (empties reported zones) host next) zone ≡ true
partly-filling reported zones zone None next few first second lt is = let no = first zone (omega arith) lt in absurd (cc)
partly-filling reported zones zone (Some h) next few first second lt is = by (cases-order zone h.zone)
  where
    there : eqb h.zone zone ≡ true → is_filling_at (mounted_as (empties reported zones) (Some h) next) zone ≡ true
    there same = rw same refl

    behind : (next : Option Filling) → FindsPartly reported (h.zone + 1) zones next → h.zone < zone → is_filling_at (mounted_as (empties reported zones) (Some h) next) zone ≡ true
    behind None none after = let no = none zone (omega (arith, after)) lt in absurd (cc)
    behind (Some n) found after = at (cases-order zone n.zone)
      where
        at : (zone < n.zone) ⊎ ((zone ≡ n.zone) ⊎ (n.zone < zone)) → is_filling_at (mounted_as (empties reported zones) (Some h) (Some n)) zone ≡ true
        at (inl below) = let no = found.lowest zone (omega (arith, after)) below in absurd (cc)
        at (inr (inl same)) = rw (eq-eqb n.zone zone (sym same)) (or-true (eqb h.zone zone))
        at (inr (inr above)) = absurd (few h.zone n.zone zone (omega (arith, found.after)) above lt (partly-there reported 0 zones h first) (partly-there reported (h.zone + 1) zones n found) is)

    by : (zone < h.zone) ⊎ ((zone ≡ h.zone) ⊎ (h.zone < zone)) → is_filling_at (mounted_as (empties reported zones) (Some h) next) zone ≡ true
    by (inl below) = let no = first.lowest zone (omega arith) below in absurd (cc)
    by (inr (inl same)) = there (eq-eqb h.zone zone (sym same))
    by (inr (inr after)) = behind next second after
