-- Which zones are sealed, when roles change.
use Rattle.std.proofs.Common.{◌≡◌, ◌≢◌, ◌⊎◌, ℕ, zero, suc, ◌<◌, ◌≤◌, Bool, true, false, not, ◌||◌, ◌&&◌, ltb, eqb, List, [], ◌∷◌, ◌++◌, length, map, set, get_or, Option, Some, None, refl, sym, ap, ◌∙◌, inl, inr, arith}
use Rattle.std.specs.List.{list_any}
use Rattle.std.specs.Option.{IfSome, option_map}
use Rattle.std.proofs.lemmas.Bool.{cases_eq, cases_lt, eq-eqb, le-ltb, lt-ltb, ltb-true, ne_eqb, and_parts}
use Rattle.std.proofs.lemmas.List.{get_or-set_same, get_or-set_other, get_or_past, length-map, length-set}
use Rattle.zone_choice.specs.declared.roles.Filling.{Filling}
use Rattle.zone_choice.specs.declared.roles.Second.{Second}
use Rattle.zone_choice.specs.declared.roles.Second.TheVariants.{Next, Destination}
use Rattle.zone_choice.specs.Roles.{AreApart, AreMarked, Differ, IsLowestIn, IsOccupied, RolesView, filling_of, is_at, is_empty_at, is_filling_at, is_sealed_at, filling_list, marked, mounted_as, ended, sealed, taken, unmarked, with_destination, with_fillings}
use Rattle.zone_choice.proofs.RolesLaws.{KeepsZone, filling_at-with, occupied-set, roles_with, second_list}

-- ---- sealed zones

no_and : (b : Bool) → (b && false) ≡ false
no_and true = refl
no_and false = refl

denied : (b : Bool) → not b ≡ true → b ≡ false
denied true e = absurd (cc)
denied false e = refl

-- a sealed zone is one of the zones
pub record IsSealedZone (roles : RolesView) (zone : ℕ) : Type 0 where
  pub in_range : zone < length roles.empty
  pub not_empty : is_empty_at roles zone ≡ false
  pub not_filling : is_filling_at roles zone ≡ false

-- what it means that a zone is sealed
pub sealed-parts : (roles : RolesView) (zone : ℕ) → is_sealed_at roles zone ≡ true → IsSealedZone roles zone
sealed-parts roles zone is =
    let here = and_parts (ltb zone (length roles.empty)) (not (is_empty_at roles zone) && not (is_filling_at roles zone)) is in
    let rest = and_parts (not (is_empty_at roles zone)) (not (is_filling_at roles zone)) here.1 in
    record { in_range = ltb-true zone (length roles.empty) here.0; not_empty = denied (is_empty_at roles zone) rest.0; not_filling = denied (is_filling_at roles zone) rest.1 }

-- a zone that is neither empty nor being filled is sealed
pub sealed-made : (roles : RolesView) (zone : ℕ) → zone < length roles.empty → is_empty_at roles zone ≡ false → is_filling_at roles zone ≡ false → is_sealed_at roles zone ≡ true
sealed-made roles zone lt not_empty not_filling = rw (lt-ltb zone (length roles.empty) lt, not_empty, not_filling) refl

-- ---- marks

-- the role of one zone changed, and its mark
marked-but : (old new : RolesView) (marks marks' : List Bool) (zone : ℕ) → AreMarked old marks → length marks' ≡ length marks → length new.empty ≡ length old.empty → get_or marks' zone false ≡ is_sealed_at new zone
    → ((k : ℕ) → k ≢ zone → get_or marks' k false ≡ get_or marks k false) → ((k : ℕ) → k ≢ zone → is_empty_at new k ≡ is_empty_at old k) → ((k : ℕ) → k ≢ zone → is_filling_at new k ≡ is_filling_at old k) → AreMarked new marks'
marked-but old new marks marks' zone was long count here marks-are empty filling = record {
  long = long ∙ was.long ∙ sym count;
  each = λ k. elim (cases_eq k zone) as (λ _. get_or marks' k false ≡ is_sealed_at new k) [
    | inl same ↦ rw same here
    | inr other ↦ marks-are k other ∙ was.each k ∙ rw (count, empty k other, filling k other) refl
  ];
}

-- no zone changed between them
pub marked-same : (old new : RolesView) (marks : List Bool) → AreMarked old marks → new.empty ≡ old.empty → ((k : ℕ) → is_filling_at new k ≡ is_filling_at old k) → AreMarked new marks
marked-same old new marks was empty filling = record {
  long = was.long ∙ ap length (sym empty);
  each = λ k. was.each k ∙ rw (empty, filling k) refl;
}

-- ---- the host zone is sealed

second-other : (second : Option Second) (host : Filling) → Differ (Some host) second → list_any (is_at host.zone) (second_list second) ≡ false
second-other None host differ = refl
second-other (Some s) host differ = rw (ne_eqb (filling_of s).zone host.zone (λ e. differ (sym e))) refl

-- a mark more, for the host zone that is sealed
pub marked-seal : (empties : List Bool) (host : Option Filling) (second : Option Second) (marks : List Bool) → AreApart (roles_with empties host second) → AreMarked (roles_with empties host second) marks
    → AreMarked (roles_with empties None second) (marked marks host)
marked-seal empties None second marks apart was = was
marked-seal empties (Some h) second marks apart was =
    let lt : h.zone < length marks = omega (arith, apart.occupied.0.in_range, was.long) in
    marked-but (roles_with empties (Some h) second) (roles_with empties None second) marks (set marks h.zone true) h.zone was (length-set marks h.zone true) refl
    (get_or-set_same marks h.zone true false lt ∙ sym (sealed-made (roles_with empties None second) h.zone apart.occupied.0.in_range apart.occupied.0.not_empty (second-other second h apart.differ)))
    (λ k other. get_or-set_other marks h.zone k true false other) (λ k other. refl) (λ k other. rw (ne_eqb h.zone k (λ e. other (sym e))) refl)

-- the host zone is one of the zones
pub host-marked : (empties : List Bool) (host : Option Filling) (second : Option Second) (marks : List Bool) → AreApart (roles_with empties host second) → AreMarked (roles_with empties host second) marks
    → IfSome host (λ filling. filling.zone < length marks)
host-marked empties None second marks apart was = tt
host-marked empties (Some h) second marks apart was = omega (arith, apart.occupied.0.in_range, was.long)

-- ---- an empty zone becomes the destination

-- the lowest empty zone becomes the destination
pub apart-destination : (empties : List Bool) (host : Option Filling) (zone : ℕ) → AreApart (roles_with empties host None) → IsLowestIn empties zone → AreApart (with_destination (roles_with empties host None) zone)
apart-destination empties host zone apart found = by host apart
  where
    occupied : IsOccupied (set empties zone false) (record { zone = zone; written = 0; may_open = false })
    occupied = record { in_range = omega (arith, found.in_range, length-set empties zone false); not_empty = get_or-set_same empties zone false false found.in_range }

    by : (o : Option Filling) → AreApart (roles_with empties o None) → AreApart (with_destination (roles_with empties o None) zone)
    by None apart = record { occupied = (occupied, tt); differ = tt }
    by (Some h) apart = record {
      occupied = (occupied-set empties zone h found.in_range found.is_empty apart.occupied.0, (occupied, tt));
      differ = λ e. (let no = apart.occupied.0.not_empty in let yes : get_or empties h.zone false ≡ true = rw e found.is_empty in absurd (cc));
    }

-- ---- a clean has ended

-- the end of a clean leaves the host zone and the second one apart
pub differ-ended : (host : Option Filling) (second : Option Second) → Differ host second → Differ host (option_map ended second)
differ-ended None None h = tt
differ-ended None (Some s) h = tt
differ-ended (Some f) None h = tt
differ-ended (Some f) (Some (Next s)) h = h
differ-ended (Some f) (Some (Destination s)) h = h

-- ---- a sealed zone stays so

-- where the zones that are being filled change, except for their numbers
pub sealed-with : (change : Filling → Filling) → KeepsZone change → (roles : RolesView) (zone : ℕ) → is_sealed_at roles zone ≡ true → is_sealed_at (with_fillings change roles) zone ≡ true
sealed-with change keeps roles zone is =
    let was = sealed-parts roles zone is in
    sealed-made (with_fillings change roles) zone was.in_range was.not_empty (filling_at-with change keeps roles zone ∙ was.not_filling)

-- where the host zone is sealed
pub sealed-seal : (roles : RolesView) (zone : ℕ) → is_sealed_at roles zone ≡ true → is_sealed_at (sealed roles) zone ≡ true
sealed-seal roles zone is =
    let was = sealed-parts roles zone is in
    sealed-made (sealed roles) zone was.in_range was.not_empty (out roles.host was.not_filling)
  where
    rest : (b : Bool) → (b || list_any (is_at zone) (second_list roles.second)) ≡ false → list_any (is_at zone) (second_list roles.second) ≡ false
    rest true e = absurd (cc)
    rest false e = e

    out : (host : Option Filling) → list_any (is_at zone) (filling_list host ++ second_list roles.second) ≡ false → list_any (is_at zone) (second_list roles.second) ≡ false
    out None e = e
    out (Some h) e = rest (eqb h.zone zone) e

-- where an empty zone becomes the host zone
pub sealed-take : (roles : RolesView) (zone taken_zone : ℕ) → roles.host ≡ None → is_empty_at roles taken_zone ≡ true → is_sealed_at roles zone ≡ true → is_sealed_at (taken roles taken_zone) zone ≡ true
sealed-take roles zone taken_zone none empty is =
    let was = sealed-parts roles zone is in
    let ne : zone ≢ taken_zone = λ same. (let yes = rw (← same) at empty in let no = was.not_empty in absurd (cc)) in
    let other : eqb taken_zone zone ≡ false = ne_eqb taken_zone zone (λ same. ne (sym same)) in
    let here : list_any (is_at zone) (filling_list None ++ second_list roles.second) ≡ false = rw none at was.not_filling in
    sealed-made (taken roles taken_zone) zone (omega (arith, was.in_range, length-set roles.empty taken_zone false)) (get_or-set_other roles.empty taken_zone zone false false ne ∙ was.not_empty) (ap (λ (b : Bool). b || list_any (is_at zone) (second_list roles.second)) other ∙ here)

-- ---- after a mount

not-map : (empties : List Bool) (k : ℕ) → get_or (map not empties) k false ≡ (ltb k (length empties) && not (get_or empties k false))
not-map [] k = sym (ap (λ (b : Bool). b && true) (le-ltb k 0 (omega arith)))
not-map (e ∷ es) zero = sym (ap (λ (b : Bool). b && not e) (lt-ltb 0 (length (e ∷ es)) (omega arith)))
not-map (e ∷ es) (suc k) = not-map es k ∙ ap (λ (b : Bool). b && not (get_or es k false)) (shift (cases_lt k (length es)))
  where
    shift : (k < length es) ⊎ (length es ≤ k) → ltb k (length es) ≡ ltb (suc k) (length (e ∷ es))
    shift (inl lt) = lt-ltb k (length es) lt ∙ sym (lt-ltb (suc k) (length (e ∷ es)) (omega (arith, lt)))
    shift (inr le) = le-ltb k (length es) le ∙ sym (le-ltb (suc k) (length (e ∷ es)) (omega (arith, le)))

unmark-at : (marks : List Bool) (f : Filling) (k : ℕ) → get_or (set marks f.zone false) k false ≡ (get_or marks k false && not (eqb f.zone k))
unmark-at marks f k = elim (cases_eq f.zone k) as (λ _. get_or (set marks f.zone false) k false ≡ (get_or marks k false && not (eqb f.zone k))) [
  | inl same ↦ rw (same, eq-eqb k k refl) (here (cases_lt k (length marks)) ∙ sym (no_and (get_or marks k false)))
  | inr other ↦ rw (ne_eqb f.zone k other) (get_or-set_other marks f.zone k false false (λ e. other (sym e)) ∙ sym (and_yes (get_or marks k false)))
]
  where
    and_yes : (b : Bool) → (b && true) ≡ b
    and_yes true = refl
    and_yes false = refl

    here : (k < length marks) ⊎ (length marks ≤ k) → get_or (set marks k false) k false ≡ false
    here (inl lt) = get_or-set_same marks k false false lt
    here (inr le) = get_or_past (set marks k false) k false (omega (arith, le, length-set marks k false))

-- all zones are sealed but the empty ones and those that are being filled
pub marked-mounted : (empties : List Bool) (host next : Option Filling) → AreMarked (mounted_as empties host next) (unmarked (unmarked (map not empties) host) next)
marked-mounted empties host next = record { long = long host next; each = λ k. each host next k }
  where
    long : (host next : Option Filling) → length (unmarked (unmarked (map not empties) host) next) ≡ length empties
    long None None = length-map empties not
    long None (Some n) = length-set (map not empties) n.zone false ∙ length-map empties not
    long (Some h) None = length-set (map not empties) h.zone false ∙ length-map empties not
    long (Some h) (Some n) = length-set (set (map not empties) h.zone false) n.zone false ∙ length-set (map not empties) h.zone false ∙ length-map empties not

    none : (a b : Bool) → (a && b) ≡ (a && (b && true))
    none true true = refl
    none true false = refl
    none false b = refl

    one : (a b c : Bool) → ((a && b) && not c) ≡ (a && (b && not (c || false)))
    one true true true = refl
    one true true false = refl
    one true false c = refl
    one false b c = refl

    two : (a b c d : Bool) → (((a && b) && not c) && not d) ≡ (a && (b && not (c || (d || false))))
    two true true true d = refl
    two true true false true = refl
    two true true false false = refl
    two true false c d = refl
    two false b c d = refl

    each : (host next : Option Filling) (k : ℕ) → get_or (unmarked (unmarked (map not empties) host) next) k false ≡ is_sealed_at (mounted_as empties host next) k
    each None None k = not-map empties k ∙ none (ltb k (length empties)) (not (get_or empties k false))
    each None (Some n) k = unmark-at (map not empties) n k ∙ ap (λ (b : Bool). b && not (eqb n.zone k)) (not-map empties k) ∙ one (ltb k (length empties)) (not (get_or empties k false)) (eqb n.zone k)
    each (Some h) None k = unmark-at (map not empties) h k ∙ ap (λ (b : Bool). b && not (eqb h.zone k)) (not-map empties k) ∙ one (ltb k (length empties)) (not (get_or empties k false)) (eqb h.zone k)
    each (Some h) (Some n) k =
        unmark-at (set (map not empties) h.zone false) n k
        ∙ ap (λ (b : Bool). b && not (eqb n.zone k)) (unmark-at (map not empties) h k ∙ ap (λ (b : Bool). b && not (eqb h.zone k)) (not-map empties k))
        ∙ two (ltb k (length empties)) (not (get_or empties k false)) (eqb h.zone k) (eqb n.zone k)
