-- Where all zones but one are sealed, the one with the fewest live records can be cleaned.
use Rattle.std.proofs.Common.{◌≡◌, ℕ, zero, suc, ◌+◌, ◌-◌, ◌*◌, ◌<◌, ◌≤◌, Bool, true, false, not, cond, eqb, List, [], ◌∷◌, ◌++◌, length, get_or, Option, Some, None, refl, ap, subst, ◌∙◌, inl, inr, arith}
use Rattle.std.specs.List.{count_by, list_any, range_with_len, sum_by}
use Rattle.std.proofs.lemmas.Bool.{cases_eq, cases_lt, eq-eqb, ne_eqb}
use Rattle.std.proofs.lemmas.List.{length-map}
use Rattle.std.proofs.lemmas.List.Sums.{sum_by-cons, sum_by-le-sum_by}
use Rattle.std.proofs.lemmas.Nat.{mul-le}
use Rattle.std.proofs.Math.Nat.{add-mul, mul_comm}
use Rattle.drive_port.specs.Contents.{content_of}
use Rattle.logical_map.specs.Live.{is_zone, lies_in, live, zone_of}
use Rattle.logical_map.specs.declared.place.Place.{Place}
use Rattle.zone_choice.specs.declared.roles.Filling.{Filling}
use Rattle.zone_choice.specs.Agreement.{Agrees, MountedView}
use Rattle.drive_array.specs.Reserve.{batch_most}
use Rattle.zone_choice.specs.Roles.{RolesView, is_at, is_filling_at, is_sealed_at, filling_list}
use Rattle.zone_choice.specs.declared.unreadable.Unreadable.{Unreadable}
use Rattle.zone_choice.specs.Tables.{TablesView, can_be_cleaned, is_lost_in, size_of}
use Rattle.zone_choice.specs.Victim.{HasSealed, LeastCanMove}
use Rattle.zone_choice.proofs.MarkLaws.{sealed-made}
use Rattle.drive_array.proofs.ReserveLaws.{fill-mono, positive-most}
use Rattle.zone_choice.proofs.RolesLaws.{second_list}

-- ---- all live records together

sum_by-plus : {X : Type 0} (f g : X → ℕ) (xs : List X) → sum_by (λ x. f x + g x) xs ≡ sum_by f xs + sum_by g xs
sum_by-plus f g [] = refl
sum_by-plus f g (x ∷ xs) = omega (arith, sum_by-cons (λ y. f y + g y) x xs, sum_by-cons f x xs, sum_by-cons g x xs, sum_by-plus f g xs)

sum_by-zero : {X : Type 0} (xs : List X) → sum_by (λ x. 0) xs ≡ 0
sum_by-zero [] = refl
sum_by-zero (x ∷ xs) = omega (arith, sum_by-cons (λ x. 0) x xs, sum_by-zero xs)

-- a place is in one zone at most
here-range : (zone a n : ℕ) → (sum_by (λ z. cond (eqb zone z) 1 0) (range_with_len a n) ≤ 1) × (zone < a → sum_by (λ z. cond (eqb zone z) 1 0) (range_with_len a n) ≡ 0)
here-range zone a zero = (omega arith, λ _. refl)
here-range zone a (suc n) =
    let f : ℕ → ℕ = λ z. cond (eqb zone z) 1 0 in
    let rest = here-range zone (a + 1) n in
    let step : sum_by f (a ∷ range_with_len (a + 1) n) ≡ f a + sum_by f (range_with_len (a + 1) n) = sum_by-cons f a (range_with_len (a + 1) n) in
    elim (cases_eq zone a) as (λ _. (sum_by f (a ∷ range_with_len (a + 1) n) ≤ 1) × (zone < a → sum_by f (a ∷ range_with_len (a + 1) n) ≡ 0)) [
      | inl e ↦ (let last = rest.1 (omega arith) in let one : f a ≡ 1 = ap (λ b. cond b 1 0) (eq-eqb zone a e) in omega (arith, step, last, one), λ h. absurd (omega arith))
      | inr n ↦ (let none : f a ≡ 0 = ap (λ b. cond b 1 0) (ne_eqb zone a n) in omega (arith, step, rest.0, none), λ h. let none : f a ≡ 0 = ap (λ b. cond b 1 0) (ne_eqb zone a n) in omega (arith, step, rest.1 (omega arith), none))
    ]

place-range : (here : Option ℕ) (zones : ℕ) → sum_by (λ z. cond (is_zone here z) 1 0) (range_with_len 0 zones) ≤ 1
place-range None zones = omega (arith, sum_by-zero (range_with_len 0 zones))
place-range (Some zone) zones = (here-range zone 0 zones).0

abbrev live_in : ℕ → List Place → ℕ → ℕ
live_in size all zone = count_by (lies_in size zone) all

-- they are no more than the blocks
live-sum : (size zones : ℕ) (all : List Place) → sum_by (live_in size all) (range_with_len 0 zones) ≤ length all
live-sum size zones [] = omega (arith, sum_by-zero (range_with_len 0 zones))
live-sum size zones (p ∷ ps) =
    let r : List ℕ = range_with_len 0 zones in
    let one : ℕ → ℕ = λ z. cond (lies_in size z p) 1 0 in
    let split : sum_by (live_in size (p ∷ ps)) r ≤ sum_by (λ z. one z + live_in size ps z) r = sum_by-le-sum_by (live_in size (p ∷ ps)) (λ z. one z + live_in size ps z) r (λ z. omega (arith, sum_by-cons (λ q. cond (lies_in size z q) 1 0) p ps)) in
    omega (arith, split, sum_by-plus one (live_in size ps) r, place-range (zone_of size p) zones, live-sum size zones ps)

-- ---- as many in each zone that is not empty

abbrev marked_count : List Bool → ℕ
marked_count marks = count_by (λ b. b) marks

least-times : (m a : ℕ) (f : ℕ → ℕ) (marks : List Bool) → ((k : ℕ) → k < length marks → get_or marks k false ≡ false → m ≤ f (a + k)) → length marks * m ≤ sum_by f (range_with_len a (length marks)) + marked_count marks * m
least-times m a f [] least = omega arith
least-times m a f (b ∷ marks) least = by b (least 0 (omega arith)) (least-times m (a + 1) f marks (λ k lt not. subst (λ (z : ℕ). m ≤ f z) (omega arith) (least (suc k) (omega arith) not)))
  where
    by : (b : Bool) → (b ≡ false → m ≤ f (a + 0)) → length marks * m ≤ sum_by f (range_with_len (a + 1) (length marks)) + marked_count marks * m
        → length (b ∷ marks) * m ≤ sum_by f (range_with_len a (length (b ∷ marks))) + marked_count (b ∷ marks) * m
    by true here rest =
        omega (arith, rest, add-mul 1 (length marks) m, sum_by-cons f a (range_with_len (a + 1) (length marks)), ap (λ (n : ℕ). n * m) (sum_by-cons (λ (b : Bool). cond {A = ℕ} b 1 0) true marks), add-mul 1 (marked_count marks) m)
    by false here rest =
        let first : m ≤ f a = subst (λ (z : ℕ). m ≤ f z) (omega arith) (here refl) in
        omega (arith, rest, first, add-mul 1 (length marks) m, sum_by-cons f a (range_with_len (a + 1) (length marks)), ap (λ (n : ℕ). n * m) (sum_by-cons (λ (b : Bool). cond {A = ℕ} b 1 0) false marks))

-- p zones have m each, and q each were enough for all
few : (m q p total : ℕ) → 1 ≤ p → p * m ≤ total → total ≤ q * p → m ≤ q
few m q p total some all enough = elim (cases_lt q m) as (λ _. m ≤ q) [
  | inl more ↦ absurd (omega (arith, all, enough, mul-le (q + 1) p m p (omega arith) (omega arith), mul_comm p m, add-mul q 1 p))
  | inr le ↦ le
]

some-unmarked : (marks : List Bool) → marked_count marks < length marks → (k : ℕ) × (k < length marks) × (get_or marks k false ≡ false)
some-unmarked [] less = absurd (omega arith)
some-unmarked (false ∷ marks) less = (0, omega arith, refl)
some-unmarked (true ∷ marks) less =
    let rest = some-unmarked marks (omega (arith, less, sum_by-cons (λ (b : Bool). cond {A = ℕ} b 1 0) true marks)) in
    (suc rest.0, omega (arith, rest.1), rest.2)

-- ---- a disk with one empty zone, and all others sealed

none-filled : (roles : RolesView) → roles.host ≡ None → roles.second ≡ None → (k : ℕ) → is_filling_at roles k ≡ false
none-filled roles host second k = ap (list_any (is_at k)) (ap (λ (h : Option Filling). filling_list h ++ second_list roles.second) host ∙ ap second_list second)

zones-counted : (disk : MountedView) → Agrees disk → length disk.tables.roles.empty ≡ disk.drive.geometry.zones
zones-counted disk agrees = omega (arith, agrees.roles.count, agrees.lawful.count, length-map disk.drive.zones content_of)

-- where all data could be read, a sealed zone can be cleaned
pub can-clean : (tables : TablesView) (zone : ℕ) → tables.unreadable ≡ [] → is_sealed_at tables.roles zone ≡ true → can_be_cleaned tables zone ≡ true
can-clean tables zone none is = rw is (ap (λ (lost : List Unreadable). not (list_any (is_lost_in tables.map zone) lost)) none)

-- while one zone is empty and the others are sealed, there is one to clean
pub has_sealed : HasSealed
has_sealed disk in_use =
    let roles = disk.tables.roles in
    let found = some-unmarked roles.empty (omega (arith, in_use.empty, zones-counted disk in_use.agrees, in_use.agrees.geometry.zones)) in
    (found.0, can-clean disk.tables found.0 in_use.readable (sealed-made roles found.0 found.1 found.2 (none-filled roles in_use.host in_use.second found.0)))

-- and its live records fit a zone
pub least_can_move : LeastCanMove
least_can_move disk zone in_use is =
    let g = disk.drive.geometry in
    let roles = disk.tables.roles in
    let map = disk.tables.map in
    let m = live map zone in
    let p = g.zones - 1 in
    let reserve = in_use.agrees.reserve in
    let quota = reserve.2 in
    let long = zones-counted disk in_use.agrees in
    let each : length roles.empty * m ≤ sum_by (live_in map.zone_size map.places) (range_with_len 0 (length roles.empty)) + marked_count roles.empty * m =
    least-times m 0 (live_in map.zone_size map.places) roles.empty (λ k lt not. subst (λ (z : ℕ). m ≤ live map z) (omega arith) (is.least k (can-clean disk.tables k in_use.readable (sealed-made roles k lt not (none-filled roles in_use.host in_use.second k))))) in
    let total = live-sum map.zone_size (length roles.empty) map.places in
    let zones : length roles.empty ≡ p + 1 = omega (arith, long, in_use.agrees.geometry.zones) in
    let split : length roles.empty * m ≡ p * m + 1 * m = ap (λ (n : ℕ). n * m) zones ∙ add-mul p 1 m in
    let one : marked_count roles.empty * m ≡ 1 * m = ap (λ (n : ℕ). n * m) in_use.empty in
    let less : m ≤ quota.0 = few m quota.0 p (size_of disk.tables) (omega (arith, in_use.agrees.geometry.zones)) (omega (arith, each, split, one, total)) quota.2 in
    omega (arith, fill-mono m quota.0 (batch_most g) (omega (arith, positive-most g in_use.agrees.geometry)) less, quota.1.fits)
