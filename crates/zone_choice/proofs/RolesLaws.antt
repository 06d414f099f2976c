-- Zones that are being filled.
use Rattle.std.proofs.Common.{◌≡◌, ◌≢◌, ℕ, ◌+◌, ◌<◌, ◌≤◌, Bool, true, false, not, ◌&&◌, ◌||◌, cond, eqb, List, [], ◌∷◌, ◌++◌, map, length, set, get_or, Option, Some, None, refl, sym, ap, subst, ◌∙◌, arith}
use Rattle.std.specs.List.{AllByRecursion, find, list_any}
use Rattle.std.specs.Option.{option_map}
use Rattle.std.proofs.lemmas.Bool.{eqb-true}
use Rattle.std.proofs.lemmas.List.{get_or-set_same, get_or-set_other, length-set}
use Rattle.zone_choice.specs.declared.roles.Filling.{Filling}
use Rattle.zone_choice.specs.declared.roles.Second.{Second}
use Rattle.zone_choice.specs.declared.roles.Second.TheVariants.{Next, Destination}
use Rattle.zone_choice.specs.Roles.{AreApart, Differ, IsOccupied, RolesView, closed, closed_beside, closed_unless, filling_of, fillings, grown, is_at, is_filling_at, is_open_beside, filling_list, open_beside, sealed, second_with, taken, with_fillings}
use Rattle.drive_array.proofs.AllLaws.{all-parts, all-weaker}
use Rattle.zone_states.proofs.ListLaws.{all-map}

-- ---- the zones that are being filled

-- roles by their parts
abbrev pub roles_with : List Bool → Option Filling → Option Second → RolesView
roles_with empties host second = record { empty = empties; host = host; second = second }

-- the second zone as a list
abbrev pub second_list : Option Second → List Filling
second_list second = filling_list (option_map filling_of second)

fillings_few : (host : Option Filling) (second : Option Second) → length (filling_list host ++ second_list second) ≤ 2
fillings_few None None = omega arith
fillings_few None (Some second) = omega arith
fillings_few (Some host) None = omega arith
fillings_few (Some host) (Some second) = omega arith

-- two zones are being filled at most
pub few-fillings : (roles : RolesView) → length (fillings roles) ≤ 2
few-fillings roles = fillings_few roles.host roles.second

-- what holds of each zone that is being filled holds of one of them
pub all-filling : (P : ℕ → Type 0) (fs : List Filling) (zone : ℕ) → AllByRecursion (λ f. P f.zone) fs → list_any (is_at zone) fs ≡ true → P zone
all-filling P [] zone all some = absurd (cc)
all-filling P (f ∷ fs) zone all some = at (eqb f.zone zone) refl some (all-filling P fs zone all.1)
  where
    at : (b : Bool) → eqb f.zone zone ≡ b → (b || list_any (is_at zone) fs) ≡ true → (list_any (is_at zone) fs ≡ true → P zone) → P zone
    at true e h rest = subst P (eqb-true f.zone zone e) all.0
    at false e h rest = rest h

-- a zone that is being filled is not empty
pub filling-occupied : (roles : RolesView) (zone : ℕ) → AreApart roles → is_filling_at roles zone ≡ true → (zone < length roles.empty) × (get_or roles.empty zone false ≡ false)
filling-occupied roles zone apart some =
    all-filling (λ z. (z < length roles.empty) × (get_or roles.empty z false ≡ false)) (fillings roles) zone
    (all-weaker (IsOccupied roles.empty) (λ f. (f.zone < length roles.empty) × (get_or roles.empty f.zone false ≡ false)) (fillings roles) (λ f o. (o.in_range, o.not_empty)) apart.occupied) some

-- ---- they are changed, but not which zones they are

-- a change of what is known of a zone, and not of which zone it is
abbrev pub KeepsZone : (Filling → Filling) → Type 0
KeepsZone change = (f : Filling) → (change f).zone ≡ f.zone

fillings_with : (change : Filling → Filling) (host : Option Filling) (second : Option Second) → filling_list (option_map change host) ++ second_list (option_map (second_with change) second) ≡ map change (filling_list host ++ second_list second)
fillings_with change None None = refl
fillings_with change None (Some (Next s)) = refl
fillings_with change None (Some (Destination s)) = refl
fillings_with change (Some h) None = refl
fillings_with change (Some h) (Some (Next s)) = refl
fillings_with change (Some h) (Some (Destination s)) = refl

-- the zones being filled are changed one by one
pub fillings-with : (change : Filling → Filling) (roles : RolesView) → fillings (with_fillings change roles) ≡ map change (fillings roles)
fillings-with change roles = fillings_with change roles.host roles.second

any-with : (change : Filling → Filling) → KeepsZone change → (k : ℕ) (fs : List Filling) → list_any (is_at k) (map change fs) ≡ list_any (is_at k) fs
any-with change keeps k [] = refl
any-with change keeps k (f ∷ fs) = rw (any-with change keeps k fs) (ap (λ (z : ℕ). eqb z k || list_any (is_at k) fs) (keeps f))

-- the same zones are being filled after it
pub filling_at-with : (change : Filling → Filling) → KeepsZone change → (roles : RolesView) (k : ℕ) → is_filling_at (with_fillings change roles) k ≡ is_filling_at roles k
filling_at-with change keeps roles k = ap (list_any (is_at k)) (fillings-with change roles) ∙ any-with change keeps k (fillings roles)

differ-with : (change : Filling → Filling) → KeepsZone change → (host : Option Filling) (second : Option Second) → Differ host second → Differ (option_map change host) (option_map (second_with change) second)
differ-with change keeps None None h = tt
differ-with change keeps None (Some s) h = tt
differ-with change keeps (Some f) None h = tt
differ-with change keeps (Some f) (Some (Next s)) h = λ e. h (sym (keeps f) ∙ e ∙ keeps s)
differ-with change keeps (Some f) (Some (Destination s)) h = λ e. h (sym (keeps f) ∙ e ∙ keeps s)

-- what depends only on their zones holds of all of them
pub all-with : (P : ℕ → Type 0) (change : Filling → Filling) → KeepsZone change → (roles : RolesView) → AllByRecursion (λ f. P f.zone) (fillings roles) → AllByRecursion (λ f. P f.zone) (fillings (with_fillings change roles))
all-with P change keeps roles all =
    subst (AllByRecursion (λ f. P f.zone)) (sym (fillings-with change roles))
    (all-map (λ f. P f.zone) change (fillings roles) (all-weaker (λ f. P f.zone) (λ f. P (change f).zone) (fillings roles) (λ f is. subst P (sym (keeps f)) is) all))

-- and stay apart from the empty ones
pub apart-with : (change : Filling → Filling) → KeepsZone change → (roles : RolesView) → AreApart roles → AreApart (with_fillings change roles)
apart-with change keeps roles apart = record {
  occupied = subst (AllByRecursion (IsOccupied roles.empty)) (sym (fillings-with change roles))
      (all-map (IsOccupied roles.empty) change (fillings roles) (all-weaker (IsOccupied roles.empty) (λ f. IsOccupied roles.empty (change f)) (fillings roles) (λ f o. record { in_range = rw keeps o.in_range; not_empty = rw keeps o.not_empty }) apart.occupied));
  differ = differ-with change keeps roles.host roles.second apart.differ;
}

-- ---- more is written

-- more blocks in a zone are such a change
pub grown-zone : (zone blocks : ℕ) → KeepsZone (grown zone blocks)
grown-zone zone blocks f = at (eqb f.zone zone)
  where
    at : (b : Bool) → (cond b (record { zone = f.zone; written = f.written + blocks; may_open = true }) f).zone ≡ f.zone
    at true = refl
    at false = refl

-- ---- zones are closed

-- and so is a close
pub closed-zone : (zone : ℕ) → KeepsZone (closed_unless zone)
closed-zone zone f = at (eqb f.zone zone)
  where
    at : (b : Bool) → (cond b f (closed f)).zone ≡ f.zone
    at true = refl
    at false = refl

closed-twice : (zone : ℕ) (f : Filling) → closed_unless zone (closed_unless zone f) ≡ closed_unless zone f
closed-twice zone f = at (eqb f.zone zone) refl
  where
    at : (b : Bool) → eqb f.zone zone ≡ b → closed_unless zone (cond b f (closed f)) ≡ cond b f (closed f)
    at true e = rw e refl
    at false e = rw e refl

option-closed_twice : (zone : ℕ) (host : Option Filling) → option_map (closed_unless zone) (option_map (closed_unless zone) host) ≡ option_map (closed_unless zone) host
option-closed_twice zone None = refl
option-closed_twice zone (Some f) = ap (λ (g : Filling). Some g) (closed-twice zone f)

second-closed_twice : (zone : ℕ) (second : Option Second) → option_map (second_with (closed_unless zone)) (option_map (second_with (closed_unless zone)) second) ≡ option_map (second_with (closed_unless zone)) second
second-closed_twice zone None = refl
second-closed_twice zone (Some (Next f)) = ap (λ (g : Filling). Some (Next g)) (closed-twice zone f)
second-closed_twice zone (Some (Destination f)) = ap (λ (g : Filling). Some (Destination g)) (closed-twice zone f)

-- closing them again changes nothing
pub closed_beside-twice : (roles : RolesView) (zone : ℕ) → closed_beside (closed_beside roles zone) zone ≡ closed_beside roles zone
closed_beside-twice roles zone =
    ap (λ (h : Option Filling). roles_with roles.empty h (option_map (second_with (closed_unless zone)) (option_map (second_with (closed_unless zone)) roles.second))) (option-closed_twice zone roles.host)
    ∙ ap (λ (s : Option Second). roles_with roles.empty (option_map (closed_unless zone) roles.host) s) (second-closed_twice zone roles.second)

-- if none of them may be open, closing them changes nothing
closed-same : (zone : ℕ) (f : Filling) → is_open_beside zone f ≡ false → closed_unless zone f ≡ f
closed-same zone f shut = at (eqb f.zone zone) shut
  where
    at : (b : Bool) → (not b && f.may_open) ≡ false → cond b f (closed f) ≡ f
    at true e = refl
    at false e = ap (λ (may : Bool). record { zone = f.zone; written = f.written; may_open = may }) (sym e)

find-none : (test : Filling → Bool) (f : Filling) (fs : List Filling) → find test (f ∷ fs) ≡ None → (test f ≡ false) × (find test fs ≡ None)
find-none test f fs none = at (test f) none
  where
    at : (b : Bool) → cond b (Some f) (find test fs) ≡ None → (b ≡ false) × (find test fs ≡ None)
    at true e = absurd (cc)
    at false e = (refl, e)

second-same : (zone : ℕ) (second : Option Second) → find (is_open_beside zone) (second_list second) ≡ None → option_map (second_with (closed_unless zone)) second ≡ second
second-same zone None none = refl
second-same zone (Some (Next f)) none = ap (λ (g : Filling). Some (Next g)) (closed-same zone f (find-none (is_open_beside zone) f [] none).0)
second-same zone (Some (Destination f)) none = ap (λ (g : Filling). Some (Destination g)) (closed-same zone f (find-none (is_open_beside zone) f [] none).0)

roles-same : (zone : ℕ) (empties : List Bool) (host : Option Filling) (second : Option Second) → find (is_open_beside zone) (filling_list host ++ second_list second) ≡ None → closed_beside (roles_with empties host second) zone ≡ roles_with empties host second
roles-same zone empties None second none = ap (λ (s : Option Second). roles_with empties None s) (second-same zone second none)
roles-same zone empties (Some f) second none =
    let both = find-none (is_open_beside zone) f (second_list second) none in
    ap (λ (g : Filling). roles_with empties (Some g) (option_map (second_with (closed_unless zone)) second)) (closed-same zone f both.0) ∙ ap (λ (s : Option Second). roles_with empties (Some f) s) (second-same zone second both.1)

-- if no other zone is open, nothing is closed
pub closed_beside-none : (roles : RolesView) (zone : ℕ) → open_beside roles zone ≡ None → closed_beside roles zone ≡ roles
closed_beside-none roles zone none = roles-same zone roles.empty roles.host roles.second none

closed-unless : (zone : ℕ) (f : Filling) → closed (closed_unless zone f) ≡ closed f
closed-unless zone f = at (eqb f.zone zone)
  where
    at : (b : Bool) → closed (cond b f (closed f)) ≡ closed f
    at true = refl
    at false = refl

-- whether the second zone may be open is all that changes of it
second-closed : (zone : ℕ) (second : Option Second) → option_map (second_with closed) (option_map (second_with (closed_unless zone)) second) ≡ option_map (second_with closed) second
second-closed zone None = refl
second-closed zone (Some (Next f)) = ap (λ (g : Filling). Some (Next g)) (closed-unless zone f)
second-closed zone (Some (Destination f)) = ap (λ (g : Filling). Some (Destination g)) (closed-unless zone f)

-- a close leaves which zone is the second
pub same-second : (roles : RolesView) (zone : ℕ) → option_map (second_with closed) (closed_beside roles zone).second ≡ option_map (second_with closed) roles.second
same-second roles zone = second-closed zone roles.second

-- ---- the host zone is sealed

-- a zone is sealed
pub apart-seal : (roles : RolesView) → AreApart roles → AreApart (sealed roles)
apart-seal roles apart = record { occupied = (all-parts (IsOccupied roles.empty) (filling_list roles.host) (second_list roles.second) apart.occupied).1; differ = tt }

-- ---- an empty zone becomes the host zone

-- a zone is taken that was empty, and the others are unchanged
pub occupied-set : (empties : List Bool) (zone : ℕ) (f : Filling) → zone < length empties → get_or empties zone false ≡ true → IsOccupied empties f → IsOccupied (set empties zone false) f
occupied-set empties zone f lt here o =
    let other : f.zone ≢ zone = λ e. (let no = o.not_empty in let yes : get_or empties f.zone false ≡ true = rw e here in absurd (cc)) in
    record { in_range = omega (arith, o.in_range, length-set empties zone false); not_empty = get_or-set_other empties zone f.zone false false other ∙ o.not_empty }

differ-take : (empties : List Bool) (zone : ℕ) (second : Option Second) → get_or empties zone false ≡ true → AllByRecursion (IsOccupied empties) (second_list second) → Differ (Some (record { zone = zone; written = 0; may_open = false })) second
differ-take empties zone None here all = tt
differ-take empties zone (Some s) here all = λ e. (let no = all.0.not_empty in let yes : get_or empties (filling_of s).zone false ≡ true = rw (sym e) here in absurd (cc))

-- so the roles stay apart
pub apart-take : (roles : RolesView) (zone : ℕ) → AreApart roles → zone < length roles.empty → get_or roles.empty zone false ≡ true → AreApart (taken roles zone)
apart-take roles zone apart lt here =
    let second = (all-parts (IsOccupied roles.empty) (filling_list roles.host) (second_list roles.second) apart.occupied).1 in
    record {
      occupied = (
        record { in_range = omega (arith, lt, length-set roles.empty zone false); not_empty = get_or-set_same roles.empty zone false false lt },
        all-weaker (IsOccupied roles.empty) (IsOccupied (set roles.empty zone false)) (second_list roles.second) (λ f o. occupied-set roles.empty zone f lt here o) second,
      );
      differ = differ-take roles.empty zone roles.second here second;
    }
