-- What the zones of a drive are for.
use Rattle.std.specs.Prelude.{◌≡◌, ◌≢◌, ℕ, ◌+◌, ◌^◌, ◌<◌, ◌≤◌, ◌==◌, if◌then◌else◌, Bool, true, false, not, ◌&&◌, nat_lt, List}
use Rattle.std.specs.Prelude.{[], ◌∷◌, ◌++◌, length, count_by, replicate, slice_index_or, slice_set, Option, Some, None}
use Rattle.std.specs.List.{find, list_any, AllByRecursion}
use Rattle.std.specs.Option.{option_map}
use Rattle.zone_choice.specs.declared.roles.Filling.{Filling}
use Rattle.zone_choice.specs.declared.roles.Second.{Second}
use Rattle.zone_choice.specs.declared.roles.Second.TheVariants.{Next, Destination}

-- which zones are empty, and the zones that are being filled: the host zone, to which the host's batches go, and a second one; all other zones are sealed
pub record RolesView : Type 0 where
  pub empty : List Bool
  pub host : Option Filling
  pub second : Option Second

abbrev pub filling_of : Second → Filling
filling_of (Next filling) = filling
filling_of (Destination filling) = filling

abbrev pub filling_list : Option Filling → List Filling
filling_list None = []
filling_list (Some filling) = filling ∷ []

-- the zones that are being filled, two at most
abbrev pub fillings : RolesView → List Filling
fillings roles = filling_list roles.host ++ filling_list (option_map filling_of roles.second)

abbrev pub is_empty_at : RolesView → ℕ → Bool
is_empty_at roles zone = slice_index_or roles.empty zone false

abbrev pub empty_count : RolesView → ℕ
empty_count roles = count_by (λ b. b) roles.empty

abbrev pub is_at : ℕ → Filling → Bool
is_at zone filling = filling.zone == zone

abbrev pub is_filling_at : RolesView → ℕ → Bool
is_filling_at roles zone = list_any (is_at zone) (fillings roles)

-- a zone that is being filled is one of the zones, and not an empty one
pub record IsOccupied (empty : List Bool) (filling : Filling) : Type 0 where
  pub in_range : filling.zone < length empty
  pub not_empty : slice_index_or empty filling.zone false ≡ false

-- and the two are not the same zone
abbrev pub Differ : Option Filling → Option Second → Type 0
Differ (Some host) (Some second) = host.zone ≢ (filling_of second).zone
Differ host second = Unit {0}

pub record AreApart (roles : RolesView) : Type 0 where
  pub occupied : AllByRecursion (IsOccupied roles.empty) (fillings roles)
  pub differ : Differ roles.host roles.second

-- a sealed zone is not empty, and not being filled
abbrev pub is_sealed_at : RolesView → ℕ → Bool
is_sealed_at roles zone = nat_lt zone (length roles.empty) && (not (is_empty_at roles zone) && not (is_filling_at roles zone))

-- the lowest of the zones that are marked as empty
pub record IsLowestIn (empty : List Bool) (zone : ℕ) : Type 0 where
  pub in_range : zone < length empty
  pub is_empty : slice_index_or empty zone false ≡ true
  pub lowest : (other : ℕ) → other < zone → slice_index_or empty other false ≡ false

abbrev pub IsLowestEmpty : RolesView → ℕ → Type 0
IsLowestEmpty roles zone = IsLowestIn roles.empty zone

-- the zone is the host zone now, with nothing written
abbrev pub taken : RolesView → ℕ → RolesView
taken roles zone = record {
  empty = slice_set roles.empty zone false;
  host = Some (record { zone = zone; written = 0; may_open = false });
  second = roles.second;
}

-- the host zone is sealed
abbrev pub sealed : RolesView → RolesView
sealed roles = record { empty = roles.empty; host = None; second = roles.second }

-- the zone is the destination now, with nothing written
abbrev pub with_destination : RolesView → ℕ → RolesView
with_destination roles zone = record {
  empty = slice_set roles.empty zone false;
  host = roles.host;
  second = Some (Destination (record { zone = zone; written = 0; may_open = false }));
}

-- the second zone, once a clean has ended
abbrev pub ended : Second → Second
ended (Next filling) = Next filling
ended (Destination filling) = Next filling

-- a clean has ended: its victim is empty, and its destination is the next zone
abbrev pub clean_ended : RolesView → ℕ → RolesView
clean_ended roles victim = record { empty = slice_set roles.empty victim true; host = roles.host; second = option_map ended roles.second }

-- a zone is marked as empty, if there is one
abbrev pub with_empty : List Bool → Option Second → List Bool
with_empty empty (Some (Destination filling)) = slice_set empty filling.zone true
with_empty empty second = empty

-- the second zone, once a clean was given up: there is no destination
abbrev pub without_destination : Option Second → Option Second
without_destination (Some (Destination filling)) = None
without_destination second = second

-- a clean was given up: its destination is empty
abbrev pub clean_undone : RolesView → RolesView
clean_undone roles = record { empty = with_empty roles.empty roles.second; host = roles.host; second = without_destination roles.second }

abbrev pub next_of : Option Second → Option Filling
next_of (Some (Next filling)) = Some filling
next_of second = None

-- the next zone, if any, is the host zone now
abbrev pub with_next : RolesView → Option Filling → RolesView
with_next roles None = roles
with_next roles (Some filling) = record { empty = roles.empty; host = Some filling; second = None }

abbrev pub promoted : RolesView → RolesView
promoted roles = with_next roles (next_of roles.second)

-- a zone with this number has that many more blocks written, and the drive may hold it open
abbrev pub grown : ℕ → ℕ → Filling → Filling
grown zone blocks filling = if filling.zone == zone then record { zone = filling.zone; written = filling.written + blocks; may_open = true } else filling

-- the second zone that is being filled, changed
abbrev pub second_with : (Filling → Filling) → Second → Second
second_with change (Next filling) = Next (change filling)
second_with change (Destination filling) = Destination (change filling)

-- each zone that is being filled, changed
abbrev pub with_fillings : (Filling → Filling) → RolesView → RolesView
with_fillings change roles = record { empty = roles.empty; host = option_map change roles.host; second = option_map (second_with change) roles.second }

-- blocks were written to a zone
abbrev pub wrote : RolesView → ℕ → ℕ → RolesView
wrote roles zone blocks = with_fillings (grown zone blocks) roles

-- another zone than the one with this number, which the drive may hold open
abbrev pub is_open_beside : ℕ → Filling → Bool
is_open_beside zone filling = not (filling.zone == zone) && filling.may_open

-- the zone that is being filled beside this one, if the drive may hold it open
abbrev pub open_beside : RolesView → ℕ → Option Filling
open_beside roles zone = find (is_open_beside zone) (fillings roles)

-- the drive doesn't hold it open
abbrev pub closed : Filling → Filling
closed filling = record { zone = filling.zone; written = filling.written; may_open = false }

abbrev pub closed_unless : ℕ → Filling → Filling
closed_unless zone filling = if filling.zone == zone then filling else closed filling

-- the zones that are being filled beside this one were closed
abbrev pub closed_beside : RolesView → ℕ → RolesView
closed_beside roles zone = with_fillings (closed_unless zone) roles

-- the number of empty zones, and one below which no zone is empty
pub record AreCounted (empty : List Bool) (count lowest : ℕ) : Type 0 where
  pub few : length empty < 2 ^ 32
  pub count_is : count ≡ count_by (λ b. b) empty
  pub none_below : (zone : ℕ) → zone < lowest → slice_index_or empty zone false ≡ false
  pub short : lowest ≤ length empty

-- the zones that are sealed are marked, and no others
pub record AreMarked (roles : RolesView) (marks : List Bool) : Type 0 where
  pub long : length marks ≡ length roles.empty
  pub each : (zone : ℕ) → slice_index_or marks zone false ≡ is_sealed_at roles zone

-- one zone more is marked, if any
abbrev pub marked : List Bool → Option Filling → List Bool
marked marks None = marks
marked marks (Some filling) = slice_set marks filling.zone true

-- all zones are empty
abbrev pub unused_roles : ℕ → RolesView
unused_roles zones = record { empty = replicate zones true; host = None; second = None }

-- one marked zone less, if any
abbrev pub unmarked : List Bool → Option Filling → List Bool
unmarked marks None = marks
unmarked marks (Some filling) = slice_set marks filling.zone false

-- The zones that are marked are empty; one or two others are being filled, a host zone and a next one; and the rest is sealed.
abbrev pub mounted_as : List Bool → Option Filling → Option Filling → RolesView
mounted_as empty host next = record { empty = empty; host = host; second = option_map Next next }
