-- What was seen of the zones.
use Rattle.std.specs.Prelude.{◌≡◌, ◌⊎◌, ℕ, ◌<◌, ◌||◌, Bool, true, false, List, length, slice_index_or, IfSome, None}
use Rattle.std.specs.Prelude.{is_some}
use Rattle.nvme_wire.specs.declared.zone_state.ZoneState.{ZoneState}
use Rattle.nvme_wire.specs.declared.zone_state.ZoneState.TheVariants.{Closed, Full, ImplicitlyOpened, Offline, ReadOnly}
use Rattle.zone_states.specs.declared.geometry.Geometry.{Geometry}
use Rattle.zone_states.specs.Transition.{is_active}
use Rattle.zone_states.specs.Zone.{Zone}
use Rattle.drive_port.specs.Step.{zone_at}
use Rattle.passthrough.specs.Premise.{IsOfZone, Shows, descriptor_in}
use Rattle.passthrough.specs.declared.seen_zone.SeenZone.{SeenZone}

-- the states in which a zone has a write pointer
abbrev pub has_pointer : ZoneState → Bool
has_pointer Full = false
has_pointer ReadOnly = false
has_pointer Offline = false
has_pointer state = true

-- a state is the one that was seen, or the controller closed the zone since
abbrev pub IsState : ZoneState → ZoneState → Type 0
IsState seen state = (state ≡ seen) ⊎ ((seen ≡ ImplicitlyOpened) × (state ≡ Closed))

-- What was seen of a zone is true. How many of its blocks are written was seen if its state has a pointer.
pub record IsSeen (zone : Zone) (seen : SeenZone) : Type 0 where
  pub state : IsState seen.state zone.state
  pub written : IfSome seen.written (λ count. length zone.blocks ≡ count)
  pub known : has_pointer seen.state ≡ true → is_some seen.written ≡ true

-- nothing is known of no zone
abbrev pub no_zone : SeenZone
no_zone = record { state = Offline; written = None; changed = false }

abbrev pub seen_at : List SeenZone → ℕ → SeenZone
seen_at seen number = slice_index_or seen number no_zone

-- what was seen of each zone is true
pub record AreSeen (zones : List Zone) (seen : List SeenZone) : Type 0 where
  pub count : length seen ≡ length zones
  pub each : (number : ℕ) → number < length zones → IsSeen (zone_at zones number) (seen_at seen number)

-- a Flush looks at a zone that is active, and at one that was changed since the last Flush
abbrev pub is_due : SeenZone → Bool
is_due seen = is_active seen.state || seen.changed

-- the same, once a Flush was done
abbrev pub settled : SeenZone → SeenZone
settled seen = record seen { changed = false }

-- it was done of all zones
pub record AreSettled (old new : List SeenZone) : Type 0 where
  pub length_is : length new ≡ length old
  pub each : (number : ℕ) → seen_at new number ≡ settled (seen_at old number)

-- a row is what a descriptor of a zone shows, whichever zone of that number it is
pub record IsRow (geometry : Geometry) (number : ℕ) (bytes : List ℕ) (row : SeenZone) : Type 0 where
  pub of_zone : IsOfZone geometry number bytes
  pub seen : (zone : Zone) → Shows geometry number zone bytes → IsSeen zone row

-- the first rows are those of the first descriptors of a report
abbrev pub AreRows : Geometry → List ℕ → ℕ → List SeenZone → Type 0
AreRows geometry report count rows = (i : ℕ) → i < count → IsRow geometry i (descriptor_in report i) (seen_at rows i)
