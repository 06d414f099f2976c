-- When the checks of a command are passed.
use Rattle.std.proofs.Common.{◌≡◌, ℕ, ◌+◌, ◌<◌, ◌≤◌, Bool, true, false, leb, cond, ◌&&◌, ◌||◌, List, [], ◌∷◌, length, refl, sym, arith}
use Rattle.std.specs.List.{remove}
use Rattle.std.proofs.lemmas.Bool.{eq-eqb, le-ltb, lt-leb}
use Rattle.std.proofs.lemmas.List.Sums.{sum_by-remove}
use Rattle.nvme_wire.specs.declared.status.Status.{Status}
use Rattle.nvme_wire.specs.declared.zone_state.ZoneState.{ZoneState}
use Rattle.nvme_wire.specs.declared.zone_state.ZoneState.TheVariants.{Empty, ImplicitlyOpened, ExplicitlyOpened, Closed, ReadOnly, Full, Offline}
use Rattle.zone_states.specs.declared.geometry.Geometry.{Geometry}
use Rattle.zone_states.specs.Transition.{is_active, is_open}
use Rattle.zone_states.specs.Zone.{Zone}
use Rattle.drive_port.specs.Drive.{IsClosing, active_count, open_count}
use Rattle.drive_port.specs.Step.{data_checks, is_state, nowhere, resource_checks, state_checks, zone_at}
use Rattle.drive_port.specs.Contents.{is_writable, usage_of}
use Rattle.drive_port.specs.Calls.{IsWholeBlocks, block_count}
use Rattle.drive_port.proofs.ClosingLaws.{IsClosing-remove, active_count-closing, length-closing, open_count-closing}

-- none of the checks fails
abbrev pub AllPass : List (Bool × Status) → Type 0
AllPass [] = Unit {0}
AllPass (check ∷ checks) = (check.0 ≡ false) × AllPass checks

-- ---- data

-- whole blocks, no more than one transfer moves, pass the checks of data
pub data-pass : (geometry : Geometry) (bytes : List ℕ) → IsWholeBlocks geometry.block bytes → block_count geometry bytes ≤ geometry.transfer
    → AllPass (data_checks geometry (block_count geometry bytes) bytes)
data-pass geometry bytes whole few = (le-ltb _ _ few, (rw (eq-eqb _ _ whole.whole) refl, tt))

-- ---- the state of the zone

-- a zone whose state passes its checks is one that can be written
pub state-passed : (zone : Zone) → AllPass (state_checks zone) → is_writable (usage_of zone.state) ≡ true
state-passed zone all = writable zone.state all.0 all.1.0 all.1.1.0
  where
    writable : (state : ZoneState) → is_state Full state ≡ false → is_state ReadOnly state ≡ false → is_state Offline state ≡ false → is_writable (usage_of state) ≡ true
    writable Empty f r o = refl
    writable ImplicitlyOpened f r o = refl
    writable ExplicitlyOpened f r o = refl
    writable Closed f r o = refl
    writable ReadOnly f r o = sym r
    writable Full f r o = sym f
    writable Offline f r o = sym o

-- and the other way round
pub state-pass : (zone : Zone) → is_writable (usage_of zone.state) ≡ true → AllPass (state_checks zone)
state-pass zone w = passes zone.state w
  where
    passes : (state : ZoneState) → is_writable (usage_of state) ≡ true → AllPass (state_checks (record { state = state; blocks = zone.blocks }))
    passes Empty w = (refl, (refl, (refl, tt)))
    passes ImplicitlyOpened w = (refl, (refl, (refl, tt)))
    passes ExplicitlyOpened w = (refl, (refl, (refl, tt)))
    passes Closed w = (refl, (refl, (refl, tt)))
    passes ReadOnly w = absurd (cc w)
    passes Full w = absurd (cc w)
    passes Offline w = absurd (cc w)

-- ---- resources

empty_resource : (state : ZoneState) (limit count others : ℕ) → others + cond (is_active state) 1 0 ≡ count → others < limit
    → (is_state Empty state && leb limit count) ≡ false
empty_resource Empty limit count others e lt = lt-leb limit count (omega arith)
empty_resource ImplicitlyOpened limit count others e lt = refl
empty_resource ExplicitlyOpened limit count others e lt = refl
empty_resource Closed limit count others e lt = refl
empty_resource ReadOnly limit count others e lt = refl
empty_resource Full limit count others e lt = refl
empty_resource Offline limit count others e lt = refl

closed_resource : (state : ZoneState) (limit count others : ℕ) → others + cond (is_open state) 1 0 ≡ count → others < limit
    → ((is_state Empty state || is_state Closed state) && leb limit count) ≡ false
closed_resource Empty limit count others e lt = lt-leb limit count (omega arith)
closed_resource Closed limit count others e lt = lt-leb limit count (omega arith)
closed_resource ImplicitlyOpened limit count others e lt = refl
closed_resource ExplicitlyOpened limit count others e lt = refl
closed_resource ReadOnly limit count others e lt = refl
closed_resource Full limit count others e lt = refl
closed_resource Offline limit count others e lt = refl

-- there are resources for a zone, also after a closing, where fewer of the other zones hold them than may
pub resource-pass : (geometry : Geometry) (old middle : List Zone) (index : ℕ) → IsClosing old middle → index < length old
    → active_count (remove old index) < geometry.active → open_count (remove old index) < geometry.open
    → AllPass (resource_checks geometry middle (zone_at middle index))
resource-pass geometry old middle index closing low few_active few_open =
    let state = (zone_at middle index).state in
    let inside : index < length middle = omega (arith, low, length-closing old middle closing) in
    let others = IsClosing-remove old middle index closing in
    let active_sum = sum_by-remove (λ (z : Zone). cond (is_active z.state) 1 0) middle index nowhere inside in
    let open_sum = sum_by-remove (λ (z : Zone). cond (is_open z.state) 1 0) middle index nowhere inside in
    let active_others : active_count (remove middle index) < geometry.active = omega (arith, few_active, active_count-closing (remove old index) (remove middle index) others) in
    let open_others : open_count (remove middle index) < geometry.open = omega (arith, few_open, open_count-closing (remove old index) (remove middle index) others) in
    let empty = empty_resource state geometry.active (active_count middle) (active_count (remove middle index)) active_sum active_others in
    let closed = closed_resource state geometry.open (open_count middle) (open_count (remove middle index)) open_sum open_others in
    (empty, (closed, tt))
