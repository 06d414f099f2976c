-- Which zones a command opens, and that none is open but those that the tables name.
use Rattle.std.proofs.Common.{◌≡◌, ◌≢◌, ℕ, zero, suc, ◌+◌, ◌/◌, ◌≤◌, Bool, true, false, ◌||◌, cond, eqb, List, [], ◌∷◌, length, Some, Result, Ok, Err, refl, sym, ap, subst, inl, inr, arith}
use Rattle.std.specs.Prelude.{slice_set}
use Rattle.std.specs.List.{AllByRecursion, find, list_any}
use Rattle.std.proofs.Math.ListN.{get_or-map}
use Rattle.std.proofs.lemmas.Bool.{eq-eqb, eqb-true, ne_eqb}
use Rattle.std.proofs.lemmas.List.{get_or-set_other}
use Rattle.nvme_wire.specs.declared.zone_state.ZoneState.{ZoneState}
use Rattle.nvme_wire.specs.declared.zone_state.ZoneState.TheVariants as states
use Rattle.zone_states.specs.Transition.{is_open}
use Rattle.zone_states.specs.Zone.{Zone}
use Rattle.zone_states.proofs.ListLaws.{all-map}
use Rattle.drive_port.specs.Calls.{AppendLeaves, CloseLeaves, FinishLeaves, Leaves, ResetLeaves}
use Rattle.drive_port.specs.Contents.{Content, content_at, content_of, contents, emptied, usage_of}
use Rattle.drive_port.specs.Drive.{ClosesOne, DriveState, IsClosing}
use Rattle.drive_port.specs.Step.{nowhere, zone_at}
use Rattle.drive_port.specs.declared.calls.PortFault.{PortFault}
use Rattle.drive_port.specs.declared.calls.PortFault.TheVariants.{Refused, Memory, Failed, Stopped}
use Rattle.drive_port.proofs.ClosingLaws.{zone_at-closing}
use Rattle.zone_choice.specs.declared.roles.Filling.{Filling}
use Rattle.zone_choice.specs.Agreement.{IsShut, TellsOpen}
use Rattle.zone_choice.specs.Roles.{RolesView, closed, closed_beside, closed_unless, fillings, grown, is_at, is_open_beside, wrote}
use Rattle.drive_array.proofs.AllLaws.{all-weaker}
use Rattle.zone_choice.proofs.ContentLaws.{IsSettled}
use Rattle.zone_choice.proofs.RolesLaws.{all-filling, fillings-with}

-- ---- commands

-- no zone is open that wasn't
abbrev pub OpensNone : List Zone → List Zone → Type 0
OpensNone old new = (k : ℕ) → IsShut old k → IsShut new k

-- none but one
abbrev pub OpensOnly : ℕ → List Zone → List Zone → Type 0
OpensOnly zone old new = (k : ℕ) → k ≢ zone → IsShut old k → IsShut new k

closes-shut : (a b : Zone) → ClosesOne a b → is_open a.state ≡ false → is_open b.state ≡ false
closes-shut a b one shut = elim one.state as (λ _. is_open b.state ≡ false) [ inl same ↦ rw same shut | inr closed ↦ rw closed.1 refl ]

-- a closing opens no zone
pub closing-opens : (old new : List Zone) → IsClosing old new → OpensNone old new
closing-opens old new closing k shut = closes-shut (zone_at old k) (zone_at new k) (zone_at-closing old new k closing) shut

-- a zone that is not open takes the place of one
set-opens : (zones : List Zone) (i : ℕ) (zone : Zone) → is_open zone.state ≡ false → OpensNone zones (slice_set zones i zone)
set-opens [] i zone shut k h = h
set-opens (z ∷ zs) zero zone shut zero h = shut
set-opens (z ∷ zs) zero zone shut (suc k) h = h
set-opens (z ∷ zs) (suc i) zone shut zero h = h
set-opens (z ∷ zs) (suc i) zone shut (suc k) h = set-opens zs i zone shut k h

set-opens_only : (zones : List Zone) (i : ℕ) (zone : Zone) → OpensOnly i zones (slice_set zones i zone)
set-opens_only zones i zone k other shut = rw (get_or-set_other zones i k zone nowhere other) shut

leaves-opens : {V : Type 0} (old new : DriveState) (start : ℕ) (zone : Zone) (result : Result V PortFault) → is_open zone.state ≡ false → Leaves old start zone result new → OpensNone old.zones new.zones
leaves-opens old new start zone (Ok value) shut leaves k h = closing-opens _ new.zones leaves k (set-opens old.zones (start / old.geometry.size) zone shut k h)
leaves-opens old new start zone (Err (Refused status)) shut leaves k h = closing-opens old.zones new.zones leaves k h
leaves-opens old new start zone (Err Memory) shut leaves k h = rw leaves h
leaves-opens old new start zone (Err Failed) shut leaves k h = closing-opens old.zones new.zones leaves k h
leaves-opens old new start zone (Err Stopped) shut leaves k h = elim leaves as (λ _. IsShut new.zones k) [
  | inl closing ↦ closing-opens old.zones new.zones closing k h
  | inr closing ↦ closing-opens _ new.zones closing k (set-opens old.zones (start / old.geometry.size) zone shut k h)
]

-- neither does a Close
pub close-opens : {V : Type 0} (old new : DriveState) (start : ℕ) (result : Result V PortFault) → CloseLeaves old start result new → OpensNone old.zones new.zones
close-opens {V} old new start result leaves = leaves-opens {V = V} old new start _ result refl leaves

-- nor a Finish
pub finish-opens : {V : Type 0} (old new : DriveState) (start : ℕ) (result : Result V PortFault) → FinishLeaves old start result new → OpensNone old.zones new.zones
finish-opens {V} old new start result leaves = leaves-opens {V = V} old new start _ result refl leaves

-- nor a Reset
pub reset-opens : {V : Type 0} (old new : DriveState) (start : ℕ) (result : Result V PortFault) → ResetLeaves old start result new → OpensNone old.zones new.zones
reset-opens {V} old new start result leaves = leaves-opens {V = V} old new start _ result refl leaves

written-opens : (old new : DriveState) (start : ℕ) (zone : Zone) → IsClosing (slice_set old.zones (start / old.geometry.size) zone) new.zones → OpensOnly (start / old.geometry.size) old.zones new.zones
written-opens old new start zone closing k other h = closing-opens _ new.zones closing k (set-opens_only old.zones (start / old.geometry.size) zone k other h)

-- an Append opens only its zone
pub append-opens : (old new : DriveState) (start : ℕ) (bytes : List ℕ) (result : Result ℕ PortFault) → AppendLeaves old start bytes result new → OpensOnly (start / old.geometry.size) old.zones new.zones
append-opens old new start bytes (Ok address) leaves = written-opens old new start _ leaves
append-opens old new start bytes (Err (Refused status)) leaves = λ k other h. closing-opens old.zones new.zones leaves k h
append-opens old new start bytes (Err Memory) leaves = λ k other h. rw leaves h
append-opens old new start bytes (Err Failed) leaves = λ k other h. closing-opens old.zones new.zones leaves k h
append-opens old new start bytes (Err Stopped) leaves = λ k other h. elim leaves as (λ _. IsShut new.zones k) [
  | inl closing ↦ closing-opens old.zones new.zones closing k h
  | inr front ↦ written-opens old new start _ front.zones k other h
]

-- ---- zones that are being filled

-- what the tables tell of open zones holds if none was opened
pub tells-kept : (old new : List Zone) (fs : List Filling) → OpensNone old new → AllByRecursion (TellsOpen old) fs → AllByRecursion (TellsOpen new) fs
tells-kept old new fs opens tells = all-weaker (TellsOpen old) (TellsOpen new) fs (λ f is no. opens f.zone (is no)) tells

-- after an Append
tells-grown : (old new : List Zone) (zone blocks : ℕ) → OpensOnly zone old new → (f : Filling) → TellsOpen old f → TellsOpen new (grown zone blocks f)
tells-grown old new zone blocks opens f tells = at (eqb f.zone zone) refl
  where
    at : (b : Bool) → eqb f.zone zone ≡ b → TellsOpen new (cond b (record { zone = f.zone; written = f.written + blocks; may_open = true }) f)
    at true e = λ no. absurd (cc)
    at false e = λ no. opens f.zone (λ same. let bad : eqb f.zone zone ≡ true = rw same (eq-eqb zone zone refl) in absurd (cc)) (tells no)

-- it holds where the zone that they write was opened
pub all-tells_grown : (old new : List Zone) (zone blocks : ℕ) (roles : RolesView) → OpensOnly zone old new → AllByRecursion (TellsOpen old) (fillings roles) → AllByRecursion (TellsOpen new) (fillings (wrote roles zone blocks))
all-tells_grown old new zone blocks roles opens tells =
    subst (AllByRecursion (TellsOpen new)) (sym (fillings-with (grown zone blocks) roles))
    (all-map (TellsOpen new) (grown zone blocks) (fillings roles) (all-weaker (TellsOpen old) (λ f. TellsOpen new (grown zone blocks f)) (fillings roles) (tells-grown old new zone blocks opens) tells))

-- a zone that is being filled, unless it is this one, isn't open
abbrev pub ShutBeside : List Zone → ℕ → Filling → Type 0
ShutBeside zones zone f = f.zone ≢ zone → IsShut zones f.zone

-- after the zones beside one were closed
tells-closed : (zones : List Zone) (zone : ℕ) (f : Filling) → TellsOpen zones f → ShutBeside zones zone f → TellsOpen zones (closed_unless zone f)
tells-closed zones zone f tells beside = at (eqb f.zone zone) refl
  where
    at : (b : Bool) → eqb f.zone zone ≡ b → TellsOpen zones (cond b f (closed f))
    at true e = tells
    at false e = λ no. beside (λ same. let bad : eqb f.zone zone ≡ true = rw same (eq-eqb zone zone refl) in absurd (cc))

-- and where the other zone was closed
pub all-tells_closed : (zones : List Zone) (zone : ℕ) (roles : RolesView) → AllByRecursion (TellsOpen zones) (fillings roles) → AllByRecursion (ShutBeside zones zone) (fillings roles) → AllByRecursion (TellsOpen zones) (fillings (closed_beside roles zone))
all-tells_closed zones zone roles tells shut =
    subst (AllByRecursion (TellsOpen zones)) (sym (fillings-with (closed_unless zone) roles)) (all-map (TellsOpen zones) (closed_unless zone) (fillings roles) (both (fillings roles) tells shut))
  where
    both : (fs : List Filling) → AllByRecursion (TellsOpen zones) fs → AllByRecursion (ShutBeside zones zone) fs → AllByRecursion (λ f. TellsOpen zones (closed_unless zone f)) fs
    both [] tells shut = tt
    both (f ∷ fs) tells shut = (tells-closed zones zone f tells.0 shut.0, both fs tells.1 shut.1)

-- a zone that is not opened
state-shut : (state : ZoneState) → IsSettled (usage_of state) → is_open state ≡ false
state-shut states.Empty h = refl
state-shut states.ImplicitlyOpened h = elim h as (λ _. true ≡ false) [ inl e ↦ cc | inr e ↦ cc ]
state-shut states.ExplicitlyOpened h = elim h as (λ _. true ≡ false) [ inl e ↦ cc | inr e ↦ cc ]
state-shut states.Closed h = refl
state-shut states.ReadOnly h = refl
state-shut states.Full h = refl
state-shut states.Offline h = refl

-- a zone that is empty or full is not open
pub settled-shut : (zones : List Zone) (zone : ℕ) → IsSettled (content_at (contents zones) zone).usage → IsShut zones zone
settled-shut zones zone settled = state-shut (zone_at zones zone).state (rw (get_or-map content_of zones zone nowhere) at settled)

-- nor is one that was emptied
pub emptied-shut : (zones : List Zone) (zone : ℕ) → content_at (contents zones) zone ≡ emptied → IsShut zones zone
emptied-shut zones zone e = settled-shut zones zone (inl (ap (λ (c : Content). c.usage) e))

one-shut : (zones : List Zone) (zone : ℕ) (f : Filling) → TellsOpen zones f → (is_open_beside zone f ≡ true → IsShut zones f.zone) → ShutBeside zones zone f
one-shut zones zone f tells shut other = at f.may_open refl
  where
    at : (b : Bool) → f.may_open ≡ b → IsShut zones f.zone
    at true e = shut (rw (ne_eqb f.zone zone other, e) refl)
    at false e = tells e

-- the one beside it, if it may be open, isn't open: so none is but this one
pub shut-beside : (zones : List Zone) (zone : ℕ) (fs : List Filling) → length fs ≤ 2 → list_any (is_at zone) fs ≡ true → AllByRecursion (TellsOpen zones) fs → ((other : Filling) → find (is_open_beside zone) fs ≡ Some other → IsShut zones other.zone)
    → AllByRecursion (ShutBeside zones zone) fs
shut-beside zones zone [] few here tells shut = tt
shut-beside zones zone (f ∷ []) few here tells shut = (one-shut zones zone f tells.0 (λ is. shut f (rw is refl)), tt)
shut-beside zones zone (f ∷ g ∷ []) few here tells shut =
    (one-shut zones zone f tells.0 (λ is. shut f (rw is refl)), (one-shut zones zone g tells.1.0 (λ is. shut g (second (is_open_beside zone f) refl is)), tt))
  where
    at : (b : Bool) → eqb f.zone zone ≡ b → (b || (eqb g.zone zone || false)) ≡ true → is_open_beside zone f ≡ true → is_open_beside zone g ≡ true → ⊥
    at true e h is_f is_g = let bad : false ≡ true = rw e at is_f in absurd (cc)
    at false e h is_f is_g = by (eqb g.zone zone) refl h
      where
        by : (c : Bool) → eqb g.zone zone ≡ c → (c || false) ≡ true → ⊥
        by true e' h' = let bad : false ≡ true = rw e' at is_g in absurd (cc)
        by false e' h' = absurd (cc)

    second : (b : Bool) → is_open_beside zone f ≡ b → is_open_beside zone g ≡ true → find (is_open_beside zone) (f ∷ g ∷ []) ≡ Some g
    second true e is = absurd (at (eqb f.zone zone) refl here e is)
    second false e is = rw (e, is) refl
shut-beside zones zone (f ∷ g ∷ h ∷ fs) few here tells shut = absurd (omega arith)

-- so it is for each zone
pub all-shut : (zones : List Zone) (zone : ℕ) (fs : List Filling) → AllByRecursion (ShutBeside zones zone) fs → (k : ℕ) → k ≢ zone → list_any (is_at k) fs ≡ true → IsShut zones k
all-shut zones zone fs shut k other here = all-filling (λ z. z ≢ zone → IsShut zones z) fs k shut here other

-- ---- the tables say that the others are closed

-- a zone being filled is this one, or is noted as closed
abbrev pub NotedBeside : ℕ → Filling → Type 0
NotedBeside zone f = f.zone ≢ zone → f.may_open ≡ false

noted-closed : (zone : ℕ) (f : Filling) → NotedBeside zone (closed_unless zone f)
noted-closed zone f = at (eqb f.zone zone) refl
  where
    at : (b : Bool) → eqb f.zone zone ≡ b → NotedBeside zone (cond b f (closed f))
    at true e other = absurd (other (eqb-true f.zone zone e))
    at false e other = refl

all-noted : (zone : ℕ) (fs : List Filling) → AllByRecursion (λ f. NotedBeside zone (closed_unless zone f)) fs
all-noted zone [] = tt
all-noted zone (f ∷ fs) = (noted-closed zone f, all-noted zone fs)

-- where nothing is to be closed, the other zone is closed
pub noted-shut : (zones : List Zone) (roles : RolesView) (zone : ℕ) → closed_beside roles zone ≡ roles → AllByRecursion (TellsOpen zones) (fillings roles) → AllByRecursion (ShutBeside zones zone) (fillings roles)
noted-shut zones roles zone same tells =
    let noted : AllByRecursion (NotedBeside zone) (fillings (closed_beside roles zone)) = subst (AllByRecursion (NotedBeside zone)) (sym (fillings-with (closed_unless zone) roles)) (all-map (NotedBeside zone) (closed_unless zone) (fillings roles) (all-noted zone (fillings roles))) in
    both (fillings roles) tells (subst (λ (r : RolesView). AllByRecursion (NotedBeside zone) (fillings r)) same noted)
  where
    both : (fs : List Filling) → AllByRecursion (TellsOpen zones) fs → AllByRecursion (NotedBeside zone) fs → AllByRecursion (ShutBeside zones zone) fs
    both [] tells noted = tt
    both (f ∷ fs) tells noted = ((λ other. tells.0 (noted.0 other)), both fs tells.1 noted.1)
