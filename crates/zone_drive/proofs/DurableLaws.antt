-- What is durable of a drive, and what a command changes of that.
use Rattle.std.proofs.Common.{◌≡◌, ℕ, zero, suc, ◌⊎◌, cond, List, [], ◌∷◌, map, refl, sym, ap, ◌∙◌, subst, inl, inr, Result, Ok, Err, arith}
use Rattle.std.specs.List.{Contains}
use Rattle.std.specs.Prelude.{OnErr}
use Rattle.std.proofs.lemmas.List.{get_or-map, length-map}
use Rattle.nvme_wire.specs.declared.command.Command.{Command}
use Rattle.nvme_wire.specs.declared.command.Command.TheVariants.{Flush, Read, Write, Append, Send, Receive}
use Rattle.nvme_wire.specs.declared.command.DecodeFault.{DecodeFault}
use Rattle.nvme_wire.specs.declared.command.Action.TheVariants.{Close}
use Rattle.nvme_wire.specs.declared.zone_state.ZoneState.{ZoneState}
use Rattle.nvme_wire.specs.declared.zone_state.ZoneState.TheVariants.{Empty, ImplicitlyOpened, ExplicitlyOpened, Closed, ReadOnly, Full, Offline}
use Rattle.zone_states.specs.declared.geometry.Geometry.{Geometry}
use Rattle.zone_states.specs.Geometry.{IsInRange}
use Rattle.zone_states.specs.Stored.{StoredZone}
use Rattle.zone_states.specs.Transition.{is_state}
use Rattle.zone_states.specs.Zone.{Zone}
use Rattle.drive_port.specs.Drive.{DriveState}
use Rattle.drive_port.specs.Durable.{Hardens, MayHarden}
use Rattle.drive_port.specs.Run.{restarted_zone}
use Rattle.zone_drive.specs.declared.habit.Habit.{Habit}
use Rattle.zone_drive.specs.declared.habit.Habit.TheVariants as habits
use Rattle.zone_drive.specs.Habits.{close_implicit, closed_zone, settled}
use Rattle.zone_drive.specs.Held.{AreDurable, DurableJust, DurableOrNow, restarted_stored}
use Rattle.zone_drive.specs.Stored.{AreZones, zones_of}
use Rattle.zone_drive.specs.Table.{sent_stored}
use Rattle.zone_drive.proofs.SendLaws.{are-all}

-- a restart closes zones as a Close of all does
restarted-sent : (zone : StoredZone) → restarted_stored zone ≡ sent_stored Close zone
restarted-sent zone = by zone.state
  where
    by : (state : ZoneState) → restarted_stored (record { state = state; bytes = zone.bytes }) ≡ sent_stored Close (record { state = state; bytes = zone.bytes })
    by Empty = refl
    by ImplicitlyOpened = refl
    by ExplicitlyOpened = refl
    by Closed = refl
    by ReadOnly = refl
    by Full = refl
    by Offline = refl

restarted-all : (zones : List StoredZone) → map restarted_stored zones ≡ map (sent_stored Close) zones
restarted-all [] = refl
restarted-all (zone ∷ zones) = rw (restarted-sent zone, restarted-all zones) refl

pub are-restarted : (g : Geometry) (zones : List StoredZone) → IsInRange g → AreZones g zones → AreZones g (map restarted_stored zones)
are-restarted g zones in_range are = subst (λ (zs : List StoredZone). AreZones g zs) (sym (restarted-all zones)) (are-all g zones Close in_range are)

-- what is durable after a Flush, a drive can have
pub durable-or-now : (g : Geometry) (stored : List StoredZone) (old new : List (List StoredZone)) → IsInRange g → AreZones g stored
    → AreDurable g old → DurableOrNow stored old new → AreDurable g new
durable-or-now g stored old new in_range are were or zones left = elim (or zones left) [
  | inl before ↦ were zones before
  | inr now ↦ subst (λ (zs : List StoredZone). AreZones g zs) (sym now) (are-restarted g stored in_range are)
]

-- ---- lists of zones, seen in blocks

-- an element of a list that was mapped comes from one of the list
pub contained-from : {X Y : Type 0} (f : X → Y) (xs : List X) (y : Y) → Contains (map f xs) y → (x : X) × Contains xs x × (y ≡ f x)
contained-from f [] y (k, low, is) = absurd (omega (arith, low))
contained-from f (x ∷ xs) y (zero, low, is) = (x, (0, omega arith, refl), sym is)
contained-from f (x ∷ xs) y (suc k, low, is) =
    let (z, (j, less, here), from) = contained-from f xs y (k, omega (arith, low), is) in
    (z, (suc j, omega (arith, less), here), from)

pub contained-to : {X Y : Type 0} (f : X → Y) (xs : List X) (x : X) → Contains xs x → Contains (map f xs) (f x)
contained-to f xs x (k, low, is) = (k, omega (arith, low, length-map xs f), get_or-map f xs k x (f x) low ∙ ap f is)

-- a restart of zones, seen in blocks
zones_of-restarted : (block : ℕ) (zones : List StoredZone) → zones_of block (map restarted_stored zones) ≡ map restarted_zone (zones_of block zones)
zones_of-restarted block [] = refl
zones_of-restarted block (zone ∷ zones) = rw (zones_of-restarted block zones) refl

-- ---- a Flush

-- one that was done makes the zones durable
pub durable-just : (block : ℕ) (stored : List StoredZone) (durable : List (List StoredZone)) → DurableJust stored durable
    → (zones : List Zone) → Contains (map (zones_of block) durable) zones → zones ≡ map restarted_zone (zones_of block stored)
durable-just block stored durable just zones left =
    let (found, inside, seen) = contained-from (zones_of block) durable zones left in
    seen ∙ ap (zones_of block) (just found inside) ∙ zones_of-restarted block stored

-- one that was not done may have done so
pub durable-or : (block : ℕ) (stored : List StoredZone) (before after : List (List StoredZone)) → DurableOrNow stored before after
    → (zones : List Zone) → Contains (map (zones_of block) after) zones → Contains (map (zones_of block) before) zones ⊎ (zones ≡ map restarted_zone (zones_of block stored))
durable-or block stored before after or zones left =
    let (found, inside, seen) = contained-from (zones_of block) after zones left in
    elim (or found inside) [
      | inl earlier ↦ inl (rw seen (contained-to (zones_of block) before found earlier))
      | inr now ↦ inr (seen ∙ ap (zones_of block) now ∙ zones_of-restarted block stored)
    ]

-- what always holds holds after an error
pub on-err : {T E : Type 0} (result : Result T E) (P : Type 0) → P → OnErr result P
on-err (Ok value) P p = tt
on-err (Err error) P p = p

-- ---- what a command keeps

-- the zones count, and what is durable, and nothing else of a drive
pub may_harden-as : (command : Result Command DecodeFault) (old new other : DriveState) → other.durable ≡ new.durable → other.zones ≡ new.zones
    → MayHarden command old new → MayHarden command old other
may_harden-as (Err fault) old new other same zones hardens = same ∙ hardens
may_harden-as (Ok Flush) old new other same zones hardens = λ found left. rw zones (hardens found (rw same at left))
may_harden-as (Ok (Read slba blocks)) old new other same zones hardens = same ∙ hardens
may_harden-as (Ok (Write slba blocks)) old new other same zones hardens = same ∙ hardens
may_harden-as (Ok (Append zslba blocks)) old new other same zones hardens = same ∙ hardens
may_harden-as (Ok (Send slba action all)) old new other same zones hardens = same ∙ hardens
may_harden-as (Ok (Receive slba dwords options partial)) old new other same zones hardens = same ∙ hardens

-- ---- what a drive closes after a command

restarted-closed : (zone : Zone) → restarted_zone (cond (is_state ImplicitlyOpened zone.state) (closed_zone zone) zone) ≡ restarted_zone zone
restarted-closed zone = by zone.state
  where
    by : (state : ZoneState) → restarted_zone (cond (is_state ImplicitlyOpened state) (record { state = Closed; blocks = zone.blocks }) (record { state = state; blocks = zone.blocks }))
        ≡ restarted_zone (record { state = state; blocks = zone.blocks })
    by Empty = refl
    by ImplicitlyOpened = refl
    by ExplicitlyOpened = refl
    by Closed = refl
    by ReadOnly = refl
    by Full = refl
    by Offline = refl

restarted-implicit : (zones : List Zone) → map restarted_zone (close_implicit zones) ≡ map restarted_zone zones
restarted-implicit [] = refl
restarted-implicit (zone ∷ zones) = rw (restarted-closed zone, restarted-implicit zones) refl

restarted-settled : (habit : Habit) (zones : List Zone) → map restarted_zone (settled habit zones) ≡ map restarted_zone zones
restarted-settled habits.Lazy zones = refl
restarted-settled habits.Closing zones = restarted-implicit zones
restarted-settled habits.Strict zones = refl

-- a drive that a command hardened is so once it has closed what it closes by itself
pub hardens-settled : (command : Result Command DecodeFault) (habit : Habit) (old middle new : DriveState) → new.durable ≡ middle.durable → new.zones ≡ settled habit middle.zones
    → Hardens command old middle → Hardens command old new
hardens-settled (Err fault) habit old middle new same zones hardens = same ∙ hardens
hardens-settled (Ok Flush) habit old middle new same zones hardens =
    λ found left. hardens found (rw same at left) ∙ sym (ap (map restarted_zone) zones ∙ restarted-settled habit middle.zones)
hardens-settled (Ok (Read slba blocks)) habit old middle new same zones hardens = same ∙ hardens
hardens-settled (Ok (Write slba blocks)) habit old middle new same zones hardens = same ∙ hardens
hardens-settled (Ok (Append zslba blocks)) habit old middle new same zones hardens = same ∙ hardens
hardens-settled (Ok (Send slba action all)) habit old middle new same zones hardens = same ∙ hardens
hardens-settled (Ok (Receive slba dwords options partial)) habit old middle new same zones hardens = same ∙ hardens
