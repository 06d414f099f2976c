-- What a Close and a Reset left, and which a drive can't refuse.
use Rattle.std.proofs.Common.{◌≡◌, ℕ, zero, suc, ◌/◌, ◌<◌, true, false, List, [], ◌∷◌, length, Result, Ok, Err, refl, sym, ap, ◌∙◌, inl, inr, arith}
use Rattle.std.specs.Prelude.{OnOk, slice_set}
use Rattle.std.proofs.lemmas.Bool.{eq-eqb, leb-false, lt-leb}
use Rattle.std.proofs.lemmas.List.{length-map, map-set}
use Rattle.nvme_wire.specs.declared.command.Action.{Action}
use Rattle.nvme_wire.specs.declared.command.Action.TheVariants as actions
use Rattle.nvme_wire.specs.declared.command.Command.TheVariants.{Send}
use Rattle.nvme_wire.specs.declared.status.Status.TheVariants.{Success}
use Rattle.nvme_wire.specs.declared.zone_state.ZoneState.{ZoneState}
use Rattle.nvme_wire.specs.declared.zone_state.ZoneState.TheVariants.{Empty, ImplicitlyOpened, ExplicitlyOpened, Closed, ReadOnly, Full, Offline}
use Rattle.zone_states.specs.declared.geometry.Geometry.{Geometry}
use Rattle.zone_states.specs.Transition.{is_active, state_after}
use Rattle.zone_states.specs.Zone.{Zone}
use Rattle.drive_port.specs.declared.calls.PortFault.{PortFault}
use Rattle.drive_port.specs.declared.calls.PortFault.TheVariants.{Refused, Memory, Failed, Stopped}
use Rattle.drive_port.specs.Drive.{DriveState, ClosesOne, IsClosing, IsLawful}
use Rattle.drive_port.specs.Step.{Effect, blocks_after, is_refusal, send_checks, zone_at}
use Rattle.drive_port.specs.Contents.{Content, Resets, SameContents, active, content_at, content_of, contents, is_usable, usage_of}
use Rattle.drive_port.specs.Calls.{CanClose, CanReset, CloseGives, CloseLeaves, ClosedZone, IsNotRefused, Leaves, ResetGives, ResetKeeps, ResetLeaves, ResetZone, SendGives, zone_from}
use Rattle.drive_port.proofs.ClosingLaws.{IsClosing-set, IsClosing-trans, active-closes, content_at-closing, content_of-closes, contents-closing, zone_at-closing}
use Rattle.drive_port.proofs.StepLaws.{counts-success, outcome-passes, refused-closing, same_contents-closing, same_contents-failed, same_contents-same, succeeded, succeeds}
use Rattle.drive_port.proofs.HaltLaws.{left-done}
use Rattle.drive_port.proofs.CheckLaws.{AllPass}
use Rattle.drive_port.proofs.AppendLaws.{zone-in_range}

-- ---- one zone

closable-passed : (state : ZoneState) → is_refusal (state_after state actions.Close) ≡ false → is_active state ≡ true
closable-passed Empty e = sym e
closable-passed ImplicitlyOpened e = refl
closable-passed ExplicitlyOpened e = refl
closable-passed Closed e = refl
closable-passed ReadOnly e = sym e
closable-passed Full e = sym e
closable-passed Offline e = sym e

closable-passes : (state : ZoneState) → is_active state ≡ true → state_after state actions.Close ≡ Ok Closed
closable-passes Empty a = absurd (cc a)
closable-passes ImplicitlyOpened a = refl
closable-passes ExplicitlyOpened a = refl
closable-passes Closed a = refl
closable-passes ReadOnly a = absurd (cc a)
closable-passes Full a = absurd (cc a)
closable-passes Offline a = absurd (cc a)

resettable-passed : (state : ZoneState) → is_refusal (state_after state actions.Reset) ≡ false → is_usable (usage_of state) ≡ true
resettable-passed Empty e = refl
resettable-passed ImplicitlyOpened e = refl
resettable-passed ExplicitlyOpened e = refl
resettable-passed Closed e = refl
resettable-passed ReadOnly e = sym e
resettable-passed Full e = refl
resettable-passed Offline e = sym e

resettable-passes : (state : ZoneState) → is_usable (usage_of state) ≡ true → state_after state actions.Reset ≡ Ok Empty
resettable-passes Empty u = refl
resettable-passes ImplicitlyOpened u = refl
resettable-passes ExplicitlyOpened u = refl
resettable-passes Closed u = refl
resettable-passes ReadOnly u = absurd (cc u)
resettable-passes Full u = refl
resettable-passes Offline u = absurd (cc u)

-- ---- a Send that succeeded

-- the action gives every zone that it takes this state
abbrev pub Gives : Action → ZoneState → Type 0
Gives action next = (state : ZoneState) → is_refusal (state_after state action) ≡ false → state_after state action ≡ Ok next

closes : Gives actions.Close Closed
closes state e = closable-passes state (closable-passed state e)

resets : Gives actions.Reset Empty
resets state e = resettable-passes state (resettable-passed state e)

-- the zones that it leaves
pub sent-zones : (geometry : Geometry) (old new : List Zone) (start : ℕ) (action : Action) (next : ZoneState) (bytes returned : List ℕ) (value : ℕ) → Gives action next
    → Effect geometry old (Ok (Send start action false)) bytes Success value returned new
    → IsClosing (slice_set old (start / geometry.size) (record { state = next; blocks = blocks_after action (zone_at old (start / geometry.size)).blocks })) new
sent-zones geometry old new start action next bytes returned value is effect =
    let s = succeeded geometry old new (Ok (Send start action false)) bytes returned value effect in
    let gives = outcome-passes geometry effect.middle (Ok (Send start action false)) bytes s.passed in
    let index = start / geometry.size in
    let state = is (zone_at effect.middle index).state s.passed.1.1.0 in
    let one = zone_at-closing old effect.middle index effect.before in
    let was : Zone = record { state = next; blocks = blocks_after action (zone_at old index).blocks } in
    let now : Zone = record { state = next; blocks = blocks_after action (zone_at effect.middle index).blocks } in
    let both : ClosesOne was now = record { blocks = ap (blocks_after action) one.blocks; state = inl refl } in
    let after : IsClosing (slice_set effect.middle index now) new = rw (gives, state) at effect.after in
    IsClosing-trans (slice_set old index was) (slice_set effect.middle index now) new
    (IsClosing-set old effect.middle index was now effect.before both) after

-- what its call leaves
pub send-leaves : {V : Type 0} (old new : DriveState) (start : ℕ) (action : Action) (next : ZoneState) (result : Result V PortFault) → Gives action next
    → SendGives old start action result new → Leaves old start (record { state = next; blocks = blocks_after action (zone_from old start).blocks }) result new
send-leaves old new start action next (Ok value) is gives = sent-zones old.geometry old.zones new.zones start action next [] gives.1.1.held 0 is gives.1.1.effect
send-leaves old new start action next (Err (Refused status)) is gives = refused-closing old new (Send start action false) [] gives.0 status gives.1
send-leaves old new start action next (Err Memory) is gives = gives.1.1.1
send-leaves old new start action next (Err Failed) is gives = gives.1.1.closing
send-leaves old new start action next (Err Stopped) is gives =
    elim (left-done old.geometry old.zones new.zones (Send start action false) [] refl gives.1.1.left) [
      | inl closing ↦ inl closing
      | inr done ↦ inr (sent-zones old.geometry old.zones new.zones start action next [] done.returned done.value is done.effect)
    ]

-- the zones after a Close
pub close-leaves : {V : Type 0} (old new : DriveState) (start : ℕ) (result : Result V PortFault) → CloseGives old start result new → CloseLeaves old start result new
close-leaves {V = V} old new start result gives = send-leaves {V = V} old new start actions.Close Closed result closes gives

-- the zones after a Reset
pub reset-leaves : {V : Type 0} (old new : DriveState) (start : ℕ) (result : Result V PortFault) → ResetGives old start result new → ResetLeaves old start result new
reset-leaves {V = V} old new start result gives = send-leaves {V = V} old new start actions.Reset Empty result resets gives

-- ---- a Reset

effect-resets : (old : DriveState) (new : List Zone) (start : ℕ) (bytes returned : List ℕ) (value : ℕ) → IsLawful old
    → Effect old.geometry old.zones (Ok (Send start actions.Reset false)) bytes Success value returned new
    → Resets (contents old.zones) (contents new) (start / old.geometry.size)
effect-resets old new start bytes returned value lawful effect =
    let s = succeeded old.geometry old.zones new (Ok (Send start actions.Reset false)) bytes returned value effect in
    let index = start / old.geometry.size in
    let at : content_at (contents old.zones) index ≡ content_of (zone_at effect.middle index) = content_at-closing old.zones effect.middle index effect.before in
    let index_low = zone-in_range old start lawful (leb-false _ _ s.passed.1.0) in
    let usable = resettable-passed (zone_at effect.middle index).state s.passed.1.1.0 in
    let zones = sent-zones old.geometry old.zones new start actions.Reset Empty bytes returned value resets effect in
    record {
      in_range = omega (arith, index_low, length-map old.zones content_of);
      usable = rw at usable;
      zones = contents-closing _ _ zones ∙ map-set content_of old.zones index (record { state = Empty; blocks = [] });
    }

-- a Reset that succeeded
pub reset-if_ok : {V : Type 0} (old new : DriveState) (start : ℕ) (result : Result V PortFault) → IsLawful old
    → ResetGives old start result new → OnOk result (ResetZone old new start)
reset-if_ok old new start (Ok value) lawful gives =
    let step = gives.1.1 in
    record {
      geometry = step.geometry;
      counts = counts-success old new (Ok (Send start actions.Reset false)) [] gives.0 0 step;
      contents = effect-resets old new.zones start [] step.held 0 lawful step.effect;
    }
reset-if_ok old new start (Err fault) lawful gives = tt

-- a Reset that did not
pub reset-keeps : {V : Type 0} (old new : DriveState) (start : ℕ) (result : Result V PortFault) → IsLawful old → new.geometry ≡ old.geometry
    → ResetGives old start result new → ResetKeeps old start result new
reset-keeps old new start (Ok value) lawful geometry gives = tt
reset-keeps old new start (Err (Refused status)) lawful geometry gives =
    same_contents-closing old new geometry (refused-closing old new (Send start actions.Reset false) [] gives.0 status gives.1)
reset-keeps old new start (Err Memory) lawful geometry gives = same_contents-same old new gives.1.1.1
reset-keeps old new start (Err Failed) lawful geometry gives = same_contents-failed old new gives.1.1
reset-keeps old new start (Err Stopped) lawful geometry gives =
    elim (left-done old.geometry old.zones new.zones (Send start actions.Reset false) [] refl gives.1.1.left) [
      | inl closing ↦ inl (same_contents-closing old new geometry closing)
      | inr done ↦ inr (record { geometry = geometry; contents = effect-resets old new.zones start [] done.returned done.value lawful done.effect })
    ]

-- ---- a Close

effect-closes : (old : DriveState) (new : List Zone) (start : ℕ) (bytes returned : List ℕ) (value : ℕ) → IsLawful old
    → Effect old.geometry old.zones (Ok (Send start actions.Close false)) bytes Success value returned new
    → (start / old.geometry.size < length old.zones) × (is_active (zone_from old start).state ≡ true)
effect-closes old new start bytes returned value lawful effect =
    let s = succeeded old.geometry old.zones new (Ok (Send start actions.Close false)) bytes returned value effect in
    let index = start / old.geometry.size in
    let closable = closable-passed (zone_at effect.middle index).state s.passed.1.1.0 in
    (zone-in_range old start lawful (leb-false _ _ s.passed.1.0), sym (active-closes _ _ (zone_at-closing old.zones effect.middle index effect.before)) ∙ closable)

-- a Close that succeeded
pub close-if_ok : {V : Type 0} (old new : DriveState) (start : ℕ) (result : Result V PortFault) → IsLawful old
    → CloseGives old start result new → OnOk result (ClosedZone old new start)
close-if_ok old new start (Ok value) lawful gives =
    let step = gives.1.1 in
    let found = effect-closes old new.zones start [] step.held 0 lawful step.effect in
    record {
      geometry = step.geometry;
      counts = counts-success old new (Ok (Send start actions.Close false)) [] gives.0 0 step;
      in_range = found.0;
      active = found.1;
    }
close-if_ok old new start (Err fault) lawful gives = tt

usage-active : (state : ZoneState) → is_active state ≡ true → usage_of state ≡ active
usage-active Empty a = absurd (cc a)
usage-active ImplicitlyOpened a = refl
usage-active ExplicitlyOpened a = refl
usage-active Closed a = refl
usage-active ReadOnly a = absurd (cc a)
usage-active Full a = absurd (cc a)
usage-active Offline a = absurd (cc a)

-- a zone that is opened or Closed keeps its content where it is Closed
contents-closed : (zones : List Zone) (i : ℕ) → is_active (zone_at zones i).state ≡ true
    → contents (slice_set zones i (record { state = Closed; blocks = (zone_at zones i).blocks })) ≡ contents zones
contents-closed [] i a = refl
contents-closed (z ∷ zs) zero a = rw (usage-active z.state a) refl
contents-closed (z ∷ zs) (suc i) a = ap (λ (rest : List Content). content_of z ∷ rest) (contents-closed zs i a)

-- a Close keeps the contents
effect-kept : (old : DriveState) (new : List Zone) (start : ℕ) (bytes returned : List ℕ) (value : ℕ) → IsLawful old
    → Effect old.geometry old.zones (Ok (Send start actions.Close false)) bytes Success value returned new → contents new ≡ contents old.zones
effect-kept old new start bytes returned value lawful effect =
    let found = effect-closes old new start bytes returned value lawful effect in
    contents-closing _ _ (sent-zones old.geometry old.zones new start actions.Close Closed bytes returned value closes effect)
    ∙ contents-closed old.zones (start / old.geometry.size) found.1

-- a Close keeps the contents, whatever it answers
pub close-kept : {V : Type 0} (old new : DriveState) (start : ℕ) (result : Result V PortFault) → IsLawful old → new.geometry ≡ old.geometry
    → CloseGives old start result new → SameContents old new
close-kept old new start (Ok value) lawful geometry gives =
    record { geometry = geometry; contents = effect-kept old new.zones start [] gives.1.1.held 0 lawful gives.1.1.effect }
close-kept old new start (Err (Refused status)) lawful geometry gives =
    same_contents-closing old new geometry (refused-closing old new (Send start actions.Close false) [] gives.0 status gives.1)
close-kept old new start (Err Memory) lawful geometry gives = same_contents-same old new gives.1.1.1
close-kept old new start (Err Failed) lawful geometry gives = same_contents-failed old new gives.1.1
close-kept old new start (Err Stopped) lawful geometry gives =
    elim (left-done old.geometry old.zones new.zones (Send start actions.Close false) [] refl gives.1.1.left) [
      | inl closing ↦ same_contents-closing old new geometry closing
      | inr done ↦ record { geometry = geometry; contents = effect-kept old new.zones start [] done.returned done.value lawful done.effect }
    ]

-- ---- a Send that isn't refused

close-passes : (old : DriveState) (start : ℕ) (middle : List Zone) → IsClosing old.zones middle → CanClose old start
    → AllPass (send_checks old.geometry middle (zone_at middle (start / old.geometry.size)) start actions.Close)
close-passes old start middle closing can =
    let index = start / old.geometry.size in
    let is_active = active-closes (zone_at old.zones index) (zone_at middle index) (zone_at-closing old.zones middle index closing) ∙ can.active in
    let next = closable-passes (zone_at middle index).state is_active in
    (rw (eq-eqb _ _ can.aligned) refl, (lt-leb _ _ can.in_range, (rw next refl, tt)))

-- a zone that can be closed is not refused
pub close-is_taken : {V : Type 0} (old new : DriveState) (start : ℕ) (result : Result V PortFault)
    → CloseGives old start result new → CanClose old start → IsNotRefused result
close-is_taken old new start (Ok value) gives can = tt
close-is_taken old new start (Err (Refused status)) gives can =
    let step = gives.1.3 in
    gives.1.1 (succeeds old.geometry old.zones new.zones (Ok (Send start actions.Close false)) [] step.held status gives.1.2 step.effect (close-passes old start step.effect.middle step.effect.before can))
close-is_taken old new start (Err Memory) gives can = tt
close-is_taken old new start (Err Failed) gives can = tt
close-is_taken old new start (Err Stopped) gives can = tt

reset-passes : (old : DriveState) (start : ℕ) (middle : List Zone) → IsClosing old.zones middle → CanReset old start
    → AllPass (send_checks old.geometry middle (zone_at middle (start / old.geometry.size)) start actions.Reset)
reset-passes old start middle closing can =
    let index = start / old.geometry.size in
    let zone = zone_at middle index in
    let same = content_of-closes (zone_at old.zones index) zone (zone_at-closing old.zones middle index closing) in
    let usage : usage_of zone.state ≡ usage_of (zone_at old.zones index).state = ap (λ (c : Content). c.usage) same in
    let next = resettable-passes zone.state (rw usage can.usable) in
    (rw (eq-eqb _ _ can.aligned) refl, (lt-leb _ _ can.in_range, (rw next refl, tt)))

-- a zone that can be reset is not refused
pub reset-is_taken : {V : Type 0} (old new : DriveState) (start : ℕ) (result : Result V PortFault)
    → ResetGives old start result new → CanReset old start → IsNotRefused result
reset-is_taken old new start (Ok value) gives can = tt
reset-is_taken old new start (Err (Refused status)) gives can =
    let step = gives.1.3 in
    gives.1.1 (succeeds old.geometry old.zones new.zones (Ok (Send start actions.Reset false)) [] step.held status gives.1.2 step.effect (reset-passes old start step.effect.middle step.effect.before can))
reset-is_taken old new start (Err Memory) gives can = tt
reset-is_taken old new start (Err Failed) gives can = tt
reset-is_taken old new start (Err Stopped) gives can = tt
