-- What a Finish left, and which Finish a drive can't refuse.
use Rattle.std.proofs.Common.{◌≡◌, ℕ, ◌/◌, true, false, List, [], Result, Ok, Err, refl, sym, ap, ◌∙◌, inl, inr, arith}
use Rattle.std.specs.Prelude.{OnOk}
use Rattle.std.proofs.lemmas.Bool.{eq-eqb, leb-false, lt-leb}
use Rattle.std.proofs.lemmas.List.{length-map, map-set}
use Rattle.nvme_wire.specs.declared.command.Action.TheVariants as actions
use Rattle.nvme_wire.specs.declared.command.Command.TheVariants.{Send}
use Rattle.nvme_wire.specs.declared.status.Status.TheVariants.{Success}
use Rattle.nvme_wire.specs.declared.zone_state.ZoneState.{ZoneState}
use Rattle.nvme_wire.specs.declared.zone_state.ZoneState.TheVariants.{Empty, ImplicitlyOpened, ExplicitlyOpened, Closed, ReadOnly, Full, Offline}
use Rattle.zone_states.specs.Transition.{state_after}
use Rattle.zone_states.specs.Zone.{Zone}
use Rattle.drive_port.specs.declared.calls.PortFault.{PortFault}
use Rattle.drive_port.specs.declared.calls.PortFault.TheVariants.{Refused, Memory, Failed, Stopped}
use Rattle.drive_port.specs.Drive.{DriveState, IsClosing, IsLawful}
use Rattle.drive_port.specs.Step.{Effect, is_refusal, send_checks, zone_after, zone_at}
use Rattle.drive_port.specs.Contents.{Content, Finishes, content_at, content_of, contents, finished, is_usable, usage_of}
use Rattle.drive_port.specs.Calls.{CanFinish, Finished, FinishGives, FinishKeeps, FinishLeaves, IsNotRefused}
use Rattle.drive_port.proofs.ClosingLaws.{content_at-closing, content_of-closes, zone_at-closing}
use Rattle.drive_port.proofs.StepLaws.{counts-success, refused-closing, same_contents-closing, same_contents-failed, same_contents-same, succeeded, succeeds}
use Rattle.drive_port.proofs.HaltLaws.{left-done}
use Rattle.drive_port.proofs.CheckLaws.{AllPass}
use Rattle.drive_port.proofs.AppendLaws.{zone-in_range}
use Rattle.drive_port.proofs.SendLaws.{Gives, send-leaves}

-- ---- one zone

usable-passed : (state : ZoneState) → is_refusal (state_after state actions.Finish) ≡ false → is_usable (usage_of state) ≡ true
usable-passed Empty e = refl
usable-passed ImplicitlyOpened e = refl
usable-passed ExplicitlyOpened e = refl
usable-passed Closed e = refl
usable-passed ReadOnly e = sym e
usable-passed Full e = refl
usable-passed Offline e = sym e

usable-passes : (state : ZoneState) → is_usable (usage_of state) ≡ true → state_after state actions.Finish ≡ Ok Full
usable-passes Empty u = refl
usable-passes ImplicitlyOpened u = refl
usable-passes ExplicitlyOpened u = refl
usable-passes Closed u = refl
usable-passes ReadOnly u = absurd (cc u)
usable-passes Full u = refl
usable-passes Offline u = absurd (cc u)

content_of-finished : (zone : Zone) → is_usable (usage_of zone.state) ≡ true → content_of (zone_after actions.Finish zone (state_after zone.state actions.Finish)) ≡ finished (content_of zone)
content_of-finished zone u = rw (usable-passes zone.state u) refl

finishes : Gives actions.Finish Full
finishes state e = usable-passes state (usable-passed state e)

-- ---- after a Finish

effect-finishes : (old : DriveState) (new : List Zone) (start : ℕ) (bytes returned : List ℕ) (value : ℕ) → IsLawful old
    → Effect old.geometry old.zones (Ok (Send start actions.Finish false)) bytes Success value returned new
    → Finishes (contents old.zones) (contents new) (start / old.geometry.size)
effect-finishes old new start bytes returned value lawful effect =
    let s = succeeded old.geometry old.zones new (Ok (Send start actions.Finish false)) bytes returned value effect in
    let index = start / old.geometry.size in
    let zone = zone_at effect.middle index in
    let at : content_at (contents old.zones) index ≡ content_of zone = content_at-closing old.zones effect.middle index effect.before in
    let index_low = zone-in_range old start lawful (leb-false _ _ s.passed.1.0) in
    let usable = usable-passed zone.state s.passed.1.1.0 in
    record {
      in_range = omega (arith, index_low, length-map old.zones content_of);
      usable = rw at usable;
      zones = s.after ∙ map-set content_of effect.middle index (zone_after actions.Finish zone (state_after zone.state actions.Finish))
          ∙ rw (s.before, content_of-finished zone usable, at) refl;
    }

-- a Finish that succeeded
pub finish-if_ok : {V : Type 0} (old new : DriveState) (start : ℕ) (result : Result V PortFault) → IsLawful old
    → FinishGives old start result new → OnOk result (Finished old new start)
finish-if_ok old new start (Ok value) lawful gives =
    let step = gives.1.1 in
    record {
      geometry = step.geometry;
      counts = counts-success old new (Ok (Send start actions.Finish false)) [] gives.0 0 step;
      contents = effect-finishes old new.zones start [] step.held 0 lawful step.effect;
    }
finish-if_ok old new start (Err fault) lawful gives = tt

-- a Finish that did not
pub finish-keeps : {V : Type 0} (old new : DriveState) (start : ℕ) (result : Result V PortFault) → IsLawful old → new.geometry ≡ old.geometry
    → FinishGives old start result new → FinishKeeps old start result new
finish-keeps old new start (Ok value) lawful geometry gives = tt
finish-keeps old new start (Err (Refused status)) lawful geometry gives =
    same_contents-closing old new geometry (refused-closing old new (Send start actions.Finish false) [] gives.0 status gives.1)
finish-keeps old new start (Err Memory) lawful geometry gives = same_contents-same old new gives.1.1.1
finish-keeps old new start (Err Failed) lawful geometry gives = same_contents-failed old new gives.1.1
finish-keeps old new start (Err Stopped) lawful geometry gives =
    elim (left-done old.geometry old.zones new.zones (Send start actions.Finish false) [] refl gives.1.1.left) [
      | inl closing ↦ inl (same_contents-closing old new geometry closing)
      | inr done ↦ inr (record { geometry = geometry; contents = effect-finishes old new.zones start [] done.returned done.value lawful done.effect })
    ]

-- the zones after a Finish
pub finish-leaves : {V : Type 0} (old new : DriveState) (start : ℕ) (result : Result V PortFault) → FinishGives old start result new → FinishLeaves old start result new
finish-leaves {V = V} old new start result gives = send-leaves {V = V} old new start actions.Finish Full result finishes gives

-- ---- a Finish that isn't refused

finish-passes : (old : DriveState) (start : ℕ) (middle : List Zone) → IsClosing old.zones middle → CanFinish old start
    → AllPass (send_checks old.geometry middle (zone_at middle (start / old.geometry.size)) start actions.Finish)
finish-passes old start middle closing can =
    let index = start / old.geometry.size in
    let zone = zone_at middle index in
    let same = content_of-closes (zone_at old.zones index) zone (zone_at-closing old.zones middle index closing) in
    let usage : usage_of zone.state ≡ usage_of (zone_at old.zones index).state = ap (λ (c : Content). c.usage) same in
    let next = usable-passes zone.state (rw usage can.usable) in
    (rw (eq-eqb _ _ can.aligned) refl, (lt-leb _ _ can.in_range, (rw next refl, tt)))

-- a zone that can be finished is not refused
pub finish-is_taken : {V : Type 0} (old new : DriveState) (start : ℕ) (result : Result V PortFault)
    → FinishGives old start result new → CanFinish old start → IsNotRefused result
finish-is_taken old new start (Ok value) gives can = tt
finish-is_taken old new start (Err (Refused status)) gives can =
    let step = gives.1.3 in
    gives.1.1 (succeeds old.geometry old.zones new.zones (Ok (Send start actions.Finish false)) [] step.held status gives.1.2 step.effect (finish-passes old start step.effect.middle step.effect.before can))
finish-is_taken old new start (Err Memory) gives can = tt
finish-is_taken old new start (Err Failed) gives can = tt
finish-is_taken old new start (Err Stopped) gives can = tt
