-- What an Append left, and which Append a drive can't refuse.
use Rattle.std.proofs.Common.{◌≡◌, ℕ, ◌+◌, ◌/◌, ◌%◌, ◌*◌, ◌<◌, ◌⊎◌, Bool, true, false, not, eqb, cond, List, ◌++◌, length, take, Result, Ok, Err, refl, ap, ◌∙◌, inl, inr, arith}
use Rattle.std.specs.Prelude.{IfOk, nat_lt, slice_set, ◌==◌}
use Rattle.std.proofs.lemmas.Bool.{eq-eqb, leb-false, le-ltb, lt-leb, ltb-false}
use Rattle.std.proofs.lemmas.List.{length-map, map-set, take_all}
use Rattle.std.proofs.Math.Nat.{div-lt_iff_lt-mul}
use Rattle.nvme_wire.specs.declared.command.Command.TheVariants.{Append}
use Rattle.nvme_wire.specs.declared.status.Status.TheVariants.{Success}
use Rattle.nvme_wire.specs.declared.zone_state.ZoneState.{ZoneState}
use Rattle.nvme_wire.specs.declared.zone_state.ZoneState.TheVariants.{Empty, ImplicitlyOpened, ExplicitlyOpened, Closed, ReadOnly, Full, Offline}
use Rattle.zone_states.specs.declared.geometry.Geometry.{Geometry}
use Rattle.zone_states.specs.Zone.{Zone, cut_blocks, opened_by_write, written_zone}
use Rattle.zone_states.proofs.Cutting.{length-cut, cut-front}
use Rattle.drive_port.specs.declared.calls.PortFault.{PortFault}
use Rattle.drive_port.specs.declared.calls.PortFault.TheVariants.{Refused, Memory, Failed, Stopped}
use Rattle.drive_port.specs.Drive.{ClosesOne, DriveState, IsClosing, IsLawful}
use Rattle.drive_port.specs.Step.{Effect, Performs, append_checks, end_of, zone_at}
use Rattle.drive_port.specs.Contents.{Appends, Content, content_at, content_of, contents, filled, full, active, is_writable, usage_of}
use Rattle.drive_port.specs.Halting.{LeftBy, TornAppend}
use Rattle.drive_port.specs.Calls.{Appended, AppendGives, AppendKeeps, AppendLeaves, CanAppend, IsNotRefused, IsWholeBlocks, block_count}
use Rattle.drive_port.proofs.ClosingLaws.{IsClosing-set_after, content_at-closing, content_of-closes, zone_at-closing}
use Rattle.drive_port.proofs.StepLaws.{counts-success, outcome-passes, refused-closing, same_contents-closing, same_contents-failed, same_contents-same, succeeded, succeeds}
use Rattle.drive_port.proofs.HaltLaws.{left-front}
use Rattle.drive_port.proofs.CheckLaws.{AllPass, data-pass, resource-pass, state-pass, state-passed}

-- ---- one zone

usage-written : (reached : Bool) (state : ZoneState) → is_writable (usage_of state) ≡ true → usage_of (cond reached Full (opened_by_write state)) ≡ cond reached full active
usage-written true state w = refl
usage-written false Empty w = refl
usage-written false ImplicitlyOpened w = refl
usage-written false ExplicitlyOpened w = refl
usage-written false Closed w = refl
usage-written false ReadOnly w = absurd (cc w)
usage-written false Full w = absurd (cc w)
usage-written false Offline w = absurd (cc w)

content_of-written : (capacity : ℕ) (zone : Zone) (blocks : List (List ℕ)) → is_writable (usage_of zone.state) ≡ true
    → content_of (written_zone capacity zone blocks) ≡ filled capacity (zone.blocks ++ blocks)
content_of-written capacity zone blocks w = rw (usage-written (eqb (length (zone.blocks ++ blocks)) capacity) zone.state w) refl

-- ---- an Append that succeeded

-- the zone that holds an address
pub zone-in_range : (drive : DriveState) (start : ℕ) → IsLawful drive → start < end_of drive.geometry → start / drive.geometry.size < length drive.zones
zone-in_range drive start lawful lt =
    let some : 0 < drive.geometry.size = grind (arith, lt) in
    let below : start / drive.geometry.size < drive.geometry.zones = (div-lt_iff_lt-mul some).1 lt in
    omega (arith, below, lawful.count)

-- the contents that it leaves
effect-appends : (old : DriveState) (new : List Zone) (start blocks : ℕ) (bytes returned : List ℕ) (value : ℕ) → IsLawful old
    → Effect old.geometry old.zones (Ok (Append start blocks)) bytes Success value returned new
    → Appends (contents old.zones) (contents new) old.geometry.capacity (start / old.geometry.size) (cut_blocks old.geometry.block blocks bytes)
effect-appends old new start blocks bytes returned value lawful effect =
    let s = succeeded old.geometry old.zones new (Ok (Append start blocks)) bytes returned value effect in
    let index = start / old.geometry.size in
    let zone = zone_at effect.middle index in
    let cut = cut_blocks old.geometry.block blocks bytes in
    let p = s.passed in
    let at : content_at (contents old.zones) index ≡ content_of zone = content_at-closing old.zones effect.middle index effect.before in
    let index_low = zone-in_range old start lawful (leb-false _ _ p.1.1.1.0) in
    let writable = state-passed zone (p.1.1.1.1.0, (p.1.1.1.1.1.0, (p.1.1.1.1.1.1.0, tt))) in
    let room = ltb-false _ _ p.1.1.1.1.1.1.1.0 in
    record {
      in_range = omega (arith, index_low, length-map old.zones content_of);
      writable = rw at writable;
      room = rw (at, length-cut old.geometry.block blocks bytes) room;
      zones = s.after ∙ map-set content_of effect.middle index (written_zone old.geometry.capacity zone cut)
          ∙ rw (s.before, content_of-written old.geometry.capacity zone cut writable, at) refl;
    }

-- an Append that succeeded
append-succeeded : (old new : DriveState) (start : ℕ) (bytes returned : List ℕ) (value : ℕ) → IsLawful old
    → Performs old (Ok (Append start (block_count old.geometry bytes))) bytes Success value returned new → Appended old new start bytes value
append-succeeded old new start bytes returned value lawful step =
    let blocks = block_count old.geometry bytes in
    let s = succeeded old.geometry old.zones new.zones (Ok (Append start blocks)) bytes step.held value step.effect in
    let index = start / old.geometry.size in
    let at : content_at (contents old.zones) index ≡ content_of (zone_at step.effect.middle index) = content_at-closing old.zones step.effect.middle index step.effect.before in
    record {
      geometry = step.geometry;
      counts = counts-success old new (Ok (Append start blocks)) bytes returned value step;
      address_is = s.value_is ∙ rw at refl;
      contents = effect-appends old new.zones start blocks bytes step.held value lawful step.effect;
    }

-- ---- the zones that an Append leaves

-- blocks written to a zone that was implicitly opened and then closed open it again
written-closes : (capacity : ℕ) (zone closed : Zone) (blocks : List (List ℕ)) → ClosesOne zone closed → written_zone capacity closed blocks ≡ written_zone capacity zone blocks
written-closes capacity zone closed blocks one =
    elim one.state [
      | inl same ↦ rw (same, one.blocks) refl
      | inr closing ↦ rw (closing.0, closing.1, one.blocks) refl
    ]

-- its zone has the blocks, up to closings
effect-written : (geometry : Geometry) (old new : List Zone) (start blocks : ℕ) (bytes returned : List ℕ) (value : ℕ)
    → Effect geometry old (Ok (Append start blocks)) bytes Success value returned new
    → IsClosing (slice_set old (start / geometry.size) (written_zone geometry.capacity (zone_at old (start / geometry.size)) (cut_blocks geometry.block blocks bytes))) new
effect-written geometry old new start blocks bytes returned value effect =
    let index = start / geometry.size in
    let cut = cut_blocks geometry.block blocks bytes in
    let s = succeeded geometry old new (Ok (Append start blocks)) bytes returned value effect in
    let same = written-closes geometry.capacity (zone_at old index) (zone_at effect.middle index) cut (zone_at-closing old effect.middle index effect.before) in
    IsClosing-set_after old effect.middle new index (written_zone geometry.capacity (zone_at old index) cut) effect.before
    (rw (outcome-passes geometry effect.middle (Ok (Append start blocks)) bytes s.passed, same) at effect.after)

-- where the device stopped, a front may be written
front-of : (old : DriveState) (new : List Zone) (start : ℕ) (bytes : List ℕ) → IsWholeBlocks old.geometry.block bytes
    → LeftBy old.geometry old.zones (Ok (Append start (block_count old.geometry bytes))) bytes new
    → IsClosing old.zones new ⊎ TornAppend old.geometry old.zones start (block_count old.geometry bytes) bytes new
front-of old new start bytes whole left =
    left-front old.geometry old.zones new start (block_count old.geometry bytes) bytes whole.some (take_all _ bytes (omega (arith, whole.whole))) left

-- the zones after an Append
pub append-leaves : (old new : DriveState) (start : ℕ) (bytes : List ℕ) (result : Result ℕ PortFault) → IsWholeBlocks old.geometry.block bytes
    → AppendGives old start bytes result new → AppendLeaves old start bytes result new
append-leaves old new start bytes (Ok value) whole gives =
    effect-written old.geometry old.zones new.zones start (block_count old.geometry bytes) bytes gives.1.1.held value gives.1.1.effect
append-leaves old new start bytes (Err (Refused status)) whole gives = refused-closing old new (Append start (block_count old.geometry bytes)) bytes gives.0 status gives.1
append-leaves old new start bytes (Err Memory) whole gives = gives.1.1.1
append-leaves old new start bytes (Err Failed) whole gives = gives.1.1.closing
append-leaves old new start bytes (Err Stopped) whole gives =
    let n = block_count old.geometry bytes in
    elim (front-of old new.zones start bytes whole gives.1.1.left) [
      | inl closing ↦ inl closing
      | inr torn ↦ inr (record {
        j = torn.j;
        some = torn.some;
        few = omega (arith, torn.few, length-cut old.geometry.block n bytes);
        zones = rw (← cut-front old.geometry.block n torn.j bytes torn.few)
            (effect-written old.geometry old.zones new.zones start torn.j (take (torn.j * old.geometry.block) bytes) torn.returned torn.value torn.effect);
      })
    ]

-- an Append that did not succeed
pub append-keeps : (old new : DriveState) (start : ℕ) (bytes : List ℕ) (result : Result ℕ PortFault) → IsLawful old → new.geometry ≡ old.geometry
    → IsWholeBlocks old.geometry.block bytes → AppendGives old start bytes result new → AppendKeeps old start bytes result new
append-keeps old new start bytes (Ok value) lawful geometry whole gives = tt
append-keeps old new start bytes (Err (Refused status)) lawful geometry whole gives =
    same_contents-closing old new geometry (refused-closing old new (Append start (block_count old.geometry bytes)) bytes gives.0 status gives.1)
append-keeps old new start bytes (Err Memory) lawful geometry whole gives = same_contents-same old new gives.1.1.1
append-keeps old new start bytes (Err Failed) lawful geometry whole gives = same_contents-failed old new gives.1.1
append-keeps old new start bytes (Err Stopped) lawful geometry whole gives =
    let n = block_count old.geometry bytes in
    elim (front-of old new.zones start bytes whole gives.1.1.left) [
      | inl closing ↦ inl (same_contents-closing old new geometry closing)
      | inr torn ↦ inr (record {
        geometry = geometry;
        j = torn.j;
        some = torn.some;
        few = omega (arith, torn.few, length-cut old.geometry.block n bytes);
        contents = rw (← cut-front old.geometry.block n torn.j bytes torn.few)
            (effect-appends old new.zones start torn.j (take (torn.j * old.geometry.block) bytes) torn.returned torn.value lawful torn.effect);
      })
    ]

-- ---- an Append that isn't refused

append-passes : (old : DriveState) (start : ℕ) (bytes : List ℕ) (middle : List Zone) → IsLawful old → IsClosing old.zones middle
    → IsWholeBlocks old.geometry.block bytes → CanAppend old start (block_count old.geometry bytes)
    → AllPass (append_checks old.geometry middle (zone_at middle (start / old.geometry.size)) start (block_count old.geometry bytes) bytes)
append-passes old start bytes middle lawful closing whole can =
    let index = start / old.geometry.size in
    let zone = zone_at middle index in
    let same = content_of-closes (zone_at old.zones index) zone (zone_at-closing old.zones middle index closing) in
    let usage : usage_of zone.state ≡ usage_of (zone_at old.zones index).state = ap (λ (c : Content). c.usage) same in
    let blocks : zone.blocks ≡ (zone_at old.zones index).blocks = ap (λ (c : Content). c.blocks) same in
    let low = zone-in_range old start lawful can.in_range in
    let states = state-pass zone (rw usage can.writable) in
    let room : nat_lt old.geometry.capacity (length zone.blocks + block_count old.geometry bytes) ≡ false = rw blocks (le-ltb _ _ can.room) in
    let resources = resource-pass old.geometry old.zones middle index closing low can.active can.open_zones in
    let aligned : not (start % old.geometry.size == 0) ≡ false = rw (eq-eqb _ _ can.aligned) refl in
    let fits = data-pass old.geometry bytes whole can.few in
    (fits.0, (fits.1.0, (aligned, (lt-leb _ _ can.in_range, (states.0, (states.1.0, (states.1.1.0, (room, resources))))))))

-- one that did, by the answer
pub append-if_ok : (old new : DriveState) (start : ℕ) (bytes : List ℕ) (result : Result ℕ PortFault) → IsLawful old
    → AppendGives old start bytes result new → IfOk result (λ address. Appended old new start bytes address)
append-if_ok old new start bytes (Ok value) lawful gives = append-succeeded old new start bytes gives.0 value lawful gives.1.1
append-if_ok old new start bytes (Err fault) lawful gives = tt

-- blocks that can be appended are not refused
pub append-is_taken : (old new : DriveState) (start : ℕ) (bytes : List ℕ) (result : Result ℕ PortFault) → IsLawful old
    → IsWholeBlocks old.geometry.block bytes → AppendGives old start bytes result new → CanAppend old start (block_count old.geometry bytes) → IsNotRefused result
append-is_taken old new start bytes (Ok value) lawful whole gives can = tt
append-is_taken old new start bytes (Err (Refused status)) lawful whole gives can =
    let step = gives.1.3 in
    gives.1.1 (succeeds old.geometry old.zones new.zones (Ok (Append start (block_count old.geometry bytes))) bytes step.held status gives.1.2 step.effect (append-passes old start bytes step.effect.middle lawful step.effect.before whole can))
append-is_taken old new start bytes (Err Memory) lawful whole gives can = tt
append-is_taken old new start bytes (Err Failed) lawful whole gives can = tt
append-is_taken old new start bytes (Err Stopped) lawful whole gives can = tt
