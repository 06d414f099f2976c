-- What was seen stays true.
use Rattle.std.proofs.Common.{◌≡◌, ◌≢◌, ℕ, ◌+◌, ◌/◌, ◌<◌, true, false, List, ◌++◌, length, Option, Some, None, Ok, refl, sym, ap, ◌∙◌, inl, inr, arith}
use Rattle.std.specs.Prelude.{slice_set, is_some, unwrap_or, IfSome}
use Rattle.std.proofs.lemmas.List.{get_or-set_other, get_or-set_same, length-append, length-set}
use Rattle.std.proofs.lemmas.Bool.Decides.{eqb_tells}
use Rattle.nvme_wire.specs.declared.zone_state.ZoneState.{ZoneState}
use Rattle.nvme_wire.specs.declared.zone_state.ZoneState.TheVariants.{Full}
use Rattle.zone_states.specs.Zone.{Zone, cut_blocks, opened_by_write, written_zone}
use Rattle.zone_states.specs.Transition.{state_after}
use Rattle.zone_states.specs.declared.geometry.Geometry.{Geometry}
use Rattle.zone_states.proofs.Cutting.{length-cut}
use Rattle.nvme_wire.specs.declared.command.Action.{Action}
use Rattle.nvme_wire.specs.declared.command.Command.TheVariants.{Append, Send}
use Rattle.nvme_wire.specs.declared.status.Status.TheVariants.{Success}
use Rattle.drive_port.specs.Drive.{ClosesOne, IsClosing}
use Rattle.drive_port.specs.Step.{Effect, is_refusal, nowhere, zone_after, zone_at}
use Rattle.drive_port.proofs.ClosingLaws.{length-closing, zone_at-closing}
use Rattle.drive_port.proofs.StepLaws.{outcome-passes, succeeded}
use Rattle.passthrough.specs.Seen.{AreSeen, IsSeen, IsState, has_pointer, no_zone, seen_at}
use Rattle.passthrough.specs.declared.seen_zone.SeenZone.{SeenZone}

-- ---- an Append

-- a zone that has a pointer was seen in a state that has one
pub pointer-seen : (seen state : ZoneState) → IsState seen state → has_pointer state ≡ true → has_pointer seen ≡ true
pointer-seen seen state is pointed = elim is [
  | inl same ↦ rw (← same) pointed
  | inr closed ↦ rw closed.0 refl
]

-- and how many of its blocks are written was seen
pub seen-count : (zone : Zone) (seen : SeenZone) → IsSeen zone seen → has_pointer zone.state ≡ true → unwrap_or seen.written 0 ≡ length zone.blocks
seen-count zone seen is pointed = count seen.written is.written (is.known (pointer-seen seen.state zone.state is.state pointed))
  where
    count : (written : Option ℕ) → IfSome written (λ n. length zone.blocks ≡ n) → is_some written ≡ true → unwrap_or written 0 ≡ length zone.blocks
    count None is some = absurd (cc some)
    count (Some n) is some = sym is

-- how many blocks are written after a write
written-length : (capacity block blocks : ℕ) (zone : Zone) (bytes : List ℕ) → length (written_zone capacity zone (cut_blocks block blocks bytes)).blocks ≡ length zone.blocks + blocks
written-length capacity block blocks zone bytes = omega (arith, length-append zone.blocks (cut_blocks block blocks bytes), length-cut block blocks bytes)

-- a zone that is filled by a write
pub seen-filled : (capacity block blocks written : ℕ) (zone : Zone) (bytes : List ℕ) → written ≡ length zone.blocks + blocks → written ≡ capacity
    → IsSeen (written_zone capacity zone (cut_blocks block blocks bytes)) (record { state = Full; written = Some written; changed = true })
seen-filled capacity block blocks written zone bytes e filled =
    let all = written-length capacity block blocks zone bytes in
    record {
      state = inl (full (omega (arith, all, e, filled)));
      written = omega (arith, all, e);
      known = λ pointed. absurd (cc pointed);
    }
  where
    full : length (zone.blocks ++ cut_blocks block blocks bytes) ≡ capacity → (written_zone capacity zone (cut_blocks block blocks bytes)).state ≡ Full
    full at = elim (eqb_tells (length (zone.blocks ++ cut_blocks block blocks bytes)) capacity) [
      | inl same ↦ rw same.0 refl
      | inr other ↦ absurd (other.1 at)
    ]

-- a state that was seen, after a write
opened-state : (seen state : ZoneState) → IsState seen state → IsState (opened_by_write seen) (opened_by_write state)
opened-state seen state is = elim is [
  | inl same ↦ inl (ap opened_by_write same)
  | inr closed ↦ rw (closed.0, closed.1) (inl refl)
]

-- a zone that is not filled by it
pub seen-written : (capacity block blocks written : ℕ) (seen : SeenZone) (zone : Zone) (bytes : List ℕ) → IsSeen zone seen
    → written ≡ length zone.blocks + blocks → written ≢ capacity
    → IsSeen (written_zone capacity zone (cut_blocks block blocks bytes)) (record { state = opened_by_write seen.state; written = Some written; changed = true })
seen-written capacity block blocks written seen zone bytes is e unfilled =
    let all = written-length capacity block blocks zone bytes in
    record {
      state = rw (opened (λ at. unfilled (omega (arith, all, e, at)))) (opened-state seen.state zone.state is.state);
      written = omega (arith, all, e);
      known = λ pointed. refl;
    }
  where
    opened : length (zone.blocks ++ cut_blocks block blocks bytes) ≢ capacity → (written_zone capacity zone (cut_blocks block blocks bytes)).state ≡ opened_by_write zone.state
    opened differ = elim (eqb_tells (length (zone.blocks ++ cut_blocks block blocks bytes)) capacity) [
      | inl same ↦ absurd (differ same.1)
      | inr other ↦ rw other.0 refl
    ]

-- ---- closings

-- a zone that the controller closes is still as it was seen
pub seen-closes : (old new : Zone) (seen : SeenZone) → IsSeen old seen → ClosesOne old new → IsSeen new seen
seen-closes old new seen is one = record {
  state = elim one.state [
    | inl same ↦ rw same is.state
    | inr closed ↦ elim is.state [
      | inl as_seen ↦ inr (sym as_seen ∙ closed.0, closed.1)
      | inr before ↦ inr (before.0, closed.1)
    ]
  ];
  written = rw one.blocks is.written;
  known = is.known;
}

-- and so are all zones after a closing
pub seen-closing : (old new : List Zone) (seen : List SeenZone) → AreSeen old seen → IsClosing old new → AreSeen new seen
seen-closing old new seen are closing =
    let same = length-closing old new closing in
    record {
      count = are.count ∙ sym same;
      each = λ number low. seen-closes _ _ _ (are.each number (omega (arith, low, same))) (zone_at-closing old new number closing);
    }

-- ---- the table

-- one zone is another
pub seen-set : (zones : List Zone) (seen : List SeenZone) (index : ℕ) (zone : Zone) (now : SeenZone) → AreSeen zones seen
    → IsSeen zone now → AreSeen (slice_set zones index zone) (slice_set seen index now)
seen-set zones seen index zone now are is =
    record {
      count = length-set seen index now ∙ are.count ∙ sym (length-set zones index zone);
      each = λ number low. each number (rw (length-set zones index zone) at low);
    }
  where
    each : (number : ℕ) → number < length zones → IsSeen (zone_at (slice_set zones index zone) number) (seen_at (slice_set seen index now) number)
    each number low = elim (eqb_tells number index) [
      | inl same ↦ rw (same.1, get_or-set_same zones index zone nowhere (omega (arith, low, same.1)), get_or-set_same seen index now no_zone (omega (arith, low, same.1, are.count))) is
      | inr other ↦ rw (get_or-set_other zones index number zone nowhere other.1, get_or-set_other seen index number now no_zone other.1) (are.each number low)
    ]

-- what is seen after an Append
pub seen-append : (geometry : Geometry) (old new : List Zone) (seen : List SeenZone) (zslba blocks value : ℕ) (bytes returned : List ℕ) (now : SeenZone)
    → AreSeen old seen → Effect geometry old (Ok (Append zslba blocks)) bytes Success value returned new
    → ((zone : Zone) → ClosesOne (zone_at old (zslba / geometry.size)) zone → IsSeen (written_zone geometry.capacity zone (cut_blocks geometry.block blocks bytes)) now)
    → AreSeen new (slice_set seen (zslba / geometry.size) now)
seen-append geometry old new seen zslba blocks value bytes returned now are effect sees =
    let s = succeeded geometry old new (Ok (Append zslba blocks)) bytes returned value effect in
    let gives = outcome-passes geometry effect.middle (Ok (Append zslba blocks)) bytes s.passed in
    let index = zslba / geometry.size in
    let one = zone_at-closing old effect.middle index effect.before in
    let middle = seen-closing old effect.middle seen are effect.before in
    let set = seen-set effect.middle seen index (written_zone geometry.capacity (zone_at effect.middle index) (cut_blocks geometry.block blocks bytes)) now middle (sees _ one) in
    seen-closing _ new _ set (rw gives at effect.after)

-- what is seen after an action to one zone
pub seen-action : (geometry : Geometry) (old new : List Zone) (seen : List SeenZone) (slba : ℕ) (action : Action) (value : ℕ) (bytes returned : List ℕ) (now : SeenZone)
    → AreSeen old seen → Effect geometry old (Ok (Send slba action false)) bytes Success value returned new
    → ((zone : Zone) → ClosesOne (zone_at old (slba / geometry.size)) zone → is_refusal (state_after zone.state action) ≡ false
    → IsSeen (zone_after action zone (state_after zone.state action)) now)
    → AreSeen new (slice_set seen (slba / geometry.size) now)
seen-action geometry old new seen slba action value bytes returned now are effect sees =
    let s = succeeded geometry old new (Ok (Send slba action false)) bytes returned value effect in
    let gives = outcome-passes geometry effect.middle (Ok (Send slba action false)) bytes s.passed in
    let index = slba / geometry.size in
    let zone = zone_at effect.middle index in
    let one = zone_at-closing old effect.middle index effect.before in
    let middle = seen-closing old effect.middle seen are effect.before in
    let set = seen-set effect.middle seen index (zone_after action zone (state_after zone.state action)) now middle (sees zone one s.passed.1.1.0) in
    seen-closing _ new _ set (rw gives at effect.after)
