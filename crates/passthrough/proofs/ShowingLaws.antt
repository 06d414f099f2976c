-- What a report shows of the zones that were seen, and what is seen after it.
use Rattle.std.proofs.Common.{◌≡◌, ◌≢◌, ◌⊎◌, ℕ, ◌+◌, ◌-◌, ◌*◌, ◌/◌, ◌<◌, ◌≤◌, true, List, length, Option, Some, None, refl, sym, ap, ◌∙◌, inl, inr, arith}
use Rattle.std.specs.Prelude.{slice_set, unwrap_or, IfSome, is_some}
use Rattle.std.proofs.lemmas.List.{get_or-set_other, get_or-set_same, length-set}
use Rattle.std.proofs.lemmas.Bool.Decides.{leb_tells}
use Rattle.std.proofs.Math.Nat.{eq-or-lt_of_le, mul-div_cancel}
use Rattle.nvme_wire.specs.Descriptor.{state_code, state_of}
use Rattle.nvme_wire.specs.declared.zone_state.ZoneState.{ZoneState}
use Rattle.nvme_wire.specs.declared.zone_state.ZoneState.TheVariants.{Empty, ImplicitlyOpened, ExplicitlyOpened, Closed, ReadOnly, Full, Offline}
use Rattle.zone_states.specs.Zone.{Zone}
use Rattle.zone_states.specs.declared.geometry.Geometry.{Geometry}
use Rattle.zone_report.specs.Report.{pointer_of}
use Rattle.drive_port.specs.Drive.{ClosesOne, IsClosing}
use Rattle.drive_port.specs.Step.{zone_at}
use Rattle.drive_port.proofs.ClosingLaws.{IsClosing-trans, length-closing, zone_at-closing}
use Rattle.passthrough.specs.Premise.{IsSameZone, MayShow, Reports, Shows, descriptor_in, is_closable, state_in}
use Rattle.passthrough.specs.Seen.{AreSeen, IsSeen, IsState, has_pointer, no_zone, seen_at}
use Rattle.passthrough.specs.Showing.{AreShown, IsShown, LooksLike, SeesStates, WereSeen, now_seen}
use Rattle.passthrough.specs.declared.seen_zone.SeenZone.{SeenZone}
use Rattle.passthrough.proofs.SeenLaws.{pointer-seen, seen-closes}

-- ---- one descriptor more

pub shown-more : (geometry : Geometry) (first : ℕ) (seen : List SeenZone) (report : List ℕ) (count : ℕ) (state : ZoneState) → AreShown geometry first seen report count
    → IsShown geometry (first + count) (seen_at seen (first + count)) (descriptor_in report count) state → AreShown geometry first seen report (count + 1)
shown-more geometry first seen report count state are is = λ i low.
    let few : i ≤ count = omega (arith, low) in
    elim (eq-or-lt_of_le few) [
      | inl same ↦ rw same (state, is)
      | inr before ↦ are i before
    ]

-- one state more is seen
pub sees-more : (first count : ℕ) (report : List ℕ) (old middle new : List SeenZone) → SeesStates first count report old middle → first + count < length old
    → new ≡ slice_set middle (first + count) (now_seen (seen_at middle (first + count)) (state_of (state_in (descriptor_in report count))))
    → SeesStates first (count + 1) report old new
sees-more first count report old middle new sees low e = record {
  length_is = rw e (length-set middle (first + count) _ ∙ sees.length_is);
  others = λ number outside. rw e (get_or-set_other middle (first + count) number _ no_zone (apart number outside) ∙ sees.others number (outer number outside));
  states = λ i below.
      let few : i ≤ count = omega (arith, below) in
      elim (eq-or-lt_of_le few) [
        | inl same ↦ rw (same, e) (get_or-set_same middle (first + count) _ no_zone (omega (arith, low, sees.length_is))
            ∙ ap (λ (row : SeenZone). now_seen row (state_of (state_in (descriptor_in report count)))) (sees.others (first + count) (inr (omega arith))))
        | inr before ↦ rw e (get_or-set_other middle (first + count) (first + i) _ no_zone (λ h. absurd (omega (arith, h, before))) ∙ sees.states i before)
      ];
}
  where
    apart : (number : ℕ) → (number < first) ⊎ (first + (count + 1) ≤ number) → number ≢ first + count
    apart number (inl low) h = absurd (omega (arith, low, h))
    apart number (inr high) h = absurd (omega (arith, high, h))

    outer : (number : ℕ) → (number < first) ⊎ (first + (count + 1) ≤ number) → (number < first) ⊎ (first + count ≤ number)
    outer number (inl low) = inl low
    outer number (inr high) = inr (omega (arith, high))

-- ---- a report that agrees is believed

-- a zone that was seen may be in a state that is shown
same-zone : (seen state : ZoneState) (zone : Zone) → IsState seen zone.state → IsState seen state → IsSameZone zone (record { state = state; blocks = zone.blocks })
same-zone seen state zone is shown = record { blocks = refl; state = states is shown }
  where
    states : IsState seen zone.state → IsState seen state → (state ≡ zone.state) ⊎ ((is_closable zone.state ≡ true) × (is_closable state ≡ true))
    states (inl a) (inl b) = inl (b ∙ sym a)
    states (inl a) (inr b) = inr (rw (a, b.0) refl, rw b.1 refl)
    states (inr a) (inl b) = inr (rw a.1 refl, rw (b, a.0) refl)
    states (inr a) (inr b) = inr (rw a.1 refl, rw b.1 refl)

-- the pointer of a zone is where it was seen, if the state has one
pointer-where : (state : ZoneState) (start a b : ℕ) → (has_pointer state ≡ true → a ≡ b) → pointer_of state (start + a) ≡ pointer_of state (start + b)
pointer-where Empty start a b same = ap (λ (n : ℕ). Some (start + n)) (same refl)
pointer-where ImplicitlyOpened start a b same = ap (λ (n : ℕ). Some (start + n)) (same refl)
pointer-where ExplicitlyOpened start a b same = ap (λ (n : ℕ). Some (start + n)) (same refl)
pointer-where Closed start a b same = ap (λ (n : ℕ). Some (start + n)) (same refl)
pointer-where ReadOnly start a b same = refl
pointer-where Full start a b same = refl
pointer-where Offline start a b same = refl

-- how many blocks were seen, if a state has a pointer in which the zone may be
count-seen : (zone : Zone) (seen : SeenZone) (state : ZoneState) → IsSeen zone seen → IsState seen.state state → has_pointer state ≡ true → unwrap_or seen.written 0 ≡ length zone.blocks
count-seen zone seen state is may pointed = here seen.written is.written (is.known (pointer-seen seen.state state may pointed))
  where
    here : (written : Option ℕ) → IfSome written (λ n. length zone.blocks ≡ n) → is_some written ≡ true → unwrap_or written 0 ≡ length zone.blocks
    here None h some = absurd (cc some)
    here (Some n) h some = sym h

-- a descriptor that agrees shows a zone that is there
may-be : (geometry : Geometry) (number : ℕ) (zone : Zone) (seen : SeenZone) (bytes : List ℕ) (state : ZoneState) → IsSeen zone seen → IsShown geometry number seen bytes state
    → Shows geometry number (record { state = state; blocks = zone.blocks }) bytes
may-be geometry number zone seen bytes state is shown = record {
  sequential = shown.sequential;
  state = shown.code;
  capacity = shown.capacity;
  start = shown.start;
  pointer = λ next e. shown.pointer next
      (pointer-where state (number * geometry.size) (unwrap_or seen.written 0) (length zone.blocks) (count-seen zone seen state is shown.same) ∙ e);
}

pub start-of : (size number : ℕ) → 0 < size → number * size / size ≡ number
start-of size number some = mul-div_cancel number some

-- so the whole report may be believed
pub may-show : (geometry : Geometry) (zones : List Zone) (seen : List SeenZone) (first count : ℕ) (report : List ℕ) → 1 ≤ geometry.size → AreSeen zones seen
    → first + count ≤ length zones → length report ≡ 64 + 64 * count → AreShown geometry first seen report count → MayShow geometry zones (first * geometry.size) report
may-show geometry zones seen first count report some are there room shown = λ i low.
    let at = start-of geometry.size first some in
    let below : i < count = omega (arith, low, room) in
    let one = shown i below in
    let is = are.each (first + i) (omega (arith, there, below)) in
    rw at (
      record { state = one.0; blocks = (zone_at zones (first + i)).blocks },
      same-zone (seen_at seen (first + i)).state one.0 (zone_at zones (first + i)) is.state one.1.same,
      may-be geometry (first + i) (zone_at zones (first + i)) (seen_at seen (first + i)) (descriptor_in report i) one.0 is one.1,
    )

-- ---- what is seen then

state_of-code : (state : ZoneState) → state_of (state_code state) ≡ Some state
state_of-code Empty = refl
state_of-code ImplicitlyOpened = refl
state_of-code ExplicitlyOpened = refl
state_of-code Closed = refl
state_of-code ReadOnly = refl
state_of-code Full = refl
state_of-code Offline = refl

-- a code is of one state
pub code-injective : (a b : ZoneState) → state_code a ≡ state_code b → a ≡ b
code-injective a b e = some-injective (sym (state_of-code a) ∙ ap state_of e ∙ state_of-code b)
  where
    some-injective : {x y : ZoneState} → Some x ≡ Some y → x ≡ y
    some-injective e = cc e

-- a zone in a state that was seen is as a report says
pub looks-like : (geometry : Geometry) (number : ℕ) (zone : Zone) (seen : SeenZone) → zone.state ≡ seen.state → IsSeen zone seen → LooksLike geometry number zone seen
looks-like geometry number zone seen same is =
    let there = pointer-where seen.state (number * geometry.size) (length zone.blocks) (unwrap_or seen.written 0) (λ pointed. sym (count-seen zone seen seen.state is (inl refl) pointed)) in
    rw (same, there) refl

-- the zone that a descriptor shows is seen, and is as the report says
shown-is : (geometry : Geometry) (number : ℕ) (old zone : Zone) (seen after : SeenZone) (bytes : List ℕ) (state : ZoneState) → IsSeen old seen → IsShown geometry number seen bytes state
    → after ≡ now_seen seen (state_of (state_in bytes)) → ClosesOne old zone → Shows geometry number zone bytes
    → (zone.state ≡ after.state) × IsSeen zone after
shown-is geometry number old zone seen after bytes state is shown e one shows =
    let same : zone.state ≡ state = code-injective _ _ (sym shows.state ∙ shown.code) in
    let row : after ≡ record seen { state = state } = e ∙ rw (shown.code, state_of-code state) refl in
    rw row (
      same,
      record {
        state = inl same;
        written = rw one.blocks is.written;
        known = λ pointed. is.known (pointer-seen seen.state state shown.same pointed);
      },
    )

-- a report that is believed: what is seen then is true, and as it says
pub were-seen : (geometry : Geometry) (old new : List Zone) (seen after : List SeenZone) (first count : ℕ) (report : List ℕ) → 1 ≤ geometry.size → AreSeen old seen
    → first + count ≤ length old → length report ≡ 64 + 64 * count → AreShown geometry first seen report count → Reports geometry old (first * geometry.size) report new
    → SeesStates first count report seen after → WereSeen first count geometry old seen after new × AreSeen new after
were-seen geometry old new seen after first count report some are there room shown reports sees = (
  record {
    length_is = sees.length_is;
    others = sees.others;
    looked = λ number low high.
        let here = inside number low high in
        record {
          zone = zone_at reports.middle number;
          before = zone_at-closing old reports.middle number reports.before;
          like = looks-like geometry number (zone_at reports.middle number) (seen_at after number) here.0 here.1;
          after = zone_at-closing reports.middle new number reports.after;
        };
  },
  record {
    count = sees.length_is ∙ are.count ∙ sym (length-closing old new closing);
    each = λ number low. each number (omega (arith, low, length-closing old new closing)) (in-range number);
  },
)
  where
    closing : IsClosing old new
    closing = IsClosing-trans old reports.middle new reports.before reports.after

    shown-at : (i : ℕ) → i < count → Shows geometry (first + i) (zone_at reports.middle (first + i)) (descriptor_in report i)
    shown-at i low = rw (start-of geometry.size first some) at reports.shows i (omega (arith, low, room))

    inside-at : (i : ℕ) → i < count → ((zone_at reports.middle (first + i)).state ≡ (seen_at after (first + i)).state) × IsSeen (zone_at reports.middle (first + i)) (seen_at after (first + i))
    inside-at i low =
        let one = shown i low in
        shown-is geometry (first + i) (zone_at old (first + i)) (zone_at reports.middle (first + i)) (seen_at seen (first + i)) (seen_at after (first + i)) (descriptor_in report i) one.0
        (are.each (first + i) (omega (arith, low, there))) one.1 (sees.states i low) (zone_at-closing old reports.middle (first + i) reports.before) (shown-at i low)

    inside : (number : ℕ) → first ≤ number → number < first + count → ((zone_at reports.middle number).state ≡ (seen_at after number).state) × IsSeen (zone_at reports.middle number) (seen_at after number)
    inside number low high =
        let at : first + (number - first) ≡ number = omega (arith, low) in
        rw at at (inside-at (number - first) (omega (arith, low, high)))

    in-range : (number : ℕ) → ((first ≤ number) × (number < first + count)) ⊎ ((number < first) ⊎ (first + count ≤ number))
    in-range number = elim (leb_tells first number) [
      | inl low ↦ elim (leb_tells (first + count) number) [
        | inl past ↦ inr (inr past.1)
        | inr high ↦ inl (low.1, high.1)
      ]
      | inr before ↦ inr (inl before.1)
    ]

    each : (number : ℕ) → number < length old → ((first ≤ number) × (number < first + count)) ⊎ ((number < first) ⊎ (first + count ≤ number))
        → IsSeen (zone_at new number) (seen_at after number)
    each number low (inl within) = seen-closes _ _ _ (inside number within.0 within.1).1 (zone_at-closing reports.middle new number reports.after)
    each number low (inr outside) = rw (sees.others number outside) (seen-closes _ _ _ (are.each number low) (zone_at-closing old new number closing))

-- fewer descriptors are shown, too
pub shown-fewer : (geometry : Geometry) (first : ℕ) (seen : List SeenZone) (report : List ℕ) (count more : ℕ) → AreShown geometry first seen report more → count ≤ more
    → AreShown geometry first seen report count
shown-fewer geometry first seen report count more are few = λ i low. are i (omega (arith, low, few))
