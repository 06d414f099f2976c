-- What a command to a zone has done that was answered by an error, where a report shows the zone as it was seen.
use Rattle.std.proofs.Common.{◌≡◌, ◌≢◌, ◌⊎◌, ◌&&◌, ℕ, zero, suc, ◌+◌, ◌*◌, ◌/◌, ◌<◌, ◌≤◌, true, false, List, [], ◌∷◌, length, Option, Some, Result, Ok, Err, refl, sym, ap, ◌∙◌, inl, inr, arith, add-zero}
use Rattle.std.specs.Prelude.{slice_set}
use Rattle.std.specs.List.{AllByRecursion}
use Rattle.std.proofs.lemmas.List.{get_or-set_same, length-append}
use Rattle.nvme_wire.specs.declared.command.Action.{Action}
use Rattle.nvme_wire.specs.declared.command.Action.TheVariants as actions
use Rattle.nvme_wire.specs.declared.command.Command.{Command}
use Rattle.nvme_wire.specs.declared.command.Command.TheVariants.{Flush, Read, Write, Append, Send, Receive}
use Rattle.nvme_wire.specs.declared.status.Status.{Status}
use Rattle.nvme_wire.specs.declared.status.Status.TheVariants.{Success}
use Rattle.nvme_wire.specs.declared.zone_state.ZoneState.{ZoneState}
use Rattle.nvme_wire.specs.declared.zone_state.ZoneState.TheVariants.{Empty, ImplicitlyOpened, ExplicitlyOpened, Closed, ReadOnly, Full, Offline}
use Rattle.zone_states.specs.Transition.{state_after}
use Rattle.zone_states.specs.Zone.{IsLawfulZone, Zone, cut_blocks, written_zone}
use Rattle.zone_states.specs.declared.geometry.Geometry.{Geometry}
use Rattle.zone_states.proofs.Cutting.{length-cut}
use Rattle.zone_report.specs.Report.{pointer_of}
use Rattle.drive_port.specs.declared.device.Halt.{Halt}
use Rattle.drive_port.specs.declared.device.Halt.TheVariants.{Memory, Failed, Stopped}
use Rattle.drive_port.specs.Drive.{ClosesOne, IsClosing}
use Rattle.drive_port.specs.Halting.{LeftBy, Torn}
use Rattle.drive_port.specs.Step.{Effect, is_refusal, nowhere, zone_after, zone_at}
use Rattle.drive_port.proofs.ClosingLaws.{IsClosing-refl, IsClosing-trans, length-closing, zone_at-closing}
use Rattle.drive_port.proofs.HaltLaws.{left-done, success_or}
use Rattle.drive_port.proofs.StepLaws.{effect-refused, outcome-passes, succeeded}
use Rattle.passthrough.specs.Asking.{HaltsSo, IsReady}
use Rattle.passthrough.specs.Premise.{AreLawful, IsSentAction, IsSentAppend, Reports, Shows, ShowsBefore, WereBefore, descriptor_in, is_closable, is_sent}
use Rattle.passthrough.specs.Seen.{AreSeen, IsState, has_pointer, seen_at}
use Rattle.passthrough.specs.Showing.{AreShown, IsAsSeen, IsShown, WasAsSeen}
use Rattle.passthrough.specs.declared.seen_zone.SeenZone.{SeenZone}
use Rattle.passthrough.proofs.ReadyLaws.{pointer-has, zone-there}
use Rattle.passthrough.proofs.SeenLaws.{pointer-seen, seen-closes, seen-count}
use Rattle.passthrough.proofs.ShowingLaws.{code-injective, may-show, start-of}

-- ---- the report

pointer-some : (state : ZoneState) (at : ℕ) → has_pointer state ≡ true → pointer_of state at ≡ Some at
pointer-some Empty at has = refl
pointer-some ImplicitlyOpened at has = refl
pointer-some ExplicitlyOpened at has = refl
pointer-some Closed at has = refl
pointer-some ReadOnly at has = absurd (cc has)
pointer-some Full at has = absurd (cc has)
pointer-some Offline at has = absurd (cc has)

-- a zone that is shown by a descriptor that agrees is as it was seen
as-seen : (geometry : Geometry) (number : ℕ) (zone : Zone) (seen : SeenZone) (bytes : List ℕ) (state : ZoneState) → IsShown geometry number seen bytes state
    → Shows geometry number zone bytes → IsAsSeen zone seen
as-seen geometry number zone seen bytes state shown shows =
    let same : zone.state ≡ state = code-injective _ _ (sym shows.state ∙ shown.code) in
    record {
      state = rw same shown.same;
      written = λ has.
          let here = shows.pointer _ (pointer-some zone.state _ has) in
          let seen_there = shown.pointer _ (pointer-some state _ (rw same at has)) in
          omega (arith, here, seen_there);
    }

-- the first descriptor of a report shows the first zone
first-shown : (geometry : Geometry) (old new : List Zone) (number : ℕ) (room : List ℕ) → 1 ≤ geometry.size → length room ≡ 128
    → (reports : Reports geometry old (number * geometry.size) room new) → Shows geometry number (zone_at reports.middle number) (descriptor_in room 0)
first-shown geometry old new number room some long reports =
    let at : number * geometry.size / geometry.size + 0 ≡ number = add-zero _ ∙ start-of geometry.size number some in
    rw at at (reports.shows 0 (omega (arith, long)))

-- a report that is believed, and agrees with what was seen
pub was-as-seen : (geometry : Geometry) (old new zones : List Zone) (before : Option (List Zone)) (seen : List SeenZone) (number start : ℕ) (room : List ℕ) → 1 ≤ geometry.size
    → number < length zones → AreSeen zones seen → start ≡ number * geometry.size → length room ≡ 128 → AreShown geometry number seen room 1 → WereBefore before zones
    → (ShowsBefore geometry before start room → Reports geometry old start room new) → WasAsSeen number old (seen_at seen number) new
was-as-seen geometry old new zones before seen number start room some there are at long shown is believed =
    let reports : Reports geometry old (number * geometry.size) room new =
    (rw at at believed) (zones, is, may-show geometry zones seen number 1 room some are (omega (arith, there)) (omega (arith, long)) shown) in
    let one = shown 0 (omega arith) in
    let same : IsShown geometry number (seen_at seen number) (descriptor_in room 0) one.0 = rw (add-zero number) at one.1 in
    record {
      middle = reports.middle;
      before = reports.before;
      like = as-seen geometry number (zone_at reports.middle number) (seen_at seen number) (descriptor_in room 0) one.0 same (first-shown geometry old new number room some long reports);
      after = reports.after;
    }

-- ---- an Append

-- a state that was seen has a pointer, and so has the zone
pointed-now : (seen state : ZoneState) → IsState seen state → has_pointer seen ≡ true → has_pointer state ≡ true
pointed-now seen state (inl same) has = rw same has
pointed-now seen state (inr closed) has = rw closed.1 refl

-- an Append that succeeded has written its blocks
grown : (geometry : Geometry) (old new : List Zone) (zslba blocks value : ℕ) (bytes returned : List ℕ) → zslba / geometry.size < length old
    → Effect geometry old (Ok (Append zslba blocks)) bytes Success value returned new
    → length (zone_at new (zslba / geometry.size)).blocks ≡ length (zone_at old (zslba / geometry.size)).blocks + blocks
grown geometry old new zslba blocks value bytes returned low effect =
    let index = zslba / geometry.size in
    let s = succeeded geometry old new (Ok (Append zslba blocks)) bytes returned value effect in
    let gives = outcome-passes geometry effect.middle (Ok (Append zslba blocks)) bytes s.passed in
    let was = zone_at effect.middle index in
    let cut = cut_blocks geometry.block blocks bytes in
    let written = written_zone geometry.capacity was cut in
    let there : index < length effect.middle = omega (arith, low, length-closing old effect.middle effect.before) in
    let after = zone_at-closing (slice_set effect.middle index written) new index (rw gives at effect.after) in
    let set : zone_at (slice_set effect.middle index written) index ≡ written = get_or-set_same effect.middle index written nowhere there in
    let now : (zone_at new index).blocks ≡ written.blocks = rw set at after.blocks in
    let before : was.blocks ≡ (zone_at old index).blocks = (zone_at-closing old effect.middle index effect.before).blocks in
    omega (arith, ap length now, ap length before, length-append was.blocks cut, length-cut geometry.block blocks bytes)

-- an Append has written nothing, or the zone has more blocks
left-grown : (geometry : Geometry) (old new : List Zone) (zslba blocks : ℕ) (bytes : List ℕ) → 1 ≤ blocks → zslba / geometry.size < length old
    → LeftBy geometry old (Ok (Append zslba blocks)) bytes new
    → IsClosing old new ⊎ (length (zone_at old (zslba / geometry.size)).blocks < length (zone_at new (zslba / geometry.size)).blocks)
left-grown geometry old new zslba blocks bytes some low (inl closing) = inl closing
left-grown geometry old new zslba blocks bytes some low (inr (inl whole)) =
    elim (success_or whole.status) [
      | inl done ↦ inr (omega (arith, some, grown geometry old new zslba blocks whole.value bytes whole.returned low (rw done at whole.effect)))
      | inr bad ↦ inl (effect-refused geometry old new (Ok (Append zslba blocks)) bytes whole.returned whole.status whole.value bad.0 whole.effect).0
    ]
left-grown geometry old new zslba blocks bytes some low (inr (inr torn)) =
    inr (omega (arith, torn.some, grown geometry old new zslba torn.j torn.value _ torn.returned low torn.effect))

-- an Append after which the zone is as it was seen before has written nothing
pub append-undone : (geometry : Geometry) (old middle new : List Zone) (seen : List SeenZone) (zslba blocks : ℕ) (bytes : List ℕ) → AreLawful geometry old → AreSeen old seen
    → IsSentAppend geometry old zslba blocks bytes 0 → 1 ≤ blocks → LeftBy geometry old (Ok (Append zslba blocks)) bytes middle
    → WasAsSeen (zslba / geometry.size) middle (seen_at seen (zslba / geometry.size)) new → IsClosing old new
append-undone geometry old middle new seen zslba blocks bytes lawful are sent some left was =
    let index = zslba / geometry.size in
    let low = zone-there geometry old zslba lawful sent.in_range in
    let is = are.each index low in
    let has = (pointer-has geometry index sent.next (zone_at old index) sent.writable).0 in
    let pointed = pointed-now _ _ was.like.state (pointer-seen _ _ is.state has) in
    let same = ap length (zone_at-closing middle was.middle index was.before).blocks in
    elim (left-grown geometry old middle zslba blocks bytes some low left) [
      | inl closing ↦ IsClosing-trans _ _ _ closing (IsClosing-trans _ _ _ was.before was.after)
      | inr more ↦ absurd (omega (arith, more, same, was.like.written pointed, seen-count (zone_at old index) (seen_at seen index) is has))
    ]

-- ---- an action

-- two states in which a zone may be that was seen in one
apart : (seen a b : ZoneState) → IsState seen a → IsState seen b → (is_closable a && is_closable b) ≡ false → b ≡ a
apart seen a b (inl p) (inl q) far = q ∙ sym p
apart seen a b (inl p) (inr q) far = absurd (cc (rw (p, q.0, q.1) at far))
apart seen a b (inr p) (inl q) far = absurd (cc (rw (p.1, q, p.0) at far))
apart seen a b (inr p) (inr q) far = absurd (cc (rw (p.1, q.1) at far))

-- a zone that the controller does not close is seen as it is
still-state : (seen : ZoneState) (zone later : Zone) → zone.state ≢ ImplicitlyOpened → ClosesOne zone later → IsState seen later.state → IsState seen zone.state
still-state seen zone later other one is = elim one.state [
  | inl same ↦ rw same at is
  | inr closed ↦ absurd (other closed.0)
]

-- an action after which the zone is seen as before did no more to it than the controller may by itself
acts-nothing : (action : Action) (state seen : ZoneState) (blocks : List (List ℕ)) (later : Zone) → is_sent action ≡ true → is_refusal (state_after state action) ≡ false
    → (state ≡ Empty → blocks ≡ []) → IsState seen state → IsState seen later.state
    → ClosesOne (zone_after action (record { state = state; blocks = blocks }) (state_after state action)) later
    → ClosesOne (record { state = state; blocks = blocks }) (zone_after action (record { state = state; blocks = blocks }) (state_after state action))
acts-nothing actions.Open state seen blocks later sent admitted empty is shown one = absurd (cc sent)
acts-nothing actions.Offline state seen blocks later sent admitted empty is shown one = absurd (cc sent)
acts-nothing actions.Close Empty seen blocks later sent admitted empty is shown one = absurd (cc admitted)
acts-nothing actions.Close ImplicitlyOpened seen blocks later sent admitted empty is shown one = record { blocks = refl; state = inr (refl, refl) }
acts-nothing actions.Close ExplicitlyOpened seen blocks later sent admitted empty is shown one =
    absurd (cc (apart seen ExplicitlyOpened Closed is (still-state seen (record { state = Closed; blocks = blocks }) later (λ e. cc) one shown) refl))
acts-nothing actions.Close Closed seen blocks later sent admitted empty is shown one = record { blocks = refl; state = inl refl }
acts-nothing actions.Close ReadOnly seen blocks later sent admitted empty is shown one = absurd (cc admitted)
acts-nothing actions.Close Full seen blocks later sent admitted empty is shown one = absurd (cc admitted)
acts-nothing actions.Close Offline seen blocks later sent admitted empty is shown one = absurd (cc admitted)
acts-nothing actions.Finish Empty seen blocks later sent admitted empty is shown one =
    absurd (cc (apart seen Empty Full is (still-state seen (record { state = Full; blocks = blocks }) later (λ e. cc) one shown) refl))
acts-nothing actions.Finish ImplicitlyOpened seen blocks later sent admitted empty is shown one =
    absurd (cc (apart seen ImplicitlyOpened Full is (still-state seen (record { state = Full; blocks = blocks }) later (λ e. cc) one shown) refl))
acts-nothing actions.Finish ExplicitlyOpened seen blocks later sent admitted empty is shown one =
    absurd (cc (apart seen ExplicitlyOpened Full is (still-state seen (record { state = Full; blocks = blocks }) later (λ e. cc) one shown) refl))
acts-nothing actions.Finish Closed seen blocks later sent admitted empty is shown one =
    absurd (cc (apart seen Closed Full is (still-state seen (record { state = Full; blocks = blocks }) later (λ e. cc) one shown) refl))
acts-nothing actions.Finish ReadOnly seen blocks later sent admitted empty is shown one = absurd (cc admitted)
acts-nothing actions.Finish Full seen blocks later sent admitted empty is shown one = record { blocks = refl; state = inl refl }
acts-nothing actions.Finish Offline seen blocks later sent admitted empty is shown one = absurd (cc admitted)
acts-nothing actions.Reset Empty seen blocks later sent admitted empty is shown one = record { blocks = sym (empty refl); state = inl refl }
acts-nothing actions.Reset ImplicitlyOpened seen blocks later sent admitted empty is shown one =
    absurd (cc (apart seen ImplicitlyOpened Empty is (still-state seen (record { state = Empty; blocks = [] }) later (λ e. cc) one shown) refl))
acts-nothing actions.Reset ExplicitlyOpened seen blocks later sent admitted empty is shown one =
    absurd (cc (apart seen ExplicitlyOpened Empty is (still-state seen (record { state = Empty; blocks = [] }) later (λ e. cc) one shown) refl))
acts-nothing actions.Reset Closed seen blocks later sent admitted empty is shown one =
    absurd (cc (apart seen Closed Empty is (still-state seen (record { state = Empty; blocks = [] }) later (λ e. cc) one shown) refl))
acts-nothing actions.Reset ReadOnly seen blocks later sent admitted empty is shown one = absurd (cc admitted)
acts-nothing actions.Reset Full seen blocks later sent admitted empty is shown one =
    absurd (cc (apart seen Full Empty is (still-state seen (record { state = Empty; blocks = [] }) later (λ e. cc) one shown) refl))
acts-nothing actions.Reset Offline seen blocks later sent admitted empty is shown one = absurd (cc admitted)

-- one zone is closed
closing-one : (zones : List Zone) (index : ℕ) (zone : Zone) → ClosesOne (zone_at zones index) zone → IsClosing zones (slice_set zones index zone)
closing-one [] index zone one = tt
closing-one (z ∷ zs) zero zone one = (one, IsClosing-refl zs)
closing-one (z ∷ zs) (suc index) zone one = (record { blocks = refl; state = inl refl }, closing-one zs index zone one)

-- an Empty zone holds nothing
empty-holds : (geometry : Geometry) (zones : List Zone) (index : ℕ) → AllByRecursion (IsLawfulZone geometry) zones → index < length zones
    → (zone_at zones index).state ≡ Empty → (zone_at zones index).blocks ≡ []
empty-holds geometry [] index all low e = absurd (omega (arith, low))
empty-holds geometry (z ∷ zs) zero all low e = none z.blocks (rw e at all.0.written)
  where
    none : (blocks : List (List ℕ)) → length blocks ≡ 0 → blocks ≡ []
    none [] e = refl
    none (b ∷ bs) e = absurd (cc e)
empty-holds geometry (z ∷ zs) (suc index) all low e = empty-holds geometry zs index all.1 (omega (arith, low)) e

-- an action after which the zone is as it was seen before was not done
pub action-undone : (geometry : Geometry) (old middle new : List Zone) (seen : List SeenZone) (slba : ℕ) (action : Action) → AreLawful geometry old → AreSeen old seen
    → IsSentAction geometry old slba action [] 0 → LeftBy geometry old (Ok (Send slba action false)) [] middle
    → WasAsSeen (slba / geometry.size) middle (seen_at seen (slba / geometry.size)) new → IsClosing old new
action-undone geometry old middle new seen slba action lawful are sent left was =
    let index = slba / geometry.size in
    let low = zone-there geometry old slba lawful sent.in_range in
    let later = IsClosing-trans _ _ _ was.before was.after in
    elim (left-done geometry old middle (Send slba action false) [] refl left) [
      | inl closing ↦ IsClosing-trans _ _ _ closing later
      | inr done ↦
          let effect = done.effect in
          let s = succeeded geometry old middle (Ok (Send slba action false)) [] done.returned done.value effect in
          let gives = outcome-passes geometry effect.middle (Ok (Send slba action false)) [] s.passed in
          let zone = zone_at effect.middle index in
          let one = zone_at-closing old effect.middle index effect.before in
          let acted = zone_after action zone (state_after zone.state action) in
          let after : IsClosing (slice_set effect.middle index acted) middle = rw gives at effect.after in
          let there : index < length effect.middle = omega (arith, low, length-closing old effect.middle effect.before) in
          let set : zone_at (slice_set effect.middle index acted) index ≡ acted = get_or-set_same effect.middle index acted nowhere there in
          let now : ClosesOne acted (zone_at was.middle index) =
          rw set at (zone_at-closing _ _ index (IsClosing-trans _ _ _ after was.before)) in
          let is = (seen-closes _ zone _ (are.each index low) one).state in
          let empty = λ (e : zone.state ≡ Empty). one.blocks ∙ empty-holds geometry old index lawful.each low (was-empty _ zone one e) in
          let nothing = acts-nothing action zone.state (seen_at seen index).state zone.blocks (zone_at was.middle index) sent.kind s.passed.1.1.0 empty is was.like.state now in
          IsClosing-trans _ _ _ effect.before (IsClosing-trans _ _ _ (closing-one effect.middle index acted nothing) (IsClosing-trans _ _ _ after later))
    ]
  where
    was-empty : (z y : Zone) → ClosesOne z y → y.state ≡ Empty → z.state ≡ Empty
    was-empty z y one e = elim one.state [
      | inl same ↦ sym same ∙ e
      | inr closed ↦ absurd (cc (sym closed.1 ∙ e))
    ]

-- ---- what is answered

-- what a command left, and a closing after it
effect-then : (geometry : Geometry) (old middle new : List Zone) (command : Command) (bytes returned : List ℕ) (status : Status) (value : ℕ)
    → Effect geometry old (Ok command) bytes status value returned middle → IsClosing middle new → Effect geometry old (Ok command) bytes status value returned new
effect-then geometry old middle new command bytes returned status value effect closing = record {
  middle = effect.middle;
  before = effect.before;
  status_is = effect.status_is;
  value_is = effect.value_is;
  returned_is = effect.returned_is;
  after = IsClosing-trans _ _ _ effect.after closing;
}

torn-then : (geometry : Geometry) (old middle new : List Zone) (command : Command) (bytes : List ℕ) → Torn geometry old (Ok command) bytes middle → IsClosing middle new
    → Torn geometry old (Ok command) bytes new
torn-then geometry old middle new Flush bytes torn closing = absurd torn
torn-then geometry old middle new (Read slba blocks) bytes torn closing = absurd torn
torn-then geometry old middle new (Write slba blocks) bytes torn closing = absurd torn
torn-then geometry old middle new (Append zslba blocks) bytes torn closing = record {
  j = torn.j;
  some = torn.some;
  few = torn.few;
  value = torn.value;
  returned = torn.returned;
  effect = effect-then geometry old middle new (Append zslba torn.j) _ torn.returned Success torn.value torn.effect closing;
}
torn-then geometry old middle new (Send slba action all) bytes torn closing = absurd torn
torn-then geometry old middle new (Receive slba dwords options partial) bytes torn closing = absurd torn

left-then : (geometry : Geometry) (old middle new : List Zone) (command : Command) (bytes : List ℕ) → LeftBy geometry old (Ok command) bytes middle → IsClosing middle new
    → LeftBy geometry old (Ok command) bytes new
left-then geometry old middle new command bytes (inl closes) closing = inl (IsClosing-trans _ _ _ closes closing)
left-then geometry old middle new command bytes (inr (inl whole)) closing = inr (inl (record {
  status = whole.status;
  value = whole.value;
  returned = whole.returned;
  effect = effect-then geometry old middle new command bytes whole.returned whole.status whole.value whole.effect closing;
}))
left-then geometry old middle new command bytes (inr (inr torn)) closing = inr (inr (torn-then geometry old middle new command bytes torn closing))

-- it failed, or the device stops
pub halts-so : (halt : Halt) (geometry : Geometry) (old middle new : List Zone) (command : Command) (bytes : List ℕ) → halt ≢ Memory → (halt ≡ Failed → IsClosing old new)
    → LeftBy geometry old (Ok command) bytes middle → IsClosing middle new → HaltsSo halt geometry old (Ok command) bytes new
halts-so Memory geometry old middle new command bytes other undone left closing = absurd (other refl)
halts-so Failed geometry old middle new command bytes other undone left closing = undone refl
halts-so Stopped geometry old middle new command bytes other undone left closing = left-then geometry old middle new command bytes left closing

-- where it failed, what was seen stays true
pub ready-unless : (halt : Halt) (geometry shape : Geometry) (zones : List Zone) (seen : List SeenZone) → halt ≢ Memory → (halt ≡ Failed → IsReady geometry shape zones seen)
    → ◌≢◌ {A = Result ℕ Halt} (Err halt) (Err Stopped) → IsReady geometry shape zones seen
ready-unless Memory geometry shape zones seen other ready going = absurd (other refl)
ready-unless Failed geometry shape zones seen other ready going = ready refl
ready-unless Stopped geometry shape zones seen other ready going = absurd (going refl)
