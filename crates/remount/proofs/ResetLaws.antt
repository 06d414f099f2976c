-- A zone is reset, or finished, and what is known of the drive then.
use Rattle.std.proofs.Common.{◌≡◌, ◌⊎◌, inl, inr, ℕ, ◌-◌, ◌*◌, ◌/◌, ◌%◌, ◌<◌, ◌≤◌, true, false, List, [], ◌∷◌, ◌++◌, length, set, get_or, replicate, Some, Ok, Err, refl, sym, ap, subst, ◌∙◌, arith}
use Rattle.std.specs.Prelude.{slice_get}
use Rattle.std.proofs.lemmas.Bool.{cases_eq}
use Rattle.std.proofs.lemmas.List.{get_or-set_other, get_or-set_same, length-append, length-map, length-replicate, length-set, map-set}
use Rattle.std.proofs.Math.Seq.{map-set_same}
use Rattle.std.proofs.lemmas.Option.{get_or_from_slice_get, slice_get-get_or, slice_get_within}
use Rattle.drive_port.specs.Calls.{CanFinish, CanReset, Finished, FinishedContents, FinishGives, FinishKeeps, FinishLeaves, IsNotRefused, Obeys, ResetContents, ResetGives, ResetKeeps, ResetLeaves, ResetZone}
use Rattle.drive_port.specs.Contents.{Content, Finishes, Resets, SameContents, content_at, content_of, contents, emptied, finished, is_usable, nothing, usage_of}
use Rattle.drive_port.specs.Drive.{DriveState, IsLawful}
use Rattle.drive_port.specs.Step.{end_of, zone_at}
use Rattle.drive_port.specs.declared.calls.PortFault.{PortFault}
use Rattle.drive_port.specs.declared.calls.PortFault.TheVariants as port
use Rattle.drive_port.proofs.ClosingLaws.{content_at-contents}
use Rattle.batch_log.specs.Log.{zero_block}
use Rattle.zone_choice.specs.Changes.{IsHalt}
use Rattle.drive_array.specs.ZoneLogs.{readable}
use Rattle.zone_choice.proofs.OpenLaws.{OpensNone, finish-opens, reset-opens, settled-shut}
use Rattle.zone_choice.proofs.ContentLaws.{IsSettled}
use Rattle.zone_choice.proofs.CommandLaws.{start-below, zone-few, zone-start}
use Rattle.drive_survey.specs.declared.reported.ReportedZone.{ReportedZone}
use Rattle.drive_survey.specs.declared.scan.ScannedZone.{ScannedZone}
use Rattle.drive_survey.specs.declared.survey.Survey.{Survey}
use Rattle.drive_survey.specs.Reported.{IsKnown}
use Rattle.remount.specs.Resets.{FinishesOne, MayChange, ResetsAll, reported_empty, reported_full}
use Rattle.drive_survey.specs.Scan.{AreKnown, FailsBy, mount_fault}

-- ---- the drive takes the command

record StartsThere (drive : DriveState) (zone start : ℕ) : Type 0 where
  index : start / drive.geometry.size ≡ zone
  can_reset : CanReset drive start
  can_finish : CanFinish drive start

starts-there : (drive : DriveState) (reported : List ReportedZone) (zone start : ℕ) → AreKnown drive reported → zone < length reported → start ≡ zone * drive.geometry.size → StartsThere drive zone start
starts-there drive reported zone start known lt is =
    let size = drive.geometry.size in
    let some = known.geometry.size.0 in
    let at = zone-start zone size some in
    let index : start / size ≡ zone = rw is at.0 in
    let below : zone < length drive.zones = omega (arith, lt, known.count) in
    let r = get_or reported zone reported_empty in
    let one = known.each zone r (slice_get-get_or reported zone reported_empty lt) in
    let usable : is_usable (usage_of (zone_at drive.zones (start / size)).state) ≡ true = rw index (ap (λ (c : Content). is_usable c.usage) (sym (content_at-contents drive.zones zone)) ∙ ap is_usable one.usage ∙ one.usable) in
    let aligned : start % size ≡ 0 = rw is at.1 in
    let in_range : start < end_of drive.geometry = rw (is, ← known.lawful.count) (start-below zone (length drive.zones) size some below) in
    record {
      index = index;
      can_reset = record { aligned = aligned; in_range = in_range; usable = usable };
      can_finish = record { aligned = aligned; in_range = in_range; usable = usable };
    }

-- a command that halted
pub record SendHalts (Changes : List Content → List Content → Type 0) (old new : DriveState) (fault : PortFault) : Type 0 where
  pub halt : IsHalt fault
  pub kept : MayChange Changes old new
  pub cause : FailsBy (λ _. ⊥) new (mount_fault fault)

may-change-none : (Changes : List Content → List Content → Type 0) (drive : DriveState) → IsLawful drive → MayChange Changes drive drive
may-change-none Changes drive lawful = record { geometry = refl; lawful = lawful; refused = refl; durable = refl; trusted = λ clean. clean; unfailing = λ up. up; contents_are = inl refl }

-- a Reset that failed has halted, and has reset its zone or changed nothing
pub reset-halts : (old new : DriveState) (reported : List ReportedZone) (zone start : ℕ) (fault : PortFault) → AreKnown old reported → zone < length reported → start ≡ zone * old.geometry.size
    → ResetGives {V = Unit {0}} old start (Err fault) new → ResetKeeps {V = Unit {0}} old start (Err fault) new → Obeys {V = Unit {0}} old (Err fault) new → (CanReset old start → IsNotRefused {V = Unit {0}} (Err fault)) → SendHalts (λ a b. Resets a b zone) old new fault
reset-halts old new reported zone start (port.Refused status) known lt is gives kept obeys passed = absurd (passed (starts-there old reported zone start known lt is).can_reset)
reset-halts old new reported zone start port.Memory known lt is gives kept obeys passed = record { halt = tt; kept = rw gives.1.1.1 (may-change-none (λ a b. Resets a b zone) old known.lawful); cause = inl refl }
reset-halts old new reported zone start port.Failed known lt is gives kept obeys passed =
    let failed = obeys.fails refl in
    record {
      halt = tt;
      kept = record { geometry = obeys.geometry; lawful = obeys.lawful; refused = failed.1.refused; durable = obeys.durable; trusted = obeys.trusted; unfailing = obeys.unfailing; contents_are = inl kept.contents };
      cause = inr (inl (inr (refl, failed.0)));
    }
reset-halts old new reported zone start port.Stopped known lt is gives kept obeys passed = record {
  halt = tt;
  kept = record { geometry = obeys.geometry; lawful = obeys.lawful; refused = (obeys.counts refl).refused; durable = obeys.durable; trusted = obeys.trusted; unfailing = obeys.unfailing; contents_are = by kept };
  cause = inr (inl (inl (refl, obeys.stops refl)));
}
  where
    by : SameContents old new ⊎ ResetContents old new start → (contents new.zones ≡ contents old.zones) ⊎ Resets (contents old.zones) (contents new.zones) zone
    by (inl same) = inl same.contents
    by (inr resets) = inr (subst (λ (k : ℕ). Resets (contents old.zones) (contents new.zones) k) (starts-there old reported zone start known lt is).index resets.contents)

-- a Finish that failed has halted, and has finished its zone or changed nothing
pub finish-halts : (old new : DriveState) (reported : List ReportedZone) (zone start : ℕ) (fault : PortFault) → AreKnown old reported → zone < length reported → start ≡ zone * old.geometry.size
    → FinishGives {V = Unit {0}} old start (Err fault) new → FinishKeeps {V = Unit {0}} old start (Err fault) new → Obeys {V = Unit {0}} old (Err fault) new → (CanFinish old start → IsNotRefused {V = Unit {0}} (Err fault)) → SendHalts (λ a b. Finishes a b zone) old new fault
finish-halts old new reported zone start (port.Refused status) known lt is gives kept obeys passed = absurd (passed (starts-there old reported zone start known lt is).can_finish)
finish-halts old new reported zone start port.Memory known lt is gives kept obeys passed = record { halt = tt; kept = rw gives.1.1.1 (may-change-none (λ a b. Finishes a b zone) old known.lawful); cause = inl refl }
finish-halts old new reported zone start port.Failed known lt is gives kept obeys passed =
    let failed = obeys.fails refl in
    record {
      halt = tt;
      kept = record { geometry = obeys.geometry; lawful = obeys.lawful; refused = failed.1.refused; durable = obeys.durable; trusted = obeys.trusted; unfailing = obeys.unfailing; contents_are = inl kept.contents };
      cause = inr (inl (inr (refl, failed.0)));
    }
finish-halts old new reported zone start port.Stopped known lt is gives kept obeys passed = record {
  halt = tt;
  kept = record { geometry = obeys.geometry; lawful = obeys.lawful; refused = (obeys.counts refl).refused; durable = obeys.durable; trusted = obeys.trusted; unfailing = obeys.unfailing; contents_are = by kept };
  cause = inr (inl (inl (refl, obeys.stops refl)));
}
  where
    by : SameContents old new ⊎ FinishedContents old new start → (contents new.zones ≡ contents old.zones) ⊎ Finishes (contents old.zones) (contents new.zones) zone
    by (inl same) = inl same.contents
    by (inr finishes) = inr (subst (λ (k : ℕ). Finishes (contents old.zones) (contents new.zones) k) (starts-there old reported zone start known lt is).index finishes.contents)

-- ---- and did it

-- a zone was reset, and no zone was opened
pub record ResetsOne (old new : DriveState) (zone : ℕ) : Type 0 where
  pub kept : MayChange (λ a b. Resets a b zone) old new
  pub opens : OpensNone old.zones new.zones
  pub contents_are : Resets (contents old.zones) (contents new.zones) zone

-- a Reset that succeeds resets its zone and opens none
pub reset-done : (old new : DriveState) (reported : List ReportedZone) (zone start : ℕ) → AreKnown old reported → zone < length reported → start ≡ zone * old.geometry.size → ResetZone old new start → ResetLeaves {V = Unit {0}} old start (Ok tt) new → Obeys {V = Unit {0}} old (Ok tt) new
    → ResetsOne old new zone
reset-done old new reported zone start known lt is done leaves obeys =
    let resets = subst (λ (k : ℕ). Resets (contents old.zones) (contents new.zones) k) (starts-there old reported zone start known lt is).index done.contents in
    record { kept = record { geometry = obeys.geometry; lawful = obeys.lawful; refused = done.counts.refused; durable = obeys.durable; trusted = obeys.trusted; unfailing = obeys.unfailing; contents_are = inr resets }; opens = reset-opens {V = Unit {0}} old new start (Ok tt) leaves; contents_are = resets }

-- a zone was finished, and no zone was opened
pub record FinishDone (old new : DriveState) (zone : ℕ) : Type 0 where
  pub kept : MayChange (λ a b. Finishes a b zone) old new
  pub opens : OpensNone old.zones new.zones
  pub contents_are : Finishes (contents old.zones) (contents new.zones) zone

-- a Finish that succeeds finishes its zone and opens none
pub finish-done : (old new : DriveState) (reported : List ReportedZone) (zone start : ℕ) → AreKnown old reported → zone < length reported → start ≡ zone * old.geometry.size → Finished old new start → FinishLeaves {V = Unit {0}} old start (Ok tt) new → Obeys {V = Unit {0}} old (Ok tt) new
    → FinishDone old new zone
finish-done old new reported zone start known lt is done leaves obeys =
    let finishes = subst (λ (k : ℕ). Finishes (contents old.zones) (contents new.zones) k) (starts-there old reported zone start known lt is).index done.contents in
    record { kept = record { geometry = obeys.geometry; lawful = obeys.lawful; refused = done.counts.refused; durable = obeys.durable; trusted = obeys.trusted; unfailing = obeys.unfailing; contents_are = inr finishes }; opens = finish-opens {V = Unit {0}} old new start (Ok tt) leaves; contents_are = finishes }

-- ---- what is known of the zones then

-- one zone changed its content, and is known in its new one
known-set : (old new : DriveState) (reported : List ReportedZone) (zone : ℕ) (made : Content) (r : ReportedZone) → AreKnown old reported → zone < length reported → new.geometry ≡ old.geometry → IsLawful new → contents new.zones ≡ set (contents old.zones) zone made
    → OpensNone old.zones new.zones → IsSettled made.usage → made.usage ≡ usage_of r.state → is_usable (usage_of r.state) ≡ true → r.blocks ≡ length (readable old.geometry made) → AreKnown new (set reported zone r)
known-set old new reported zone made r known lt geometry lawful contents-are opens settled usage usable blocks = record {
  geometry = rw geometry known.geometry;
  lawful = lawful;
  count = length-set reported zone r ∙ known.count ∙ sym long;
  each = λ k other there. by k other there (cases_eq k zone);
}
  where
    long : length new.zones ≡ length old.zones
    long = omega (arith, length-map new.zones content_of, ap length contents-are, length-set (contents old.zones) zone made, length-map old.zones content_of)

    by : (k : ℕ) (other : ReportedZone) → slice_get (set reported zone r) k ≡ Some other → (k ≡ zone) ⊎ (k ≡ zone → ⊥) → IsKnown new k other
    by k other there (inl same) =
        let is : other ≡ r = sym (get_or_from_slice_get (set reported zone r) k other other there) ∙ ap (λ (n : ℕ). get_or (set reported zone r) n other) same ∙ get_or-set_same reported zone r other lt in
        let here : content_at (contents new.zones) k ≡ made = rw (same, contents-are) (get_or-set_same (contents old.zones) zone made nothing (omega (arith, lt, known.count, length-map old.zones content_of))) in
        record {
          geometry = rw geometry known.geometry;
          lawful = lawful;
          in_range = omega (arith, same, lt, known.count, long);
          usage = rw (here, is) usage;
          usable = rw is usable;
          blocks = rw (here, is, geometry) blocks;
          shut = λ told. settled-shut new.zones k (rw here settled);
        }
    by k other there (inr apart) =
        let lt' : k < length reported = omega (arith, slice_get_within (set reported zone r) k other there, length-set reported zone r) in
        let value : get_or reported k other ≡ other = sym (get_or-set_other reported zone k r other apart) ∙ get_or_from_slice_get (set reported zone r) k other other there in
        let one = known.each k other (slice_get-get_or reported k other lt' ∙ ap Some value) in
        let here : content_at (contents new.zones) k ≡ content_at (contents old.zones) k = rw contents-are (get_or-set_other (contents old.zones) zone k made nothing apart) in
        record {
          geometry = rw geometry known.geometry;
          lawful = lawful;
          in_range = omega (arith, one.in_range, long);
          usage = rw here one.usage;
          usable = one.usable;
          blocks = rw (here, geometry) one.blocks;
          shut = λ told. opens k (one.shut told);
        }

-- after a Reset all zones are known, its own by the report of an Empty zone
known-reset : (old new : DriveState) (reported : List ReportedZone) (zone : ℕ) → AreKnown old reported → zone < length reported → ResetsOne old new zone → AreKnown new (set reported zone reported_empty)
known-reset old new reported zone known lt done = known-set old new reported zone emptied reported_empty known lt done.kept.geometry done.kept.lawful done.contents_are.zones done.opens (inl refl) refl refl refl

-- after a Finish all zones are known, its own by the report of a Full zone
known-finish : (old new : DriveState) (reported : List ReportedZone) (zone : ℕ) → AreKnown old reported → zone < length reported → FinishDone old new zone → AreKnown new (set reported zone (reported_full old.geometry.capacity))
known-finish old new reported zone known lt done =
    let g = old.geometry in
    let was = content_at (contents old.zones) zone in
    let few : length was.blocks ≤ g.capacity = zone-few old zone known.lawful (omega (arith, lt, known.count)) in
    let whole : g.capacity ≡ length (was.blocks ++ replicate (g.capacity - length was.blocks) (zero_block g.block)) =
    omega (arith, few, length-append was.blocks (replicate (g.capacity - length was.blocks) (zero_block g.block)), length-replicate (g.capacity - length was.blocks) (zero_block g.block)) in
    known-set old new reported zone (finished was) (reported_full g.capacity) known lt done.kept.geometry done.kept.lawful done.contents_are.zones done.opens (inr refl) refl refl whole

-- ---- and what the survey says

-- after a Reset that is noted in the survey just this zone was reset
pub resets-all-one : (old new : DriveState) (before after : Survey) (zone : ℕ) (was : ScannedZone) → AreKnown old before.zones.items → zone < length before.zones.items → length before.scanned.items ≡ length before.zones.items → ResetsOne old new zone
    → get_or before.scanned.items zone was ≡ was → after.zones.items ≡ set before.zones.items zone reported_empty → after.scanned.items ≡ set before.scanned.items zone (record { heads = was.heads; is_torn = false }) → after.size ≡ before.size → after.given ≡ before.given
    → ResetsAll old new before after (zone ∷ [])
resets-all-one old new before after zone was known lt long done was-is reported scanned size given = record {
  geometry = done.kept.geometry;
  contents_are = done.contents_are.zones;
  opens = done.opens;
  known = rw reported (known-reset old new before.zones.items zone known lt done);
  reported = reported;
  heads = rw scanned (map-set_same (λ (z : ScannedZone). z.heads) before.scanned.items zone (record { heads = was.heads; is_torn = false }) was (ap (λ (z : ScannedZone). z.heads) (sym was-is)));
  tails = rw scanned (map-set (λ (z : ScannedZone). z.is_torn) before.scanned.items zone (record { heads = was.heads; is_torn = false }));
  size = size;
  given = given;
}

-- after a Finish that is noted in the survey just this zone was finished
pub finishes-one : (old new : DriveState) (before after : Survey) (zone : ℕ) → AreKnown old before.zones.items → zone < length before.zones.items → FinishDone old new zone
    → after.zones.items ≡ set before.zones.items zone (reported_full old.geometry.capacity) → after.scanned ≡ before.scanned → after.size ≡ before.size → after.given ≡ before.given → FinishesOne old new before after zone
finishes-one old new before after zone known lt done reported scanned size given = record {
  geometry = done.kept.geometry;
  contents_are = done.contents_are;
  opens = done.opens;
  known = rw reported (known-finish old new before.zones.items zone known lt done);
  reported = reported;
  scanned = scanned;
  size = size;
  given = given;
}
