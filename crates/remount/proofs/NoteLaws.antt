-- What a survey knows once the torn zone is repaired.
use Rattle.std.proofs.Common.{◌≡◌, ◌≢◌, ◌⊎◌, inl, inr, ℕ, zero, suc, ◌+◌, ◌-◌, ◌<◌, Bool, true, false, cond, eqb, List, [], ◌∷◌, ◌++◌, length, map, set, replicate, Some, refl, sym, ap, subst, ◌∙◌, arith, append-nil}
use Rattle.std.specs.Prelude.{slice_get}
use Rattle.std.proofs.lemmas.Bool.{eqb-true}
use Rattle.std.proofs.lemmas.List.{get_or-set_other, get_or-set_same, length-append, length-map, length-replicate, length-set, map-set}
use Rattle.std.proofs.lemmas.Option.{slice_get_within}
use Rattle.nvme_wire.specs.declared.zone_state.ZoneState.TheVariants as states
use Rattle.zone_states.specs.declared.geometry.Geometry.{Geometry}
use Rattle.zone_states.specs.Transition.{is_open}
use Rattle.drive_port.specs.Contents.{Content, Usage, active, content_at, content_of, contents, emptied, full, is_full, is_usable, nothing, usage_of}
use Rattle.drive_port.specs.Drive.{DriveState}
use Rattle.batch_log.specs.Log.{Batch, log_size, zero_block}
use Rattle.drive_array.specs.ZoneLogs.{drive_logs, has_torn_tail, log_at, padding, readable, zone_log, zone_tails}
use Rattle.drive_array.proofs.WholeLaws.{length-encoded}
use Rattle.drive_array.proofs.RepairingMounts.{emptied-nothing}
use Rattle.zone_choice.proofs.OpenLaws.{emptied-shut, settled-shut}
use Rattle.remount.specs.declared.repair.moves.MovePlan.{MovePlan}
use Rattle.drive_survey.specs.declared.reported.ReportedZone.{ReportedZone}
use Rattle.drive_survey.specs.declared.scan.ScannedZone.{ScannedZone}
use Rattle.drive_survey.specs.declared.survey.Survey.{Survey}
use Rattle.drive_survey.specs.Heads.{HeadsView, heads_after, heads_of, no_heads, with_heading}
use Rattle.remount.specs.Kept.{AreVacantEmpty}
use Rattle.drive_survey.specs.Known.{Knows}
use Rattle.remount.specs.Moving.{EmptiesTorn, usage_with}
use Rattle.drive_survey.specs.Reported.{IsKnown}
use Rattle.drive_survey.specs.Scan.{AreKnown, heads_in, tails_in}
use Rattle.remount.proofs.CallLaws.{get-set, other-known}

-- ---- logs, tails and headers

-- an emptied zone has no torn tail
pub untorn-emptied : has_torn_tail emptied ≡ false
unfolding has_torn_tail
untorn-emptied = refl

after-blocks : (view : HeadsView) (log : List Batch) → (heads_after view log).blocks ≡ view.blocks + log_size log
after-blocks view [] = omega arith
after-blocks view (b ∷ bs) = omega (arith, after-blocks (with_heading view b.heading) bs)

-- the headers of a log count the blocks that its batches take
pub heads-blocks : (log : List Batch) → (heads_of log).blocks ≡ log_size log
heads-blocks log = omega (arith, after-blocks no_heads log)

-- after the repair the torn zone has no batch, and the zone of the Moves has them
pub logs-emptied : (n : ℕ) (start new : DriveState) (plan : MovePlan) (made : List Batch) → EmptiesTorn n start new plan made → drive_logs new ≡ set (set (drive_logs start) plan.into made) plan.torn []
logs-emptied n start new plan made e =
    let g = start.geometry in
    rw (e.geometry, e.zones)
    (map-set (zone_log g) (set (contents start.zones) plan.into e.there) plan.torn emptied
    ∙ ap (λ (logs : List (List Batch)). set logs plan.torn (zone_log g emptied)) (map-set (zone_log g) (contents start.zones) plan.into e.there)
    ∙ ap (λ (log : List Batch). set (set (drive_logs start) plan.into log) plan.torn (zone_log g emptied)) e.log
    ∙ ap (λ (log : List Batch). set (set (drive_logs start) plan.into made) plan.torn log) (emptied-nothing g))

-- after the repair both its zones have no torn tail, and all other tails stay
pub tails-emptied : (n : ℕ) (start new : DriveState) (plan : MovePlan) (made : List Batch) → EmptiesTorn n start new plan made → zone_tails (contents new.zones) ≡ set (set (zone_tails (contents start.zones)) plan.into false) plan.torn false
tails-emptied n start new plan made e =
    rw e.zones
    (map-set has_torn_tail (set (contents start.zones) plan.into e.there) plan.torn emptied
    ∙ ap (λ (tails : List Bool). set tails plan.torn (has_torn_tail emptied)) (map-set has_torn_tail (contents start.zones) plan.into e.there)
    ∙ ap (λ (b : Bool). set (set (zone_tails (contents start.zones)) plan.into b) plan.torn (has_torn_tail emptied)) e.whole
    ∙ ap (λ (b : Bool). set (set (zone_tails (contents start.zones)) plan.into false) plan.torn b) untorn-emptied)

heads-set : (scanned : List ScannedZone) (zone : ℕ) (s : ScannedZone) → heads_in (set scanned zone s) ≡ set (heads_in scanned) zone s.heads
heads-set scanned zone s = map-set (λ (z : ScannedZone). z.heads) scanned zone s

tails-set' : (scanned : List ScannedZone) (zone : ℕ) (s : ScannedZone) → tails_in (set scanned zone s) ≡ set (tails_in scanned) zone s.is_torn
tails-set' scanned zone s = map-set (λ (z : ScannedZone). z.is_torn) scanned zone s

-- ---- the zone of the Moves

usable-with : (capacity written : ℕ) → is_usable (usage_with capacity written) ≡ true
usable-with capacity zero = refl
usable-with capacity (suc written) = at (eqb (suc written) capacity)
  where
    at : (b : Bool) → is_usable (cond b full active) ≡ true
    at true = refl
    at false = refl

readable-made : (geometry : Geometry) (blocks : List (List ℕ)) (size : ℕ) → length blocks ≡ size → length (readable geometry (record { usage = usage_with geometry.capacity size; blocks = blocks })) ≡ size
readable-made geometry blocks zero is = ap length (append-nil blocks) ∙ is
readable-made geometry blocks (suc size) is = at (eqb (suc size) geometry.capacity) refl
  where
    at : (b : Bool) → eqb (suc size) geometry.capacity ≡ b → length (blocks ++ padding geometry (is_full (cond b full active)) (length blocks)) ≡ suc size
    at true e =
        let all = eqb-true (suc size) geometry.capacity e in
        omega (arith, is, all, length-append blocks (replicate (geometry.capacity - length blocks) (zero_block geometry.block)), length-replicate (geometry.capacity - length blocks) (zero_block geometry.block))
    at false e = ap length (append-nil blocks) ∙ is

made-readable : (geometry : Geometry) (content : Content) (size : ℕ) → length content.blocks ≡ size → content.usage ≡ usage_with geometry.capacity size → length (readable geometry content) ≡ size
made-readable geometry content size is usage = ap (λ (u : Usage). length (readable geometry (record { usage = u; blocks = content.blocks }))) usage ∙ readable-made geometry content.blocks size is

-- ---- all zones

new-count : (n : ℕ) (start new : DriveState) (plan : MovePlan) (made : List Batch) → EmptiesTorn n start new plan made → length new.zones ≡ length start.zones
new-count n start new plan made e =
    omega (arith, ap length e.zones, length-set (set (contents start.zones) plan.into e.there) plan.torn emptied, length-set (contents start.zones) plan.into e.there, length-map new.zones content_of, length-map start.zones content_of)

there-torn : (n : ℕ) (start new : DriveState) (plan : MovePlan) (made : List Batch) → EmptiesTorn n start new plan made → plan.torn < length new.zones → content_at (contents new.zones) plan.torn ≡ emptied
there-torn n start new plan made e lt =
    rw e.zones (get_or-set_same (set (contents start.zones) plan.into e.there) plan.torn emptied nothing (omega (arith, lt, new-count n start new plan made e, length-set (contents start.zones) plan.into e.there, length-map start.zones content_of)))

-- after the repair the zone of the Moves has the content that they make
pub there-into : (n : ℕ) (start new : DriveState) (plan : MovePlan) (made : List Batch) → (e : EmptiesTorn n start new plan made) → plan.into < length new.zones → content_at (contents new.zones) plan.into ≡ e.there
there-into n start new plan made e lt =
    rw e.zones (get_or-set_other (set (contents start.zones) plan.into e.there) plan.torn plan.into emptied nothing e.apart
    ∙ get_or-set_same (contents start.zones) plan.into e.there nothing (omega (arith, lt, new-count n start new plan made e, length-map start.zones content_of)))

-- after the repair each other zone holds what it held
pub there-other : (n : ℕ) (start new : DriveState) (plan : MovePlan) (made : List Batch) (zone : ℕ) → EmptiesTorn n start new plan made → zone ≢ plan.torn → zone ≢ plan.into → content_at (contents new.zones) zone ≡ content_at (contents start.zones) zone
there-other n start new plan made zone e ne other =
    rw e.zones (get_or-set_other (set (contents start.zones) plan.into e.there) plan.torn zone emptied nothing ne ∙ get_or-set_other (contents start.zones) plan.into zone e.there nothing other)

-- the report of an Empty zone
abbrev pub empty_report : ReportedZone
empty_report = record { state = states.Empty; blocks = 0 }

-- What is noted of the zone of the Moves.
pub record IsNoted (capacity : ℕ) (heads : HeadsView) (written : ReportedZone) : Type 0 where
  pub usage : usage_of written.state ≡ usage_with capacity heads.blocks
  pub blocks : written.blocks ≡ heads.blocks
  pub opened : is_open written.state ≡ false → usage_of written.state ≡ full

each-known : (n : ℕ) (start new : DriveState) (plan : MovePlan) (made : List Batch) (heads : HeadsView) (written : ReportedZone) (before after : List ReportedZone) → EmptiesTorn n start new plan made → heads ≡ heads_of made → IsNoted start.geometry.capacity heads written → AreKnown start before
    → after ≡ set (set before plan.into written) plan.torn empty_report → (zone : ℕ) (r : ReportedZone) → slice_get after zone ≡ Some r → IsKnown new zone r
each-known n start new plan made heads written before after e heads-are noted known is zone r there =
    by (get-set (set before plan.into written) plan.torn zone empty_report r (rw is at there))
  where
    lt : zone < length new.zones
    lt = omega (arith, slice_get_within after zone r there, ap length is, length-set (set before plan.into written) plan.torn empty_report, length-set before plan.into written, known.count, new-count n start new plan made e)

    torn-known : zone ≡ plan.torn → IsKnown new zone empty_report
    torn-known same =
        let content : content_at (contents new.zones) zone ≡ emptied = rw same (there-torn n start new plan made e (omega (arith, lt, same))) in
        record {
          geometry = rw e.geometry e.range;
          lawful = e.mountable.lawful;
          in_range = lt;
          usage = ap (λ (c : Content). c.usage) content;
          usable = refl;
          blocks = rw content refl;
          shut = λ h. emptied-shut new.zones zone content;
        }

    into-known : zone ≡ plan.into → IsKnown new zone written
    into-known same =
        let content : content_at (contents new.zones) zone ≡ e.there = rw same (there-into n start new plan made e (omega (arith, lt, same))) in
        let size : heads.blocks ≡ log_size made = ap (λ (h : HeadsView). h.blocks) heads-are ∙ heads-blocks made in
        let usage : e.there.usage ≡ usage_of written.state = e.usage ∙ ap (usage_with start.geometry.capacity) (sym size) ∙ sym noted.usage in
        record {
          geometry = rw e.geometry e.range;
          lawful = e.mountable.lawful;
          in_range = lt;
          usage = ap (λ (c : Content). c.usage) content ∙ usage;
          usable = ap is_usable noted.usage ∙ usable-with start.geometry.capacity heads.blocks;
          blocks = rw (e.geometry, content) (noted.blocks ∙ size ∙ sym (made-readable start.geometry e.there (log_size made) e.written e.usage));
          shut = λ h. settled-shut new.zones zone (inr (ap (λ (c : Content). c.usage) content ∙ usage ∙ noted.opened h));
        }

    inner : zone ≢ plan.torn → ((zone ≡ plan.into) × (r ≡ written)) ⊎ ((zone ≢ plan.into) × (slice_get before zone ≡ Some r)) → IsKnown new zone r
    inner ne (inl here) = subst (IsKnown new zone) (sym here.1) (into-known here.0)
    inner ne (inr rest) = other-known start new zone r known.lawful e.mountable.lawful e.geometry (there-other n start new plan made zone e ne rest.0) (e.opens zone rest.0) (known.each zone r rest.1)

    by : ((zone ≡ plan.torn) × (r ≡ empty_report)) ⊎ ((zone ≢ plan.torn) × (slice_get (set before plan.into written) zone ≡ Some r)) → IsKnown new zone r
    by (inl here) = subst (IsKnown new zone) (sym here.1) (torn-known here.0)
    by (inr rest) = inner rest.0 (get-set before plan.into zone written r rest.1)

-- a survey in which the repair is noted knows the repaired drive
pub noted-knows : (n : ℕ) (start new : DriveState) (plan : MovePlan) (made : List Batch) (heads : HeadsView) (written : ReportedZone) (before after : Survey) → EmptiesTorn n start new plan made → heads ≡ heads_of made → IsNoted start.geometry.capacity heads written → Knows start n (drive_logs start) before
    → after.zones.items ≡ set (set before.zones.items plan.into written) plan.torn empty_report → after.scanned.items ≡ set (set before.scanned.items plan.into (record { heads = heads; is_torn = false })) plan.torn (record { heads = no_heads; is_torn = false })
    → after.size ≡ before.size → after.given ≡ before.given → Knows new n (drive_logs new) after
noted-knows n start new plan made heads written before after e heads-are noted known zones-are scanned-are size-is given-is =
    let disk = e.mountable.holds.disk in
    let logs = logs-emptied n start new plan made e in
    let one : ScannedZone = record { heads = heads; is_torn = false } in
    let two : ScannedZone = record { heads = no_heads; is_torn = false } in
    let encoded_heads : heads_in after.scanned.items ≡ set (set (map heads_of (drive_logs start)) plan.into (heads_of made)) plan.torn (heads_of []) =
    ap heads_in scanned-are ∙ heads-set (set before.scanned.items plan.into one) plan.torn two ∙ ap (λ (hs : List HeadsView). set hs plan.torn no_heads) (heads-set before.scanned.items plan.into one ∙ ap (λ (hs : List HeadsView). set hs plan.into heads) known.heads ∙ ap (λ (h : HeadsView). set (map heads_of (drive_logs start)) plan.into h) heads-are) in
    let encoded_tails : tails_in after.scanned.items ≡ set (set (zone_tails (contents start.zones)) plan.into false) plan.torn false =
    ap tails_in scanned-are ∙ tails-set' (set before.scanned.items plan.into one) plan.torn two ∙ ap (λ (ts : List Bool). set ts plan.torn false) (tails-set' before.scanned.items plan.into one ∙ ap (λ (ts : List Bool). set ts plan.into false) known.tails) in
    record {
      all_logs = disk.logs;
      count = length-map (contents new.zones) (zone_log new.geometry) ∙ length-map new.zones content_of;
      part = λ zone. inl refl;
      sound = disk.sound;
      reserve = disk.reserve;
      size_is = size-is ∙ known.size_is ∙ sym (length-encoded start n) ∙ ap length (sym e.array) ∙ length-encoded new n;
      given_is = given-is ∙ known.given_is;
      zones = record {
        geometry = rw e.geometry e.range;
        lawful = e.mountable.lawful;
        count = ap length zones-are ∙ length-set (set before.zones.items plan.into written) plan.torn empty_report ∙ length-set before.zones.items plan.into written ∙ known.zones.count ∙ sym (new-count n start new plan made e);
        each = each-known n start new plan made heads written before.zones.items after.zones.items e heads-are noted known.zones zones-are;
      };
      heads = encoded_heads ∙ sym (ap (map heads_of) logs ∙ map-set heads_of (set (drive_logs start) plan.into made) plan.torn [] ∙ ap (λ (hs : List HeadsView). set hs plan.torn (heads_of [])) (map-set heads_of (drive_logs start) plan.into made));
      tails = encoded_tails ∙ sym (tails-emptied n start new plan made e);
    }

-- with the repair noted, each vacant zone is still reported Empty
pub noted-vacant : (n : ℕ) (start new : DriveState) (plan : MovePlan) (made : List Batch) (written : ReportedZone) (before after : List ReportedZone) → EmptiesTorn n start new plan made → AreVacantEmpty before (drive_logs start) → length before ≡ length start.zones → after ≡ set (set before plan.into written) plan.torn empty_report → AreVacantEmpty after (drive_logs new)
noted-vacant n start new plan made written before after e vacant count is zone r there none =
    by (get-set (set before plan.into written) plan.torn zone empty_report r (rw is at there))
  where
    logs : drive_logs new ≡ set (set (drive_logs start) plan.into made) plan.torn []
    logs = logs-emptied n start new plan made e

    lt : zone < length (drive_logs start)
    lt = omega (arith, slice_get_within after zone r there, ap length is, length-set (set before plan.into written) plan.torn empty_report, length-set before plan.into written, count, length-map (contents start.zones) (zone_log start.geometry), length-map start.zones content_of)

    inner : zone ≢ plan.torn → ((zone ≡ plan.into) × (r ≡ written)) ⊎ ((zone ≢ plan.into) × (slice_get before zone ≡ Some r)) → r.state ≡ states.Empty
    inner ne (inl here) =
        let moves : log_at (drive_logs new) zone ≡ made = rw logs (get_or-set_other (set (drive_logs start) plan.into made) plan.torn zone [] [] ne ∙ rw here.0 (get_or-set_same (drive_logs start) plan.into made [] (omega (arith, lt, here.0)))) in
        let empty_log : made ≡ [] = sym moves ∙ none in
        absurd (omega (arith, e.some, ap log_size empty_log))
    inner ne (inr rest) =
        let same : log_at (drive_logs new) zone ≡ log_at (drive_logs start) zone = rw logs (get_or-set_other (set (drive_logs start) plan.into made) plan.torn zone [] [] ne ∙ get_or-set_other (drive_logs start) plan.into zone made [] rest.0) in
        vacant zone r rest.1 (sym same ∙ none)

    by : ((zone ≡ plan.torn) × (r ≡ empty_report)) ⊎ ((zone ≢ plan.torn) × (slice_get (set before plan.into written) zone ≡ Some r)) → r.state ≡ states.Empty
    by (inl here) = ap (λ (x : ReportedZone). x.state) here.1
    by (inr rest) = inner rest.0 (get-set before plan.into zone written r rest.1)
