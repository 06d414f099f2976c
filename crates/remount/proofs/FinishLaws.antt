-- Partly written zones that a disk does not continue with are finished, one after the other.
use Rattle.std.proofs.Common.{◌≡◌, ◌⊎◌, inl, inr, ℕ, ◌+◌, ◌<◌, ◌≤◌, ◌==◌, ◌&&◌, ◌||◌, not, ltb, Bool, true, false, List, [], ◌∷◌, ◌++◌, map, length, set, get_or, Some, refl, sym, ap, subst, ◌∙◌, arith, append-nil}
use Rattle.std.specs.Prelude.{slice_get}
use Rattle.std.specs.List.{AllByRecursion}
use Rattle.std.proofs.lemmas.Bool.{cases_eq, cases_lt, lt-ltb, ltb-true}
use Rattle.std.proofs.lemmas.List.{get_or-set_other, get_or-set_same, get_or_past, length-map, length-set}
use Rattle.std.proofs.lemmas.Option.{get_or_from_slice_get, slice_get-get_or, slice_get_within}
use Rattle.std.proofs.Math.ListN.{get_or-map}
use Rattle.nvme_wire.specs.declared.zone_state.ZoneState.TheVariants as states
use Rattle.zone_states.specs.declared.geometry.Geometry.{Geometry}
use Rattle.drive_port.specs.Contents.{Content, Finishes, Usage, active, empty, full, unusable, content_at, content_of, contents, finished, is_active_usage, is_full, nothing, usage_of}
use Rattle.drive_port.specs.Drive.{DriveState}
use Rattle.batch_log.specs.Log.{Batch}
use Rattle.drive_array.specs.ZoneLogs.{HasLog, drive_logs, has_torn_tail, log_at, padding, readable, zone_log, zone_tails}
use Rattle.drive_array.specs.Laws.{SameLogs}
use Rattle.drive_array.specs.Mountable.{is_partly_written}
use Rattle.drive_array.specs.Repair.{HasAtMost}
use Rattle.drive_array.specs.Reserve.{batch_most}
use Rattle.drive_array.proofs.AllLaws.{all-at}
use Rattle.drive_array.proofs.ZoneLogLaws.{finish_logs}
use Rattle.drive_survey.specs.declared.reported.ReportedZone.{ReportedZone}
use Rattle.drive_survey.specs.declared.scan.ScannedZone.{ScannedZone}
use Rattle.drive_survey.specs.declared.survey.Survey.{Survey}
use Rattle.drive_survey.specs.Heads.{HeadsView, heads_after, heads_of, no_heads, with_heading}
use Rattle.remount.specs.Kept.{AreVacantEmpty, Fits, FitsStill, KeepsMountable, Stays}
use Rattle.drive_survey.specs.Known.{Knows}
use Rattle.remount.specs.Mount.{AreWhole, IsRepaired, IsUntorn}
use Rattle.drive_survey.specs.Reported.{IsKnown}
use Rattle.remount.specs.Resets.{FinishesIf, FinishesNeeded, FinishesOne, CanBeFilled, IsTested, MayChange, is_to_finish, reported_full}
use Rattle.drive_survey.specs.Scan.{AreKnown, heads_in}
use Rattle.drive_survey.specs.Survey.{is_partly_reported}
use Rattle.remount.proofs.KeepLaws.{CanFinishZone, finish-keeps, keeps-mountable-both, keeps-mountable-none}

-- ---- tests

-- if a conjunction is true, so are both of its parts
pub and-both : (a b : Bool) → (a && b) ≡ true → (a ≡ true) × (b ≡ true)
and-both true b is = (refl, is)
and-both false b is = absurd (cc)

or-neither : (a b : Bool) → (a || b) ≡ false → (a ≡ false) × (b ≡ false)
or-neither true b is = absurd (cc)
or-neither false b is = (refl, is)

or-one : (a b : Bool) → (a || b) ≡ true → (a ≡ true) ⊎ (b ≡ true)
or-one true b is = inl refl
or-one false b is = inr is

not-below : (a b : ℕ) → ltb a b ≡ false → b ≤ a
not-below a b is = elim (cases_lt a b) as (λ _. b ≤ a) [ inl lt ↦ absurd (let yes : ltb a b ≡ true = lt-ltb a b lt in cc) | inr ge ↦ ge ]

is-active : (usage : Usage) → is_active_usage usage ≡ true → usage ≡ active
is-active empty is = absurd (cc)
is-active active is = refl
is-active full is = absurd (cc)
is-active unusable is = absurd (cc)

-- what is reported of a zone that is partly written
record PartlyKnown (drive : DriveState) (zone : ℕ) (r : ReportedZone) : Type 0 where
  reported : is_partly_reported r ≡ true
  blocks : r.blocks ≡ length (content_at (contents drive.zones) zone).blocks

active-blocks : (geometry : Geometry) (content : Content) → content.usage ≡ active → length (readable geometry content) ≡ length content.blocks
active-blocks geometry content is =
    let same : readable geometry content ≡ content.blocks = ap (λ (u : Usage). content.blocks ++ padding geometry (is_full u) (length content.blocks)) is ∙ append-nil content.blocks in
    ap length same

partly-known : (drive : DriveState) (zone : ℕ) (r : ReportedZone) → IsKnown drive zone r → is_partly_written (content_at (contents drive.zones) zone) ≡ true → PartlyKnown drive zone r
partly-known drive zone r known is =
    let content = content_at (contents drive.zones) zone in
    let both = and-both (is_active_usage content.usage) (not (length content.blocks == 0)) is in
    let blocks : r.blocks ≡ length content.blocks = known.blocks ∙ active-blocks drive.geometry content (is-active content.usage both.0) in
    let usage : is_active_usage (usage_of r.state) ≡ true = ap is_active_usage (sym known.usage) ∙ both.0 in
    record { reported = rw (usage, blocks) both.1; blocks = blocks }

-- a zone that is to be finished is active
to-finish-active : (capacity most : ℕ) (r : ReportedZone) (heads : HeadsView) → is_to_finish capacity most r heads ≡ true → usage_of r.state ≡ active
to-finish-active capacity most r heads is =
    let one = and-both (is_partly_reported r) (ltb capacity (r.blocks + 2) || ltb most heads.most) is in
    is-active (usage_of r.state) (and-both (is_active_usage (usage_of r.state)) (not (r.blocks == 0)) one.0).0

-- ---- the entries of the batches

most-least : (view : HeadsView) (log : List Batch) → view.most ≤ (heads_after view log).most
most-least view [] = omega arith
most-least view (b ∷ bs) = omega (arith, most-least (with_heading view b.heading) bs)

most-few : (view : HeadsView) (most : ℕ) (log : List Batch) → (heads_after view log).most ≤ most → AllByRecursion (HasAtMost most) log
most-few view most [] le = tt
most-few view most (b ∷ bs) le = (omega (arith, le, most-least (with_heading view b.heading) bs), most-few (with_heading view b.heading) most bs le)

most-most : (view : HeadsView) (most : ℕ) (log : List Batch) → view.most ≤ most → AllByRecursion (HasAtMost most) log → (heads_after view log).most ≤ most
most-most view most [] le all = le
most-most view most (b ∷ bs) le all = most-most (with_heading view b.heading) most bs (omega (arith, le, all.0)) all.1

-- ---- a zone that is surveyed

record SurveyedAt (drive : DriveState) (logs : List (List Batch)) (survey : Survey) (zone : ℕ) : Type 0 where
  r : ReportedZone
  there : slice_get survey.zones.items zone ≡ Some r
  heads : slice_get (heads_in survey.scanned.items) zone ≡ Some (heads_of (log_at logs zone))
  known : IsKnown drive zone r

surveyed-at : (drive : DriveState) (logs : List (List Batch)) (survey : Survey) (zone : ℕ) → AreKnown drive survey.zones.items → heads_in survey.scanned.items ≡ map heads_of logs → length logs ≡ length survey.zones.items → zone < length survey.zones.items → SurveyedAt drive logs survey zone
surveyed-at drive logs survey zone known heads long lt =
    let none : ReportedZone = reported_full 0 in
    let there = slice_get-get_or survey.zones.items zone none lt in
    record {
      r = get_or survey.zones.items zone none;
      there = there;
      heads = ap (λ (hs : List HeadsView). slice_get hs zone) heads ∙ slice_get-get_or (map heads_of logs) zone no_heads (omega (arith, lt, long, length-map logs heads_of)) ∙ ap Some (get_or-map heads_of logs zone []);
      known = known.each zone (get_or survey.zones.items zone none) there;
    }

-- ---- one zone after the other

-- the zones below one are such that a disk continues with them
pub record FinishesSome (first now : DriveState) (before survey : Survey) (n zone : ℕ) : Type 0 where
  pub keeps : KeepsMountable n first now
  pub logs : drive_logs now ≡ drive_logs first
  pub known : AreKnown now survey.zones.items
  pub scanned : survey.scanned ≡ before.scanned
  pub tails : zone_tails (contents now.zones) ≡ zone_tails (contents first.zones)
  pub size : survey.size ≡ before.size
  pub given : survey.given ≡ before.given
  pub vacant : AreVacantEmpty survey.zones.items (drive_logs first)
  pub done : (k : ℕ) → k < zone → CanBeFilled now k
  pub needed : FinishesNeeded first now

-- on a drive without torn zones none is finished before the first test
pub finishes-none : (drive : DriveState) (survey : Survey) (n : ℕ) → IsUntorn drive n survey → FinishesSome drive drive survey survey n 0
finishes-none drive survey n can = record {
  keeps = keeps-mountable-none n drive can.mountable.lawful;
  logs = refl;
  known = can.known.zones;
  scanned = refl;
  tails = refl;
  size = refl;
  given = refl;
  vacant = can.empty;
  done = λ k lt. absurd (omega (arith, lt));
  needed = record { going = λ k goes. refl; blocks = λ k. refl; opens = λ k h. h };
}

some-at : (first now : DriveState) (before survey : Survey) (n below zone : ℕ) → IsUntorn first n before → FinishesSome first now before survey n below → zone < length survey.zones.items → SurveyedAt now (drive_logs first) survey zone
some-at first now before survey n below zone can some lt =
    let long : length (drive_logs first) ≡ length survey.zones.items = omega (arith, can.known.count, can.known.zones.count, some.known.count, ap length some.logs, length-map (contents now.zones) (zone_log now.geometry), length-map now.zones content_of) in
    let heads : heads_in survey.scanned.items ≡ map heads_of (drive_logs first) = rw some.scanned can.known.heads in
    surveyed-at now (drive_logs first) survey zone some.known heads long lt

-- the survey keeps its number of zones while zones are finished
pub same-long : (first now : DriveState) (before survey : Survey) (n zone : ℕ) → IsUntorn first n before → FinishesSome first now before survey n zone → length survey.zones.items ≡ length before.zones.items
same-long first now before survey n zone can some =
    omega (arith, can.known.count, can.known.zones.count, some.known.count, ap length some.logs, length-map (contents now.zones) (zone_log now.geometry), length-map now.zones content_of)

tails-false : (drive : DriveState) (zone : ℕ) → AreWhole (contents drive.zones) → has_torn_tail (content_at (contents drive.zones) zone) ≡ false
unfolding has_torn_tail
tails-false drive zone whole = sym (get_or-map has_torn_tail (contents drive.zones) zone nothing) ∙ whole zone

-- a zone that is to be finished can be
can-finish : (first now : DriveState) (before survey : Survey) (n zone : ℕ) → IsUntorn first n before → FinishesSome first now before survey n zone → zone < length survey.zones.items
    → IsTested now.geometry.capacity (batch_most now.geometry) survey zone true → CanFinishZone now zone
can-finish first now before survey n zone can some lt tested =
    let at = some-at first now before survey n zone zone can some lt in
    let active_is = to-finish-active now.geometry.capacity (batch_most now.geometry) at.r (heads_of (log_at (drive_logs first) zone)) (tested at.r (heads_of (log_at (drive_logs first) zone)) at.there at.heads) in
    record {
      small = some.keeps.lawful.geometry.block;
      writable = rw (at.known.usage, active_is) refl;
      whole = tails-false now zone (λ k. ap (λ (ts : List Bool). get_or ts k false) some.tails ∙ can.whole k);
    }

-- a Finish of a zone that has to be finished, also one that halts, keeps the drive mountable
pub finish-if-keeps : (first now new : DriveState) (before survey : Survey) (n zone : ℕ) → IsUntorn first n before → FinishesSome first now before survey n zone → zone < length survey.zones.items
    → MayChange (λ a b. Finishes a b zone × IsTested now.geometry.capacity (batch_most now.geometry) survey zone true) now new → KeepsMountable n first new
finish-if-keeps first now new before survey n zone can some lt change =
    keeps-mountable-both n first now new some.keeps (finish-keeps n now new zone (λ a b. Finishes a b zone × IsTested now.geometry.capacity (batch_most now.geometry) survey zone true) (λ a b changes. (changes.0, can-finish first now before survey n zone can some lt changes.1)) change)

-- a disk does not continue with a zone that is to be finished
due-stops : (first now : DriveState) (before survey : Survey) (n zone : ℕ) → IsUntorn first n before → FinishesSome first now before survey n zone → zone < length survey.zones.items
    → IsTested now.geometry.capacity (batch_most now.geometry) survey zone true → CanBeFilled now zone → ⊥
due-stops first now before survey n zone can some lt tested goes = by (or-one (ltb now.geometry.capacity (at.r.blocks + 2)) (ltb (batch_most now.geometry) heads.most) both.1)
  where
    at : SurveyedAt now (drive_logs first) survey zone
    at = some-at first now before survey n zone zone can some lt

    heads : HeadsView
    heads = heads_of (log_at (drive_logs first) zone)

    both : (is_partly_reported at.r ≡ true) × ((ltb now.geometry.capacity (at.r.blocks + 2) || ltb (batch_most now.geometry) heads.most) ≡ true)
    both = and-both (is_partly_reported at.r) (ltb now.geometry.capacity (at.r.blocks + 2) || ltb (batch_most now.geometry) heads.most) (tested at.r heads at.there at.heads)

    content : Content
    content = content_at (contents now.zones) zone

    active_is : content.usage ≡ active
    active_is = at.known.usage ∙ is-active (usage_of at.r.state) (and-both (is_active_usage (usage_of at.r.state)) (not (at.r.blocks == 0)) both.0).0

    blocks : at.r.blocks ≡ length content.blocks
    blocks = at.known.blocks ∙ active-blocks now.geometry content active_is

    some_blocks : not (at.r.blocks == 0) ≡ true
    some_blocks = (and-both (is_active_usage (usage_of at.r.state)) (not (at.r.blocks == 0)) both.0).1

    partly : is_partly_written content ≡ true
    partly = rw (active_is, ← blocks) some_blocks

    by : (ltb now.geometry.capacity (at.r.blocks + 2) ≡ true) ⊎ (ltb (batch_most now.geometry) heads.most ≡ true) → ⊥
    by (inl few) = absurd (omega (arith, (goes partly).0, blocks, ltb-true now.geometry.capacity (at.r.blocks + 2) few))
    by (inr many) =
        let all : AllByRecursion (HasAtMost (batch_most now.geometry)) (log_at (drive_logs first) zone) = rw some.logs at (goes partly).1 in
        absurd (omega (arith, most-most no_heads (batch_most now.geometry) (log_at (drive_logs first) zone) (omega arith) all, ltb-true (batch_most now.geometry) heads.most many))

-- a zone that is not to be finished
goes-on : (first now : DriveState) (before survey : Survey) (n zone : ℕ) → IsUntorn first n before → FinishesSome first now before survey n zone → zone < length survey.zones.items
    → IsTested now.geometry.capacity (batch_most now.geometry) survey zone false → CanBeFilled now zone
goes-on first now before survey n zone can some lt tested partly =
    let at = some-at first now before survey n zone zone can some lt in
    let heads = heads_of (log_at (drive_logs first) zone) in
    let part = partly-known now zone at.r at.known partly in
    let test : is_to_finish now.geometry.capacity (batch_most now.geometry) at.r heads ≡ false = tested at.r heads at.there at.heads in
    let neither = or-neither (ltb now.geometry.capacity (at.r.blocks + 2)) (ltb (batch_most now.geometry) heads.most) (rw part.reported at test) in
    let room = not-below now.geometry.capacity (at.r.blocks + 2) neither.0 in
    let few = most-few no_heads (batch_most now.geometry) (log_at (drive_logs first) zone) (not-below (batch_most now.geometry) heads.most neither.1) in
    (omega (arith, room, part.blocks), rw some.logs few)

-- one zone more is done once it was tested, and finished if that was due
pub finishes-more : (first now new : DriveState) (before survey after : Survey) (n zone : ℕ) → IsUntorn first n before → FinishesSome first now before survey n zone → zone < length survey.zones.items → KeepsMountable n first new
    → FinishesIf now new survey after zone → FinishesSome first new before after n (zone + 1)
finishes-more first now new before survey after n zone can some lt keeps (inl is) = rw (is.1, is.2) (record {
  keeps = some.keeps;
  logs = some.logs;
  known = some.known;
  scanned = some.scanned;
  tails = some.tails;
  size = some.size;
  given = some.given;
  vacant = some.vacant;
  done = λ k below. elim (cases_eq k zone) as (λ _. CanBeFilled now k) [
    | inl same ↦ subst (CanBeFilled now) (sym same) (goes-on first now before survey n zone can some lt is.0)
    | inr other ↦ some.done k (omega (arith, below, other))
  ];
  needed = some.needed;
})
finishes-more first now new before survey after n zone can some lt keeps (inr is) = record {
  keeps = keeps;
  logs = rw one.geometry kept.logs ∙ some.logs;
  known = one.known;
  scanned = one.scanned ∙ some.scanned;
  tails = kept.tails_are ∙ some.tails;
  size = one.size ∙ some.size;
  given = one.given ∙ some.given;
  vacant = λ k r there none. vacant-at k r (cases_eq k zone) there none;
  done = λ k below. done-at k (cases_eq k zone) below;
  needed = record {
    going = λ k goes. others-at k (cases_eq k zone) goes;
    blocks = λ k. blocks-at k (cases_eq k zone);
    opens = λ k h. one.opens k (some.needed.opens k h);
  };
}
  where
    one : FinishesOne now new survey after zone
    one = is.1

    cf : CanFinishZone now zone
    cf = can-finish first now before survey n zone can some lt is.0

    kept : SameLogs now.geometry (contents now.zones) (contents new.zones) (zone_tails (contents now.zones))
    kept =
        let has = all-at (HasLog now.geometry) (contents now.zones) zone nothing (some.keeps.mountable can.mountable).holds.disk.logs one.contents_are.in_range in
        finish_logs now.geometry (contents now.zones) (contents new.zones) zone cf.small has cf.writable cf.whole one.contents_are

    vacant-at : (k : ℕ) (r : ReportedZone) → (k ≡ zone) ⊎ (k ≡ zone → ⊥) → slice_get after.zones.items k ≡ Some r → log_at (drive_logs first) k ≡ [] → r.state ≡ states.Empty
    vacant-at k r (inl same) there none =
        let at = some-at first now before survey n zone zone can some lt in
        let active_is = to-finish-active now.geometry.capacity (batch_most now.geometry) at.r (heads_of (log_at (drive_logs first) zone)) (is.0 at.r (heads_of (log_at (drive_logs first) zone)) at.there at.heads) in
        let state : at.r.state ≡ states.Empty = some.vacant zone at.r at.there (rw same at none) in
        absurd (let bad : empty ≡ active = ap usage_of (sym state) ∙ active_is in cc)
    vacant-at k r (inr other) there none =
        let was : slice_get (set survey.zones.items zone (reported_full now.geometry.capacity)) k ≡ Some r = ap (λ (rs : List ReportedZone). slice_get rs k) (sym one.reported) ∙ there in
        let lt' : k < length survey.zones.items = omega (arith, slice_get_within (set survey.zones.items zone (reported_full now.geometry.capacity)) k r was, length-set survey.zones.items zone (reported_full now.geometry.capacity)) in
        let value : get_or survey.zones.items k r ≡ r = sym (get_or-set_other survey.zones.items zone k (reported_full now.geometry.capacity) r other) ∙ get_or_from_slice_get (set survey.zones.items zone (reported_full now.geometry.capacity)) k r r was in
        some.vacant k r (slice_get-get_or survey.zones.items k r lt' ∙ ap Some value) none

    done-at : (k : ℕ) → (k ≡ zone) ⊎ (k ≡ zone → ⊥) → k < zone + 1 → CanBeFilled new k
    done-at k (inl same) below =
        let here : content_at (contents new.zones) k ≡ finished (content_at (contents now.zones) zone) = rw (same, one.contents_are.zones) (get_or-set_same (contents now.zones) zone (finished (content_at (contents now.zones) zone)) nothing one.contents_are.in_range) in
        λ partly. absurd (let bad : false ≡ true = rw here at partly in cc)
    done-at k (inr other) below =
        let here : content_at (contents new.zones) k ≡ content_at (contents now.zones) k = rw one.contents_are.zones (get_or-set_other (contents now.zones) zone k (finished (content_at (contents now.zones) zone)) nothing other) in
        λ partly. rw (here, one.geometry, kept.logs) (some.done k (omega (arith, below, other)) (rw here at partly))

    others-at : (k : ℕ) → (k ≡ zone) ⊎ (k ≡ zone → ⊥) → CanBeFilled first k → content_at (contents new.zones) k ≡ content_at (contents first.zones) k
    others-at k (inl same) goes =
        let still : CanBeFilled now k = λ partly. rw (some.logs, some.keeps.geometry, some.needed.going k goes) (goes (rw (some.needed.going k goes) at partly)) in
        absurd (due-stops first now before survey n zone can some lt is.0 (subst (CanBeFilled now) same still))
    others-at k (inr other) goes =
        rw one.contents_are.zones (get_or-set_other (contents now.zones) zone k (finished (content_at (contents now.zones) zone)) nothing other) ∙ some.needed.going k goes

    blocks-at : (k : ℕ) → (k ≡ zone) ⊎ (k ≡ zone → ⊥) → (content_at (contents new.zones) k).blocks ≡ (content_at (contents first.zones) k).blocks
    blocks-at k (inl same) =
        let here : content_at (contents new.zones) k ≡ finished (content_at (contents now.zones) zone) = rw (same, one.contents_are.zones) (get_or-set_same (contents now.zones) zone (finished (content_at (contents now.zones) zone)) nothing one.contents_are.in_range) in
        ap (λ (c : Content). c.blocks) here ∙ ap (λ (z : ℕ). (content_at (contents now.zones) z).blocks) (sym same) ∙ some.needed.blocks k
    blocks-at k (inr other) =
        let here : content_at (contents new.zones) k ≡ content_at (contents now.zones) k = rw one.contents_are.zones (get_or-set_other (contents now.zones) zone k (finished (content_at (contents now.zones) zone)) nothing other) in
        ap (λ (c : Content). c.blocks) here ∙ some.needed.blocks k

-- ---- all of them

-- the survey knows the drive while zones are finished
finish-knows : (first now : DriveState) (before survey : Survey) (n zone : ℕ) → IsUntorn first n before → FinishesSome first now before survey n zone → Knows now n (drive_logs now) survey
finish-knows first now before survey n zone can some =
    let was = can.known in
    let logs = some.logs in
    record {
      all_logs = (some.keeps.mountable can.mountable).holds.disk.logs;
      count = length-map (contents now.zones) (zone_log now.geometry) ∙ length-map now.zones content_of;
      part = λ zone. inl refl;
      sound = rw logs was.sound;
      reserve = rw (logs, some.keeps.geometry) was.reserve;
      size_is = some.size ∙ rw logs was.size_is;
      given_is = some.given ∙ was.given_is;
      zones = some.known;
      heads = rw (logs, some.scanned) was.heads;
      tails = rw (some.scanned, some.tails) was.tails;
    }

-- once all zones are done, the drive is repaired
pub finish-repaired : (first now : DriveState) (before survey : Survey) (n zone : ℕ) → IsUntorn first n before → FinishesSome first now before survey n zone → length survey.zones.items ≤ zone → IsRepaired now n survey
finish-repaired first now before survey n zone can some all = record {
  known = finish-knows first now before survey n zone can some;
  empty = rw some.logs some.vacant;
  whole = λ k. ap (λ (ts : List Bool). get_or ts k false) some.tails ∙ can.whole k;
  few_partial = (some.keeps.mountable can.mountable).holds.disk.few_partial;
  room = λ k partly. (each k partly).0;
  few = λ k partly. (each k partly).1;
  vacant = rw some.logs can.spare;
}
  where
    each : (k : ℕ) → CanBeFilled now k
    each k = elim (cases_lt k zone) as (λ _. CanBeFilled now k) [
      | inl lt ↦ some.done k lt
      | inr past ↦ (λ partly. absurd (let none : content_at (contents now.zones) k ≡ nothing = get_or_past (contents now.zones) k nothing (omega (arith, past, all, some.known.count, length-map now.zones content_of)) in let bad : false ≡ true = rw none at partly in cc))
    ]

-- ---- the test of one zone

-- a test of the report and headers of a zone is the test of the surveyed zone
pub tested-is : (survey : Survey) (zone capacity capacity' most most' : ℕ) (r : ReportedZone) (z : ScannedZone) (b : Bool) → zone < length survey.zones.items → length survey.scanned.items ≡ length survey.zones.items → capacity ≡ capacity' → most ≡ most'
    → r ≡ get_or survey.zones.items zone r → z ≡ get_or survey.scanned.items zone z → b ≡ is_to_finish capacity most r z.heads → IsTested capacity' most' survey zone b
tested-is survey zone capacity capacity' most most' r z b lt long same same' r-is z-is test r' heads there there' =
    let one : get_or survey.zones.items zone r ≡ r' = get_or_from_slice_get survey.zones.items zone r' r there in
    let two : get_or (heads_in survey.scanned.items) zone z.heads ≡ heads = get_or_from_slice_get (heads_in survey.scanned.items) zone heads z.heads there' in
    let three : get_or (heads_in survey.scanned.items) zone z.heads ≡ z.heads = get_or-map (λ (x : ScannedZone). x.heads) survey.scanned.items zone z ∙ ap (λ (x : ScannedZone). x.heads) (sym z-is) in
    let first : r ≡ r' = r-is ∙ one in
    let second : z.heads ≡ heads = sym three ∙ two in
    rw (← same, ← same', ← first, ← second) (sym test)

-- a fact that holds may be added to what a Finish changes
pub may-finish : (old new : DriveState) (zone : ℕ) (P : Type 0) → P → MayChange (λ a b. Finishes a b zone) old new → MayChange (λ a b. Finishes a b zone × P) old new
may-finish old new zone P p change = record {
  geometry = change.geometry;
  lawful = change.lawful;
  refused = change.refused;
  durable = change.durable;
  trusted = change.trusted;
  unfailing = change.unfailing;
  contents_are = elim change.contents_are as (λ _. (contents new.zones ≡ contents old.zones) ⊎ (Finishes (contents old.zones) (contents new.zones) zone × P)) [ inl same ↦ inl same | inr finishes ↦ inr (finishes, p) ];
}

-- ---- what stays whatever the Reads returned

pub stays-more : (first now new : DriveState) (Changes : List Content → List Content → Type 0) → Stays first now → MayChange Changes now new → Stays first new
stays-more first now new Changes stays change = record { geometry = change.geometry ∙ stays.geometry; lawful = change.lawful; trusted = λ clean. stays.trusted (change.trusted clean); unfailing = λ up. stays.unfailing (change.unfailing up) }

pub fits-more : (now new : DriveState) (survey after : Survey) (zone : ℕ) → Fits now survey → FinishesIf now new survey after zone → Fits new after × (length after.zones.items ≡ length survey.zones.items)
fits-more now new survey after zone fits (inl is) = rw (is.1, is.2) (fits, refl)
fits-more now new survey after zone fits (inr is) =
    let one = is.1 in
    let count : length after.zones.items ≡ length survey.zones.items = ap length one.reported ∙ length-set survey.zones.items zone (reported_full now.geometry.capacity) in
    (record { zones = one.known; scanned = rw one.scanned (fits.scanned ∙ sym count) }, count)

pub fits-finished : (now new : DriveState) (survey after : Survey) (zone : ℕ) → Fits now survey → FinishesOne now new survey after zone → FitsStill new survey after
fits-finished now new survey after zone fits one =
    let count : length after.zones.items ≡ length survey.zones.items = ap length one.reported ∙ length-set survey.zones.items zone (reported_full now.geometry.capacity) in
    record { fits = record { zones = one.known; scanned = rw one.scanned (fits.scanned ∙ sym count) }; count = count }
