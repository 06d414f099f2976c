-- What the commands of a repair keep, and which faults they end with.
use Rattle.std.proofs.Common.{◌≡◌, ◌≢◌, ◌⊎◌, inl, inr, ℕ, zero, suc, ◌+◌, ◌*◌, ◌/◌, ◌%◌, ◌<◌, ◌≤◌, Bool, true, false, List, [], ◌∷◌, length, set, get_or, Some, Result, Ok, Err, refl, sym, ap, subst, ◌∙◌, arith}
use Rattle.std.specs.Prelude.{IfErr, IfOk, OnOk, slice_get}
use Rattle.std.proofs.lemmas.Bool.{cases_eq}
use Rattle.std.proofs.lemmas.List.{get_or-set_other, get_or-set_same, length-map}
use Rattle.std.proofs.lemmas.Option.{slice_get-get_or}
use Rattle.nvme_wire.specs.declared.zone_state.ZoneState.{ZoneState}
use Rattle.nvme_wire.specs.declared.zone_state.ZoneState.TheVariants as states
use Rattle.zone_states.specs.declared.geometry.Geometry.{Geometry}
use Rattle.zone_states.specs.Geometry.{IsInRange}
use Rattle.zone_states.specs.Transition.{is_active, is_open}
use Rattle.zone_states.specs.Zone.{Zone}
use Rattle.drive_port.specs.Calls.{CanClose, CanReset, CloseLeaves, ClosedZone, IsNotRefused, Obeys}
use Rattle.drive_port.specs.Contents.{Content, Counts, Finishes, SameContents, content_at, content_of, contents, emptied, finished, full, is_active_usage, is_full, is_usable, is_writable, nothing, usage_of}
use Rattle.drive_port.specs.Drive.{DriveState, IsClosing, IsLawful}
use Rattle.drive_port.specs.Step.{nowhere, zone_at}
use Rattle.drive_port.specs.declared.calls.PortFault.{PortFault}
use Rattle.drive_port.specs.declared.calls.PortFault.TheVariants as port
use Rattle.drive_port.proofs.ClosingLaws.{content_at-contents}
use Rattle.zone_choice.specs.Agreement.{IsShut}
use Rattle.drive_array.specs.ZoneLogs.{HasLog, drive_logs, has_torn_tail, log_at, zone_tails}
use Rattle.zone_choice.specs.Changes.{IsHalt}
use Rattle.zone_choice.proofs.AgreementLaws.{encoded_same}
use Rattle.drive_array.proofs.AllLaws.{all-at}
use Rattle.zone_choice.proofs.CommandLaws.{start-below, zone-start}
use Rattle.zone_choice.proofs.OpenLaws.{close-opens, closing-opens}
use Rattle.drive_array.proofs.ZoneLogLaws.{finish_logs, tail-at}
use Rattle.drive_survey.specs.declared.fault.MountFault.{MountFault}
use Rattle.drive_survey.specs.declared.reported.ReportedZone.{ReportedZone}
use Rattle.drive_survey.specs.declared.survey.Survey.{Survey}
use Rattle.remount.specs.Kept.{AreVacantEmpty, KeepsMountable, Stays}
use Rattle.drive_survey.specs.Known.{Knows}
use Rattle.remount.specs.Mount.{IsOnlyTorn}
use Rattle.remount.specs.Resets.{FinishesOne, OpensNoZone, finished_if_active, reported_full}
use Rattle.remount.specs.Moving.{AreSettled, FinishesZone, KeepsShut, SettlesZone}
use Rattle.drive_survey.specs.Reported.{IsKnown, KeepsZones}
use Rattle.drive_survey.specs.Scan.{AreKnown, FailsBy, mount_fault}
use Rattle.drive_survey.proofs.ReadLaws.{kept-contents}

-- ---- lists

-- an element after a write is the written value at its index, or an old element elsewhere
pub get-set : {X : Type 0} (xs : List X) (i j : ℕ) (v x : X) → slice_get (set xs i v) j ≡ Some x → ((j ≡ i) × (x ≡ v)) ⊎ ((j ≢ i) × (slice_get xs j ≡ Some x))
get-set [] i j v x is = absurd (cc)
get-set (y ∷ ys) zero zero v x is = let same : Some v ≡ Some x = is in inl (refl, cc)
get-set (y ∷ ys) zero (suc j) v x is = inr ((λ e. absurd (omega arith)), is)
get-set (y ∷ ys) (suc i) zero v x is = inr ((λ e. absurd (omega arith)), is)
get-set {X} (y ∷ ys) (suc i) (suc j) v x is = elim (get-set ys i j v x is) as (λ _. ((suc j ≡ suc i) × (x ≡ v)) ⊎ ((suc j ≢ suc i) × (slice_get ys j ≡ Some x))) [
  | inl here ↦ inl (ap suc here.0, here.1)
  | inr there ↦ inr ((λ e. there.0 (omega arith)), there.1)
]

-- a list has an element at each index below its length
pub in-get : {X : Type 0} (xs : List X) (i : ℕ) (d : X) → i < length xs → (x : X) × (slice_get xs i ≡ Some x)
in-get xs i d lt = (get_or xs i d, slice_get-get_or xs i d lt)

-- ---- the same drive, as a mount sees it

-- two steps that each keep a drive mountable, with its array, keep it so together
pub mountable-both : (n : ℕ) (a b c : DriveState) → KeepsMountable n a b → KeepsMountable n b c → KeepsMountable n a c
mountable-both n a b c k l = record {
  geometry = l.geometry ∙ k.geometry;
  lawful = l.lawful;
  refused = l.refused ∙ k.refused;
  durable = l.durable ∙ k.durable;
  mountable = λ m. l.mountable (k.mountable m);
  array = λ m. l.array (k.mountable m) ∙ k.array m;
}

-- a lawful drive with the same contents, and no refused command, stays mountable with its array
pub mountable-same : (n : ℕ) (old new : DriveState) → SameContents old new → IsLawful new → new.refused ≡ old.refused → new.durable ≡ old.durable → KeepsMountable n old new
mountable-same n old new same lawful refused durable = record {
  geometry = same.geometry;
  lawful = lawful;
  refused = refused;
  durable = durable;
  mountable = λ m. record { lawful = lawful; holds = rw (same.geometry, same.contents) m.holds };
  array = λ m. encoded_same old new n same;
}

-- if contents stay and no zone is opened, a drive stays mountable with its array
pub shut-mountable : (n : ℕ) (old new : DriveState) → KeepsShut old new → KeepsMountable n old new
shut-mountable n old new k = mountable-same n old new (record { geometry = k.geometry; contents = k.contents_are }) k.lawful k.refused k.durable

-- nor is the shape changed
pub shut-stays : (old new : DriveState) → KeepsShut old new → Stays old new
shut-stays old new k = record { geometry = k.geometry; lawful = k.lawful; trusted = k.trusted; unfailing = k.unfailing }

-- if only the controller closed zones, the contents stay and no zone is opened
pub zones-shut : (old new : DriveState) → KeepsZones old new → KeepsShut old new
zones-shut old new k = record { geometry = k.geometry; contents_are = kept-contents old new k; lawful = k.lawful; refused = k.refused; durable = k.durable; opens = closing-opens old.zones new.zones k.closing; trusted = k.trusted; unfailing = k.unfailing }

-- a Read that succeeds keeps the zones, though the controller may close some
pub read-kept : (old new : DriveState) → Obeys {V = Unit {0}} old (Ok tt) new → IsClosing old.zones new.zones → Counts old new 0 → KeepsZones old new
read-kept old new obeys closing counts = record { geometry = obeys.geometry; lawful = obeys.lawful; closing = closing; trusted = obeys.trusted; unfailing = obeys.unfailing; refused = counts.refused; durable = obeys.durable; appended = omega (arith, counts.appended) }

-- two steps that keep the contents and open no zone do so together
pub shut-both : (a b c : DriveState) → KeepsShut a b → KeepsShut b c → KeepsShut a c
shut-both a b c k l = record { geometry = l.geometry ∙ k.geometry; contents_are = l.contents_are ∙ k.contents_are; lawful = l.lawful; refused = l.refused ∙ k.refused; durable = l.durable ∙ k.durable; opens = λ zone h. l.opens zone (k.opens zone h); trusted = λ clean. k.trusted (l.trusted clean); unfailing = λ up. k.unfailing (l.unfailing up) }

-- drives with the same contents have the same number of zones
pub shut-count : (old new : DriveState) → contents new.zones ≡ contents old.zones → length new.zones ≡ length old.zones
shut-count old new same = omega (arith, ap length same, length-map new.zones content_of, length-map old.zones content_of)

-- what is known of a zone stays known if contents stay and no zone is opened
pub shut-known : (old new : DriveState) (zone : ℕ) (reported : ReportedZone) → KeepsShut old new → IsKnown old zone reported → IsKnown new zone reported
shut-known old new zone reported k known =
    let same = k.contents_are in
    record {
      geometry = rw k.geometry known.geometry;
      lawful = k.lawful;
      in_range = omega (arith, shut-count old new same, known.in_range);
      usage = rw same known.usage;
      usable = known.usable;
      blocks = rw (k.geometry, same) known.blocks;
      shut = λ h. k.opens zone (known.shut h);
    }

-- what is known of all zones stays known if contents stay and no zone is opened
shut-all : (old new : DriveState) (reported : List ReportedZone) → KeepsShut old new → AreKnown old reported → AreKnown new reported
shut-all old new reported k known = record {
  geometry = rw k.geometry known.geometry;
  lawful = k.lawful;
  count = known.count ∙ sym (shut-count old new k.contents_are);
  each = λ zone r is. shut-known old new zone r k (known.each zone r is);
}

-- if the contents stay, so do the logs
pub shut-logs : (old new : DriveState) → KeepsShut old new → drive_logs new ≡ drive_logs old
shut-logs old new k = rw (k.geometry, k.contents_are) refl

-- what a survey knows still holds if contents stay and no zone is opened
pub shut-knows : (n : ℕ) (old new : DriveState) (survey : Survey) → KeepsShut old new → Knows old n (drive_logs old) survey → Knows new n (drive_logs new) survey
shut-knows n old new survey k known =
    rw (shut-logs old new k) (record {
      all_logs = rw (k.geometry, k.contents_are) known.all_logs;
      count = known.count ∙ sym (shut-count old new k.contents_are);
      part = rw (shut-logs old new k) known.part;
      sound = known.sound;
      reserve = rw k.geometry known.reserve;
      size_is = known.size_is;
      given_is = known.given_is;
      zones = shut-all old new survey.zones.items k known.zones;
      heads = known.heads;
      tails = rw k.contents_are known.tails;
    })

-- ---- halts

-- a fault is a halt, and interrupts a mount
pub record Halted (new : DriveState) (fault : PortFault) : Type 0 where
  pub halt : IsHalt fault
  pub cause : FailsBy (λ _. ⊥) new (mount_fault fault)

-- a command that failed, but was not refused, has halted
pub has-halted : {V : Type 0} (old new : DriveState) (fault : PortFault) → IsNotRefused {V = V} (Err fault) → Obeys {V = V} old (Err fault) new → Halted new fault
has-halted {V} old new (port.Refused status) passed obeys = absurd passed
has-halted {V} old new port.Memory passed obeys = record { halt = tt; cause = inl refl }
has-halted {V} old new port.Failed passed obeys = record { halt = tt; cause = inr (inl (inr (refl, (obeys.fails refl).0))) }
has-halted {V} old new port.Stopped passed obeys = record { halt = tt; cause = inr (inl (inl (refl, obeys.stops refl))) }

-- where a zone starts
pub record StartsAt (drive : DriveState) (zone start : ℕ) : Type 0 where
  pub index : start / drive.geometry.size ≡ zone
  pub aligned : start % drive.geometry.size ≡ 0
  pub below : start < drive.geometry.zones * drive.geometry.size

-- a zone starts at its number times the zone size
pub starts-at : (drive : DriveState) (zone start : ℕ) → IsInRange drive.geometry → IsLawful drive → zone < length drive.zones → start ≡ zone * drive.geometry.size → StartsAt drive zone start
starts-at drive zone start range lawful lt is =
    let at = zone-start zone drive.geometry.size range.size.0 in
    record { index = rw is at.0; aligned = rw is at.1; below = rw is (start-below zone drive.geometry.zones drive.geometry.size range.size.0 (omega (arith, lt, lawful.count))) }

-- ---- a Finish

-- a zone that is usable can be reset by the address where it starts
pub can-reset : (drive : DriveState) (zone start : ℕ) → StartsAt drive zone start → is_usable (content_at (contents drive.zones) zone).usage ≡ true → CanReset drive start
can-reset drive zone start at usable = record {
  aligned = at.aligned;
  in_range = at.below;
  usable = rw (at.index, ← ap (λ (c : Content). c.usage) (content_at-contents drive.zones zone)) usable;
}

-- an active zone can be written and used
pub active-writable : (content : Content) → is_active_usage content.usage ≡ true → (is_writable content.usage ≡ true) × (is_usable content.usage ≡ true)
active-writable content is = at content.usage is
  where
    at : (u : _) → is_active_usage u ≡ true → (is_writable u ≡ true) × (is_usable u ≡ true)
    at Rattle.drive_port.specs.Contents.empty h = absurd (cc)
    at Rattle.drive_port.specs.Contents.active h = (refl, refl)
    at full h = absurd (cc)
    at Rattle.drive_port.specs.Contents.unusable h = absurd (cc)

-- ---- what is known after it

-- a zone stays known if it holds what it held and was not opened
pub other-known : (old new : DriveState) (zone : ℕ) (reported : ReportedZone) → IsLawful old → IsLawful new → new.geometry ≡ old.geometry → content_at (contents new.zones) zone ≡ content_at (contents old.zones) zone → (IsShut old.zones zone → IsShut new.zones zone)
    → IsKnown old zone reported → IsKnown new zone reported
other-known old new zone reported was lawful geometry same opens known = record {
  geometry = rw geometry known.geometry;
  lawful = lawful;
  in_range = omega (arith, known.in_range, was.count, lawful.count, ap (λ (g : Geometry). g.zones) geometry);
  usage = rw same known.usage;
  usable = known.usable;
  blocks = rw (geometry, same) known.blocks;
  shut = λ h. opens (known.shut h);
}

-- a vacant zone is not active
vacant-inactive : (drive : DriveState) (reported : List ReportedZone) (zone : ℕ) → AreKnown drive reported → AreVacantEmpty reported (drive_logs drive) → zone < length drive.zones → is_active_usage (content_at (contents drive.zones) zone).usage ≡ true → log_at (drive_logs drive) zone ≡ [] → ⊥
vacant-inactive drive reported zone known vacant lt active none =
    let there = in-get reported zone (record { state = states.Empty; blocks = 0 }) (omega (arith, lt, known.count)) in
    let e : there.0.state ≡ states.Empty = vacant zone there.0 there.1 none in
    let usage = (known.each zone there.0 there.1).usage in
    let bad : false ≡ true = rw (usage, e) at active in
    absurd (cc)

-- a Finish of an active zone without a torn tail keeps all logs and tails
pub finished-zone : (n : ℕ) (old new : DriveState) (before after : Survey) (zone : ℕ) → Knows old n (drive_logs old) before → is_active_usage (content_at (contents old.zones) zone).usage ≡ true → has_torn_tail (content_at (contents old.zones) zone) ≡ false
    → FinishesOne old new before after zone → FinishesZone n old new before after zone
finished-zone n old new before after zone known active whole one =
    let g = old.geometry in
    let zones = contents old.zones in
    let was = known.zones.lawful in
    let finishes : Finishes zones (contents new.zones) zone = one.contents_are in
    let geometry = one.geometry in
    let same = finish_logs g zones (contents new.zones) zone was.geometry.block (all-at (HasLog g) zones zone nothing known.all_logs finishes.in_range) (active-writable (content_at zones zone) active).0 whole finishes in
    let logs : drive_logs new ≡ drive_logs old = rw geometry same.logs in
    let count : length new.zones ≡ length old.zones = omega (arith, was.count, one.known.lawful.count, ap (λ (x : Geometry). x.zones) geometry) in
    let others : (other : ℕ) → other ≢ zone → content_at (contents new.zones) other ≡ content_at zones other = λ other ne. rw finishes.zones (get_or-set_other zones zone other (finished (content_at zones zone)) nothing ne) in
    let there : content_at (contents new.zones) zone ≡ finished (content_at zones zone) = rw finishes.zones (get_or-set_same zones zone (finished (content_at zones zone)) nothing finishes.in_range) in
    let settled : (content_at (contents new.zones) zone).usage ≡ full = ap (λ (c : Content). c.usage) there in
    record {
      known = rw logs (record {
        all_logs = rw geometry (same.all_logs known.all_logs);
        count = known.count ∙ sym count;
        part = rw logs known.part;
        sound = known.sound;
        reserve = rw geometry known.reserve;
        size_is = one.size ∙ known.size_is;
        given_is = one.given ∙ known.given_is;
        zones = one.known;
        heads = rw one.scanned known.heads;
        tails = rw (one.scanned, same.tails_are) known.tails;
      });
      logs = logs;
      tails = same.tails_are;
      vacant = λ vacant other r is none. elim (get-set before.zones.items zone other (reported_full g.capacity) r (rw one.reported at is)) as (λ _. r.state ≡ states.Empty) [
        | inl here ↦ absurd (vacant-inactive old before.zones.items zone known.zones vacant (omega (arith, finishes.in_range, length-map old.zones content_of)) active (rw (logs, here.0) at none))
        | inr there ↦ vacant other r there.1 (rw logs at none)
      ];
      settled = rw settled refl;
      own = rw active there;
      others = others;
      opens = one.opens;
    }

-- ---- a zone is settled

-- a zone that is the torn one, or is not active, is settled without a command
pub settles-same : (n : ℕ) (drive : DriveState) (survey : Survey) (torn zone : ℕ) → Knows drive n (drive_logs drive) survey → (zone ≢ torn → is_active_usage (content_at (contents drive.zones) zone).usage ≡ false) → SettlesZone n drive drive survey survey torn zone
settles-same n drive survey torn zone known settled = record { known = known; logs = refl; tails = refl; vacant = λ v. v; settled = settled; own = λ ne. rw (settled ne) refl; others = λ other ne. refl; opens = λ other h. h; count = refl }

-- a zone is settled once it was finished
pub settles-finished : (n : ℕ) (old new : DriveState) (before after : Survey) (torn zone : ℕ) → Knows old n (drive_logs old) before → FinishesZone n old new before after zone → SettlesZone n old new before after torn zone
settles-finished n old new before after torn zone known f = record {
  known = f.known;
  logs = f.logs;
  tails = f.tails;
  vacant = f.vacant;
  settled = λ ne. f.settled;
  own = λ ne. f.own;
  others = f.others;
  opens = f.opens;
  count = f.known.zones.count ∙ count-same (f.known.zones.lawful) (known.zones.lawful) ∙ sym known.zones.count;
}
  where
    count-same : IsLawful new → IsLawful old → length new.zones ≡ length old.zones
    count-same a b = omega (arith, ap length f.logs, f.known.count, known.count)

-- an active zone but the torn one has no torn tail
pub active-whole : (drive : DriveState) (reported : List ReportedZone) (torn zone : ℕ) → AreKnown drive reported → AreVacantEmpty reported (drive_logs drive) → IsOnlyTorn (drive_logs drive) (zone_tails (contents drive.zones)) torn → zone ≢ torn → zone < length drive.zones
    → is_active_usage (content_at (contents drive.zones) zone).usage ≡ true → has_torn_tail (content_at (contents drive.zones) zone) ≡ false
active-whole drive reported torn zone known vacant only ne lt active = at (has_torn_tail (content_at (contents drive.zones) zone)) refl
  where
    at : (b : Bool) → has_torn_tail (content_at (contents drive.zones) zone) ≡ b → b ≡ false
    at false e = refl
    at true e =
        let tail = tail-at (contents drive.zones) zone (omega (arith, lt, length-map drive.zones content_of)) ∙ e in
        absurd (ne (only.only zone (record { batch = λ none. vacant-inactive drive reported zone known vacant lt active none; tail = tail })))

-- ---- all zones are settled

-- The zones below one are.
pub record Settles (n torn : ℕ) (start now : DriveState) (before after : Survey) (limit : ℕ) : Type 0 where
  pub known : Knows now n (drive_logs now) after
  pub logs : drive_logs now ≡ drive_logs start
  pub tails : zone_tails (contents now.zones) ≡ zone_tails (contents start.zones)
  pub vacant : AreVacantEmpty after.zones.items (drive_logs now)
  pub settled : AreSettled now torn limit
  pub done : (zone : ℕ) → zone < limit → zone ≢ torn → content_at (contents now.zones) zone ≡ finished_if_active (content_at (contents start.zones) zone)
  pub rest : (zone : ℕ) → limit ≤ zone → content_at (contents now.zones) zone ≡ content_at (contents start.zones) zone
  pub opens : OpensNoZone start now
  pub only : IsOnlyTorn (drive_logs now) (zone_tails (contents now.zones)) torn
  pub kept : KeepsMountable n start now
  pub count : length after.zones.items ≡ length before.zones.items

-- a surveyed drive with one torn zone is settled below zone 0, before any command
pub settles-none : (n torn : ℕ) (start : DriveState) (before : Survey) → Knows start n (drive_logs start) before → AreVacantEmpty before.zones.items (drive_logs start) → IsOnlyTorn (drive_logs start) (zone_tails (contents start.zones)) torn → Settles n torn start start before before 0
settles-none n torn start before known vacant only = record { known = known; logs = refl; tails = refl; vacant = vacant; settled = λ zone lt ne. absurd (omega arith); done = λ zone lt ne. absurd (omega arith); rest = λ zone le. refl; opens = λ zone h. h; only = only; kept = mountable-same n start start (record { geometry = refl; contents = refl }) known.zones.lawful refl refl; count = refl }

-- once the next zone is settled, too, one zone more is done
pub settles-more : (n torn : ℕ) (start now next : DriveState) (before middle after : Survey) (limit : ℕ) → Settles n torn start now before middle limit → SettlesZone n now next middle after torn limit → KeepsMountable n now next → Settles n torn start next before after (limit + 1)
settles-more n torn start now next before middle after limit s z kept = record {
  known = z.known;
  logs = z.logs ∙ s.logs;
  tails = z.tails ∙ s.tails;
  vacant = z.vacant s.vacant;
  settled = λ zone lt ne. elim (cases_eq zone limit) as (λ _. is_active_usage (content_at (contents next.zones) zone).usage ≡ false) [
    | inl same ↦ rw same (z.settled (λ e. ne (same ∙ e)))
    | inr other ↦ rw (z.others zone other) (s.settled zone (omega (arith, lt, other)) ne)
  ];
  done = λ zone lt ne. elim (cases_eq zone limit) as (λ _. content_at (contents next.zones) zone ≡ finished_if_active (content_at (contents start.zones) zone)) [
    | inl same ↦ rw same (z.own (λ e. ne (same ∙ e)) ∙ ap finished_if_active (s.rest limit (omega arith)))
    | inr other ↦ z.others zone other ∙ s.done zone (omega (arith, lt, other)) ne
  ];
  rest = λ zone le. z.others zone (λ e. absurd (omega (arith, le, e))) ∙ s.rest zone (omega (arith, le));
  opens = λ zone h. z.opens zone (s.opens zone h);
  only = rw (z.logs, z.tails) s.only;
  kept = mountable-both n start now next s.kept kept;
  count = z.count ∙ s.count;
}

-- ---- a Close

active-state : (state : ZoneState) → is_active_usage (usage_of state) ≡ true → is_active state ≡ true
active-state states.Empty h = absurd (cc)
active-state states.ImplicitlyOpened h = refl
active-state states.ExplicitlyOpened h = refl
active-state states.Closed h = refl
active-state states.ReadOnly h = absurd (cc)
active-state states.Full h = absurd (cc)
active-state states.Offline h = absurd (cc)

open-active : (state : ZoneState) → is_open state ≡ true → is_active_usage (usage_of state) ≡ true
open-active states.Empty h = absurd (cc)
open-active states.ImplicitlyOpened h = refl
open-active states.ExplicitlyOpened h = refl
open-active states.Closed h = refl
open-active states.ReadOnly h = absurd (cc)
open-active states.Full h = absurd (cc)
open-active states.Offline h = absurd (cc)

-- a zone that was reported open
pub record CanSendClose (drive : DriveState) (zone start : ℕ) : Type 0 where
  pub at : StartsAt drive zone start
  pub can : CanClose drive start

-- a zone that was reported open can be sent Close by the address where it starts
pub can-close : (drive : DriveState) (zone start : ℕ) (reported : ReportedZone) → IsKnown drive zone reported → is_open reported.state ≡ true → start ≡ zone * drive.geometry.size → CanSendClose drive zone start
can-close drive zone start reported known opened is =
    let at = starts-at drive zone start known.geometry known.lawful known.in_range is in
    let content = content_at-contents drive.zones zone in
    let usage : usage_of (zone_at drive.zones zone).state ≡ usage_of reported.state = sym (ap (λ (c : Content). c.usage) content) ∙ known.usage in
    record {
      at = at;
      can = record { aligned = at.aligned; in_range = at.below; active = rw at.index (active-state (zone_at drive.zones zone).state (rw usage (open-active reported.state opened))) };
    }

-- a Close that halts keeps the contents and opens no zone
pub close-halts : (old new : DriveState) (start : ℕ) (fault : PortFault) → SameContents old new → CloseLeaves {V = Unit {0}} old start (Err fault) new → Obeys {V = Unit {0}} old (Err fault) new → IsNotRefused {V = Unit {0}} (Err fault) → KeepsShut old new
close-halts old new start (port.Refused status) same leaves obeys passed = absurd passed
close-halts old new start port.Memory same leaves obeys passed = record { geometry = same.geometry; contents_are = same.contents; lawful = obeys.lawful; refused = ap (λ (d : DriveState). d.refused) leaves; durable = ap (λ (d : DriveState). d.durable) leaves; opens = close-opens {V = Unit {0}} old new start (Err port.Memory) leaves; trusted = obeys.trusted; unfailing = obeys.unfailing }
close-halts old new start port.Failed same leaves obeys passed = record { geometry = same.geometry; contents_are = same.contents; lawful = obeys.lawful; refused = (obeys.fails refl).1.refused; durable = obeys.durable; opens = close-opens {V = Unit {0}} old new start (Err port.Failed) leaves; trusted = obeys.trusted; unfailing = obeys.unfailing }
close-halts old new start port.Stopped same leaves obeys passed = record { geometry = same.geometry; contents_are = same.contents; lawful = obeys.lawful; refused = (obeys.counts refl).refused; durable = obeys.durable; opens = close-opens {V = Unit {0}} old new start (Err port.Stopped) leaves; trusted = obeys.trusted; unfailing = obeys.unfailing }

-- a Close that succeeds keeps the contents and opens no zone
pub close-done : (old new : DriveState) (start : ℕ) → SameContents old new → CloseLeaves {V = Unit {0}} old start (Ok tt) new → Obeys {V = Unit {0}} old (Ok tt) new → ClosedZone old new start → KeepsShut old new
close-done old new start same leaves obeys done = record { geometry = same.geometry; contents_are = same.contents; lawful = obeys.lawful; refused = done.counts.refused; durable = obeys.durable; opens = close-opens {V = Unit {0}} old new start (Ok tt) leaves; trusted = obeys.trusted; unfailing = obeys.unfailing }

-- after a Close that succeeds its zone is not open
pub close-shuts : (old new : DriveState) (zone start : ℕ) → StartsAt old zone start → zone < length old.zones → CloseLeaves {V = Unit {0}} old start (Ok tt) new → IsShut new.zones zone
close-shuts old new zone start at lt leaves =
    let index = start / old.geometry.size in
    let made : Zone = record { state = states.Closed; blocks = (zone_at old.zones index).blocks } in
    let there : IsShut (set old.zones index made) index = rw (get_or-set_same old.zones index made nowhere (omega (arith, at.index, lt))) refl in
    subst (IsShut new.zones) at.index (closing-opens (set old.zones index made) new.zones leaves index there)

-- ---- a zone's report

-- a zone state is active just where its usage is
pub active-usage : (state : ZoneState) → is_active state ≡ is_active_usage (usage_of state)
active-usage states.Empty = refl
active-usage states.ImplicitlyOpened = refl
active-usage states.ExplicitlyOpened = refl
active-usage states.Closed = refl
active-usage states.Full = refl
active-usage states.ReadOnly = refl
active-usage states.Offline = refl

-- a zone is active just where it was reported so
pub reported-active : (drive : DriveState) (reported : List ReportedZone) (zone : ℕ) (r : ReportedZone) → AreKnown drive reported → slice_get reported zone ≡ Some r → is_active_usage (content_at (contents drive.zones) zone).usage ≡ is_active_usage (usage_of r.state)
reported-active drive reported zone r known is = ap is_active_usage (known.each zone r is).usage

-- ---- answers

-- if success gives two facts, it gives what follows from both
pub on-two : {P Q R : Type 0} {V : Type 0} (result : Result V MountFault) → (P → Q → R) → OnOk result P → OnOk result Q → OnOk result R
on-two (Ok value) step p q = step p q
on-two (Err fault) step p q = tt

-- what follows from success, and from failure
pub on-either : {P Q R : Type 0} {V : Type 0} (result : Result V MountFault) → (P → R) → (Q → R) → OnOk result P → IfErr result (λ _. Q) → R
on-either (Ok value) done failed p q = done p
on-either (Err fault) done failed p q = failed q

-- if success gives a fact, it gives what follows from the fact
pub on-ok : {P Q : Type 0} {V : Type 0} (result : Result V MountFault) → (P → Q) → OnOk result P → OnOk result Q
on-ok (Ok value) step p = step p
on-ok (Err fault) step p = tt

-- what follows from each value of a result
pub if-each : {V : Type 0} {P Q : V → Type 0} (result : Result V MountFault) → ((v : V) → P v → Q v) → IfOk result P → IfOk result Q
if-each {V} {P} {Q} (Ok v) f p = f v p
if-each {V} {P} {Q} (Err fault) f p = tt
