-- What a closing and a restart leave of the zones.
use Rattle.std.proofs.Common.{◌≡◌, ℕ, zero, suc, ◌≤◌, Bool, false, cond, List, [], ◌∷◌, map, length, refl, sym, ap, ◌∙◌, inl, inr, arith}
use Rattle.std.specs.Prelude.{slice_set}
use Rattle.std.specs.List.{AllByRecursion, remove}
use Rattle.std.proofs.Math.ListN.{get_or-map}
use Rattle.std.proofs.lemmas.List.{length-map}
use Rattle.std.proofs.lemmas.List.Sums.{sum_by-cons}
use Rattle.nvme_wire.specs.declared.zone_state.ZoneState.{ZoneState}
use Rattle.nvme_wire.specs.declared.zone_state.ZoneState.TheVariants.{Empty, ImplicitlyOpened, ExplicitlyOpened, Closed, ReadOnly, Full, Offline}
use Rattle.zone_states.specs.Transition.{is_active, is_open}
use Rattle.zone_states.specs.declared.geometry.Geometry.{Geometry}
use Rattle.zone_states.specs.Zone.{IsLawfulZone, MayHold, Zone}
use Rattle.drive_port.specs.Drive.{ClosesOne, DriveState, IsClosing, IsLawful, active_count, open_count}
use Rattle.drive_port.specs.Run.{restarted, restarted_state, restarted_zone}
use Rattle.drive_port.specs.Contents.{content_of, contents, content_at, usage_of}
use Rattle.drive_port.specs.Step.{zone_at, nowhere}

-- ---- closings

-- zones that stay as they are close none
pub IsClosing-refl : (zones : List Zone) → IsClosing zones zones
IsClosing-refl [] = tt
IsClosing-refl (z ∷ zs) = (record { blocks = refl; state = inl refl }, IsClosing-refl zs)

ClosesOne-trans : (a b c : Zone) → ClosesOne a b → ClosesOne b c → ClosesOne a c
ClosesOne-trans a b c p q = record {
  blocks = q.blocks ∙ p.blocks;
  state = elim q.state [
    | inl same ↦ elim p.state [
      | inl before ↦ inl (same ∙ before)
      | inr closed ↦ inr (closed.0, same ∙ closed.1)
    ]
    | inr closed ↦ elim p.state [
      | inl before ↦ inr (sym before ∙ closed.0, closed.1)
      | inr twice ↦ inr (twice.0, closed.1)
    ]
  ];
}

-- a closing of a closing is one
pub IsClosing-trans : (a b c : List Zone) → IsClosing a b → IsClosing b c → IsClosing a c
IsClosing-trans [] [] [] p q = tt
IsClosing-trans (x ∷ xs) (y ∷ ys) (z ∷ zs) p q = (ClosesOne-trans x y z p.0 q.0, IsClosing-trans xs ys zs p.1 q.1)
IsClosing-trans [] (y ∷ ys) c p q = absurd p
IsClosing-trans (x ∷ xs) [] c p q = absurd p
IsClosing-trans [] [] (z ∷ zs) p q = absurd q
IsClosing-trans (x ∷ xs) (y ∷ ys) [] p q = absurd q

-- a closing of the other zones, without one
pub IsClosing-remove : (a b : List Zone) (i : ℕ) → IsClosing a b → IsClosing (remove a i) (remove b i)
IsClosing-remove [] [] zero h = tt
IsClosing-remove [] [] (suc i) h = tt
IsClosing-remove (x ∷ xs) (y ∷ ys) zero h = h.1
IsClosing-remove (x ∷ xs) (y ∷ ys) (suc i) h = (h.0, IsClosing-remove xs ys i h.1)
IsClosing-remove [] (y ∷ ys) i h = absurd h
IsClosing-remove (x ∷ xs) [] i h = absurd h

-- one zone is set on both sides
pub IsClosing-set : (a b : List Zone) (i : ℕ) (z y : Zone) → IsClosing a b → ClosesOne z y → IsClosing (slice_set a i z) (slice_set b i y)
IsClosing-set [] [] i z y h one = tt
IsClosing-set (u ∷ us) (v ∷ vs) zero z y h one = (one, h.1)
IsClosing-set (u ∷ us) (v ∷ vs) (suc i) z y h one = (h.0, IsClosing-set us vs i z y h.1 one)
IsClosing-set [] (v ∷ vs) i z y h one = absurd h
IsClosing-set (u ∷ us) [] i z y h one = absurd h

-- a zone that is set after a closing may as well be set before it
pub IsClosing-set_after : (old middle new : List Zone) (i : ℕ) (zone : Zone) → IsClosing old middle → IsClosing (slice_set middle i zone) new → IsClosing (slice_set old i zone) new
IsClosing-set_after old middle new i zone before after =
    IsClosing-trans (slice_set old i zone) (slice_set middle i zone) new (IsClosing-set old middle i zone zone before (record { blocks = refl; state = inl refl })) after

-- ---- contents

-- a zone that is closed has the same content
pub content_of-closes : (z y : Zone) → ClosesOne z y → content_of y ≡ content_of z
content_of-closes z y one =
    elim one.state [
      | inl same ↦ rw (same, one.blocks) refl
      | inr closed ↦ rw (closed.0, closed.1, one.blocks) refl
    ]

-- so a closing keeps the contents
pub contents-closing : (a b : List Zone) → IsClosing a b → contents b ≡ contents a
contents-closing [] [] h = refl
contents-closing (z ∷ zs) (y ∷ ys) h = rw (content_of-closes z y h.0, contents-closing zs ys h.1) refl
contents-closing [] (y ∷ ys) h = absurd h
contents-closing (z ∷ zs) [] h = absurd h

usage-restarted : (state : ZoneState) → usage_of (restarted_state state) ≡ usage_of state
usage-restarted Empty = refl
usage-restarted ImplicitlyOpened = refl
usage-restarted ExplicitlyOpened = refl
usage-restarted Closed = refl
usage-restarted ReadOnly = refl
usage-restarted Full = refl
usage-restarted Offline = refl

-- and so does a restart
pub contents-restarted : (zones : List Zone) → contents (map restarted_zone zones) ≡ contents zones
contents-restarted [] = refl
contents-restarted (z ∷ zs) = rw (usage-restarted z.state, contents-restarted zs) refl

-- ---- resources

-- a zone that is closed is as active as before
pub active-closes : (z y : Zone) → ClosesOne z y → is_active y.state ≡ is_active z.state
active-closes z y one =
    elim one.state [
      | inl same ↦ rw same refl
      | inr closed ↦ rw (closed.0, closed.1) refl
    ]

-- so as many zones are active
pub active_count-closing : (a b : List Zone) → IsClosing a b → active_count b ≡ active_count a
active_count-closing [] [] h = refl
active_count-closing (z ∷ zs) (y ∷ ys) h =
    let one = ap {B = ℕ} (λ (b : Bool). cond b 1 0) (active-closes z y h.0) in
    let rest = active_count-closing zs ys h.1 in
    let was = sum_by-cons (λ (zone : Zone). cond (is_active zone.state) 1 0) z zs in
    let is = sum_by-cons (λ (zone : Zone). cond (is_active zone.state) 1 0) y ys in
    omega (arith, one, rest, was, is)
active_count-closing [] (y ∷ ys) h = absurd h
active_count-closing (z ∷ zs) [] h = absurd h

open-closes : (z y : Zone) → ClosesOne z y → cond (is_open y.state) 1 0 ≤ cond (is_open z.state) 1 0
open-closes z y one =
    elim one.state [
      | inl same ↦ rw same (omega arith)
      | inr closed ↦ rw (closed.0, closed.1) (omega arith)
    ]

-- and no more are open
pub open_count-closing : (a b : List Zone) → IsClosing a b → open_count b ≤ open_count a
open_count-closing [] [] h = omega arith
open_count-closing (z ∷ zs) (y ∷ ys) h =
    let one = open-closes z y h.0 in
    let rest = open_count-closing zs ys h.1 in
    let was = sum_by-cons (λ (zone : Zone). cond (is_open zone.state) 1 0) z zs in
    let is = sum_by-cons (λ (zone : Zone). cond (is_open zone.state) 1 0) y ys in
    omega (arith, one, rest, was, is)
open_count-closing [] (y ∷ ys) h = absurd h
open_count-closing (z ∷ zs) [] h = absurd h

-- ---- a restart keeps a drive lawful

pub may_hold-restarted : (state : ZoneState) (capacity written : ℕ) → MayHold state capacity written → MayHold (restarted_state state) capacity written
may_hold-restarted Empty capacity written h = h
may_hold-restarted ImplicitlyOpened capacity written h = h
may_hold-restarted ExplicitlyOpened capacity written h = h
may_hold-restarted Closed capacity written h = h
may_hold-restarted ReadOnly capacity written h = h
may_hold-restarted Full capacity written h = h
may_hold-restarted Offline capacity written h = h

pub active-restarted : (state : ZoneState) → is_active (restarted_state state) ≡ is_active state
active-restarted Empty = refl
active-restarted ImplicitlyOpened = refl
active-restarted ExplicitlyOpened = refl
active-restarted Closed = refl
active-restarted ReadOnly = refl
active-restarted Full = refl
active-restarted Offline = refl

pub open-restarted : (state : ZoneState) → is_open (restarted_state state) ≡ false
open-restarted Empty = refl
open-restarted ImplicitlyOpened = refl
open-restarted ExplicitlyOpened = refl
open-restarted Closed = refl
open-restarted ReadOnly = refl
open-restarted Full = refl
open-restarted Offline = refl

-- a second restart changes nothing
pub restarted-twice : (state : ZoneState) → restarted_state (restarted_state state) ≡ restarted_state state
restarted-twice Empty = refl
restarted-twice ImplicitlyOpened = refl
restarted-twice ExplicitlyOpened = refl
restarted-twice Closed = refl
restarted-twice ReadOnly = refl
restarted-twice Full = refl
restarted-twice Offline = refl

zones-restarted : (geometry : Geometry) (zones : List Zone) → AllByRecursion (IsLawfulZone geometry) zones → AllByRecursion (IsLawfulZone geometry) (map restarted_zone zones)
zones-restarted geometry [] all = tt
zones-restarted geometry (z ∷ zs) all = (record { written = may_hold-restarted z.state geometry.capacity (length z.blocks) all.0.written; whole = all.0.whole }, zones-restarted geometry zs all.1)

active_count-restarted : (zones : List Zone) → active_count (map restarted_zone zones) ≡ active_count zones
active_count-restarted [] = refl
active_count-restarted (z ∷ zs) =
    let one = ap {B = ℕ} (λ (b : Bool). cond b 1 0) (active-restarted z.state) in
    omega (arith, one, active_count-restarted zs, sum_by-cons (λ (zone : Zone). cond (is_active zone.state) 1 0) z zs, sum_by-cons (λ (zone : Zone). cond (is_active zone.state) 1 0) (restarted_zone z) (map restarted_zone zs))

open_count-restarted : (zones : List Zone) → open_count (map restarted_zone zones) ≡ 0
open_count-restarted [] = refl
open_count-restarted (z ∷ zs) =
    let one = ap {B = ℕ} (λ (b : Bool). cond b 1 0) (open-restarted z.state) in
    omega (arith, one, open_count-restarted zs, sum_by-cons (λ (zone : Zone). cond (is_open zone.state) 1 0) (restarted_zone z) (map restarted_zone zs))

-- a restart leaves a lawful drive
pub lawful-restarted : (drive : DriveState) → IsLawful drive → IsLawful (restarted drive)
lawful-restarted drive lawful = record {
  geometry = lawful.geometry;
  count = length-map drive.zones restarted_zone ∙ lawful.count;
  zones = zones-restarted drive.geometry drive.zones lawful.zones;
  active = omega (arith, active_count-restarted drive.zones, lawful.active);
  open_zones = omega (arith, open_count-restarted drive.zones);
  completed = omega arith;
  stopped = λ e. absurd (omega arith);
}

-- ---- one zone

-- each zone of a closing is the same, or closed
pub zone_at-closing : (a b : List Zone) (i : ℕ) → IsClosing a b → ClosesOne (zone_at a i) (zone_at b i)
zone_at-closing [] [] i h = record { blocks = refl; state = inl refl }
zone_at-closing (x ∷ xs) (y ∷ ys) zero h = h.0
zone_at-closing (x ∷ xs) (y ∷ ys) (suc i) h = zone_at-closing xs ys i h.1
zone_at-closing [] (y ∷ ys) i h = absurd h
zone_at-closing (x ∷ xs) [] i h = absurd h

-- the content of a zone is that of the zone at its index
pub content_at-contents : (zones : List Zone) (i : ℕ) → content_at (contents zones) i ≡ content_of (zone_at zones i)
content_at-contents zones i = get_or-map content_of zones i nowhere

-- the content of a zone after a closing
pub content_at-closing : (a b : List Zone) (i : ℕ) → IsClosing a b → content_at (contents a) i ≡ content_of (zone_at b i)
content_at-closing a b i h = content_at-contents a i ∙ sym (content_of-closes (zone_at a i) (zone_at b i) (zone_at-closing a b i h))

-- a closing has as many zones
pub length-closing : (a b : List Zone) → IsClosing a b → length b ≡ length a
length-closing [] [] h = refl
length-closing (x ∷ xs) (y ∷ ys) h = let rest = length-closing xs ys h.1 in omega (arith, rest)
length-closing [] (y ∷ ys) h = absurd h
length-closing (x ∷ xs) [] h = absurd h
