-- A drive on repair can be mounted, from the beginning of the repair on.
use Rattle.std.proofs.Common.{◌≡◌, ◌≢◌, ◌⊎◌, inl, inr, ℕ, zero, suc, ◌<◌, ◌≤◌, ◌^◌, Bool, true, false, cond, List, [], ◌∷◌, length, set, get_or, refl, sym, ap, ◌∙◌, arith}
use Rattle.std.specs.List.{count_by}
use Rattle.std.proofs.lemmas.Bool.{cases_eq}
use Rattle.std.proofs.lemmas.List.{get_or-set_other, get_or-set_same, length-map, length-set, map-set, set-get_or}
use Rattle.std.proofs.lemmas.List.Sums.{sum_by-cons, sum_by-set}
use Rattle.zone_states.specs.declared.geometry.Geometry.{Geometry}
use Rattle.drive_port.specs.Contents.{Content, content_at, emptied, is_usable, nothing}
use Rattle.batch_log.specs.Log.{Batch}
use Rattle.drive_array.specs.Mountable.{is_partly_written}
use Rattle.drive_array.specs.Repairing.{IsOnRepair, IsRepairing, RepairBegins, RepairMounts}
use Rattle.drive_array.specs.Sizes.{array_of}
use Rattle.drive_array.specs.Spare.{HasSpare, IsVacant}
use Rattle.drive_array.specs.ZoneLogs.{HasLog, has_torn_tail, log_at, encoded_array, zone_log, zone_logs, zone_tails}
use Rattle.drive_array.proofs.AllLaws.{all-set}
use Rattle.drive_array.proofs.CountLaws.{at_most, count-zero}
use Rattle.drive_array.proofs.MountLaws.{emptied-log}
use Rattle.drive_array.proofs.RepairingClearing.{moves-half, repair_keeps}
use Rattle.drive_array.proofs.RepairingRecords.{put-none}
use Rattle.drive_array.proofs.SizeLaws.{same-size}
use Rattle.drive_array.proofs.ZoneLogLaws.{log_at-zone, tails-set}

-- ---- the logs of a drive on repair

-- one zone changes, and so does its log
logs-put : (geometry : Geometry) (zones : List Content) (zone : ℕ) (made : Content) → zone_logs geometry (set zones zone made) ≡ set (zone_logs geometry zones) zone (zone_log geometry made)
logs-put geometry zones zone made = map-set (zone_log geometry) zones zone made

-- the zone that takes the Moves is one of the drive
pub into-below : (geometry : Geometry) (n torn into : ℕ) (base now : List Content) → IsOnRepair geometry n base now torn into → into < length base
into-below geometry n torn into base now is = omega (arith, is.repairing.in_range, length-map base (zone_log geometry))

-- the zone of the Moves holds what was made
pub made-there : (geometry : Geometry) (n torn into : ℕ) (base now : List Content) → (is : IsOnRepair geometry n base now torn into) → content_at now into ≡ is.made
made-there geometry n torn into base now is = rw is.zones (get_or-set_same base into is.made nothing (into-below geometry n torn into base now is))

-- its log has the Moves that were made
pub logs-now : (geometry : Geometry) (n torn into : ℕ) (base now : List Content) → (is : IsOnRepair geometry n base now torn into) → zone_logs geometry now ≡ set (zone_logs geometry base) into (zone_log geometry is.made)
logs-now geometry n torn into base now is = ap (zone_logs geometry) is.zones ∙ logs-put geometry base into is.made

-- ---- before the first Move

-- an empty zone has no batch
pub emptied-nothing : (geometry : Geometry) → zone_log geometry emptied ≡ []
unfolding zone_log
emptied-nothing geometry = refl

-- a repair begins with no Move
pub repair_begins : RepairBegins
repair_begins geometry n torn into zones small mountable none_left alone only some lt is = record {
  mountable = mountable;
  alone = alone;
  only = only;
  made = emptied;
  zones = sym (ap (set zones into) (sym is) ∙ set-get_or zones into nothing);
  usable = refl;
  has = emptied-log geometry;
  repairing = rw (emptied-nothing geometry) (record {
    none_left = λ zone below half. none_left zone (omega (arith, below, length-map zones (zone_log geometry))) half;
    in_range = omega (arith, lt, length-map zones (zone_log geometry));
    vacant = vacant;
    apart = λ e. some (ap (log_at (zone_logs geometry zones)) (sym e) ∙ vacant);
    has_batch = some;
    are_moves = tt;
    later = tt;
    within = refl;
    moved = λ block. inl refl;
    array_is = ap (array_of geometry.block n) (put-none (zone_logs geometry zones) into vacant);
    sound = rw (put-none (zone_logs geometry zones) into vacant) mountable.disk.sound;
  });
}
  where
    vacant : IsVacant (zone_logs geometry zones) into
    vacant = log_at-zone geometry zones into ∙ ap (zone_log geometry) is ∙ emptied-nothing geometry

-- ---- it can be mounted

-- where all elements but one are not counted
count-one : {X : Type 0} (p : X → Bool) (xs : List X) (i : ℕ) (d : X) → ((k : ℕ) → k ≢ i → p (get_or xs k d) ≡ false) → count_by p xs ≤ 1
count-one p [] i d others = omega arith
count-one {X} p (x ∷ xs) zero d others =
    omega (arith, sum_by-cons (λ (y : X). cond {A = ℕ} (p y) 1 0) x xs, at_most (p x), count-zero p xs d (λ k lt. others (suc k) (λ e. absurd (omega arith))))
count-one {X} p (x ∷ xs) (suc i) d others =
    let here : p x ≡ false = others 0 (λ e. absurd (omega arith)) in
    rw here (count-one p xs i d (λ k ne. others (suc k) (λ e. ne (omega arith))))

few-now : (base : List Content) (torn into : ℕ) (made : Content) → into < length base → ((zone : ℕ) → zone ≢ torn → is_partly_written (content_at base zone) ≡ false) → count_by is_partly_written (set base into made) ≤ 2
few-now base torn into made lt alone =
    omega (arith, count-one is_partly_written base torn nothing alone, sum_by-set (λ (c : Content). cond {A = ℕ} (is_partly_written c) 1 0) base into made nothing lt, at_most (is_partly_written made))

spare-there : (block_bytes n torn into : ℕ) (logs : List (List Batch)) (moves : List Batch) → IsRepairing block_bytes n logs torn into moves → HasSpare block_bytes n (set logs into moves)
spare-there block_bytes n torn into logs [] is = record { zone = into; in_range = omega (arith, is.in_range, length-set logs into []); spare = inl (get_or-set_same logs into [] [] is.in_range) }
spare-there block_bytes n torn into logs (b ∷ bs) is = record {
  zone = into;
  in_range = omega (arith, is.in_range, length-set logs into (b ∷ bs));
  spare = inr (moves-half block_bytes n torn into logs (b ∷ bs) is (λ e. absurd (cc)));
}

set-other : (tails : List Bool) (into : ℕ) (b : Bool) (zone : ℕ) → get_or (set tails into b) zone false ≡ true → (get_or tails zone false ≡ true) ⊎ (zone ≡ into)
set-other tails into b zone e = elim (cases_eq zone into) as (λ _. (get_or tails zone false ≡ true) ⊎ (zone ≡ into)) [
  | inl same ↦ inr same
  | inr apart ↦ inl (sym (get_or-set_other tails into zone b false apart) ∙ e)
]

set-here : (tails : List Bool) (into : ℕ) (b : Bool) → get_or (set tails into b) into false ≡ true → b ≡ true
set-here [] into b e = absurd (cc)
set-here (t ∷ ts) zero b e = e
set-here (t ∷ ts) (suc into) b e = set-here ts into b e

-- a drive on its repair can be mounted
pub repair_mounts : RepairMounts
unfolding encoded_array
repair_mounts geometry n torn into base now small is whole =
    let logs = zone_logs geometry base in
    let moves = zone_log geometry is.made in
    let disk = is.mountable.disk in
    let repairing = is.repairing in
    let now_logs : zone_logs geometry now ≡ set logs into moves = logs-now geometry n torn into base now is in
    let tails : zone_tails now ≡ set (zone_tails base) into (has_torn_tail is.made) = tails-set base now into is.made is.zones in
    let size = same-size geometry.block n (set logs into moves) logs repairing.array_is in
    let made = made-there geometry n torn into base now is in
    record {
      mountable = record {
        disk = record {
          usable = rw is.zones (all-set (λ (c : Content). is_usable c.usage ≡ true) base into is.made disk.usable is.usable);
          few_partial = rw is.zones (few-now base torn into is.made (into-below geometry n torn into base now is) is.alone);
          logs = rw is.zones (all-set (HasLog geometry) base into is.made disk.logs is.has);
          sound = rw now_logs repairing.sound;
          reserve = rw (now_logs, size) disk.reserve;
          spare = rw now_logs (spare-there geometry.block n torn into logs moves repairing);
        };
        repair = rw (now_logs, tails, size) (λ resets clearing.
            repair_keeps geometry (2 ^ 63) n torn into logs moves (zone_tails base) (set (zone_tails base) into (has_torn_tail is.made)) resets repairing (is.mountable.repair [] repairing.none_left)
            (set-other (zone_tails base) into (has_torn_tail is.made)) is.only
            (λ tail. rw now_logs at (whole (rw made (set-here (zone_tails base) into (has_torn_tail is.made) tail)))) clearing);
      };
      array = ap (array_of geometry.block n) now_logs ∙ repairing.array_is;
    }
