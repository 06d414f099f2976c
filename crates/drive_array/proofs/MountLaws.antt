-- Which drives can be mounted: if no Append was torn, where one was, and after the Resets of a mount.
use Rattle.std.proofs.Common.{◌≡◌, ◌≢◌, ℕ, zero, suc, ◌+◌, ◌-◌, ◌≤◌, ◌<◌, ◌^◌, Bool, true, false, cond, List, [], ◌∷◌, length, set, get_or, refl, sym, ap, ◌∙◌, inl, inr, arith}
use Rattle.std.specs.List.{count_by}
use Rattle.std.proofs.lemmas.List.{get_or-set_same, length-map, length-set, map-set, set-get_or}
use Rattle.std.proofs.lemmas.List.Sums.{sum_by-set}
use Rattle.zone_states.specs.declared.geometry.Geometry.{Geometry}
use Rattle.drive_port.specs.Contents.{Content, Resets, content_at, emptied, finished, is_usable, nothing}
use Rattle.drive_port.proofs.ClosingLaws.{contents-restarted, lawful-restarted}
use Rattle.batch_log.specs.Log.{Batch, log_size}
use Rattle.drive_array.specs.Laws.{Emptied, FinishMounts, LowestResets, RestartMounts, SpareResets, TornMounts, VacantResets}
use Rattle.drive_array.specs.Mountable.{AreMountable, HoldDisk, is_partly_written}
use Rattle.drive_array.specs.Records.{without}
use Rattle.drive_array.specs.Repair.{CanRepair, Fits, IsTornAt, live_records, live_data, moves}
use Rattle.drive_array.specs.Reserve.{batch_most}
use Rattle.drive_array.specs.Sizes.{encoded_size}
use Rattle.drive_array.specs.Spare.{IsClearing, IsPart, cleared}
use Rattle.drive_array.specs.ZoneLogs.{HasLog, has_torn_tail, log_at, sequences, zone_log, zone_logs, zone_tails}
use Rattle.drive_array.proofs.AllLaws.{all-at, all-set, all-weaker}
use Rattle.drive_array.proofs.ClearingLaws.{clearing-part, clearing_keeps}
use Rattle.drive_array.proofs.FitLaws.{few_fit}
use Rattle.drive_array.proofs.SizeLaws.{empty_spare}
use Rattle.drive_array.proofs.ZoneLogLaws.{finish_logs}

-- ---- repairs

-- no zone has a torn tail
abbrev pub NoTails : List Content → Type 0
NoTails zones = (zone : ℕ) → get_or (zone_tails zones) zone false ≡ false

-- without torn tails nothing has to be repaired
none-repair : (geometry : Geometry) (limit size : ℕ) (logs : List (List Batch)) (zones : List Content) → NoTails zones → CanRepair geometry limit size logs (zone_tails zones)
none-repair geometry limit size logs zones none = record {
  one = λ a b is is'. absurd (let no_tail = none a in let tail = is.tail in cc);
  fits = λ a is. absurd (let no_tail = none a in let tail = is.tail in cc);
}

-- with fewer tails there is no more to repair
fewer-repair : (geometry : Geometry) (limit size : ℕ) (logs : List (List Batch)) (tails fewer : List Bool) → ((zone : ℕ) → get_or fewer zone false ≡ true → get_or tails zone false ≡ true)
    → CanRepair geometry limit size logs tails → CanRepair geometry limit size logs fewer
fewer-repair geometry limit size logs tails fewer h can = record {
  one = λ a b is is'. can.one a b (torn a is) (torn b is');
  fits = λ a is. can.fits a (torn a is);
}
  where
    torn : (zone : ℕ) → IsTornAt logs fewer zone → IsTornAt logs tails zone
    torn zone is = record { batch = is.batch; tail = h zone is.tail }

-- if no Append was torn
pub untorn_mounts : (geometry : Geometry) (zones : List Content) (n : ℕ) → NoTails zones → HoldDisk geometry zones n → AreMountable geometry zones n
untorn_mounts geometry zones n none disk = record {
  disk = disk;
  repair = λ resets is. none-repair geometry (2 ^ 63) (encoded_size n (zone_logs geometry zones)) (cleared (zone_logs geometry zones) resets) zones none;
}

-- a zone that is torn on the cleared drive is torn
torn-before : (logs part : List (List Batch)) (tails : List Bool) (zone : ℕ) → IsPart logs part → IsTornAt part tails zone → IsTornAt logs tails zone
torn-before logs part tails zone is torn = record {
  batch = elim (is zone) as (λ _. log_at logs zone ≢ []) [
    | inl same ↦ (λ none. torn.batch (same ∙ none))
    | inr gone ↦ absurd (torn.batch gone)
  ];
  tail = torn.tail;
}

-- a torn Append leaves a drive that can be mounted
pub torn_mounts : TornMounts
torn_mounts geometry zones n zone some high sound few small only disk = record {
  disk = disk;
  repair = λ resets is. record {
    one = λ a b torn torn'. only a (before resets a torn) ∙ sym (only b (before resets b torn'));
    fits = λ a torn. rw (only a (before resets a torn)) (fits resets is (rw (only a (before resets a torn)) at torn));
  };
}
  where
    logs : List (List Batch)
    logs = zone_logs geometry zones

    before : (resets : List ℕ) (a : ℕ) → IsTornAt (cleared logs resets) (zone_tails zones) a → IsTornAt logs (zone_tails zones) a
    before resets a torn = torn-before logs (cleared logs resets) (zone_tails zones) a (clearing-part logs resets) torn

    fits : (resets : List ℕ) → IsClearing geometry.block n logs resets → IsTornAt (cleared logs resets) (zone_tails zones) zone → Fits geometry (2 ^ 63) (encoded_size n logs) (cleared logs resets) zone
    fits resets is torn =
        let left = cleared logs resets in
        let most = batch_most geometry in
        let size = encoded_size n logs in
        let clears = clearing_keeps geometry.block (2 ^ 63 - geometry.capacity) n logs resets sound is in
        let same : log_at left zone ≡ log_at logs zone = elim (clears.part zone) as (λ _. log_at left zone ≡ log_at logs zone) [ inl e ↦ e | inr gone ↦ absurd (torn.batch gone) ] in
        let room : moves most (live_records size left zone) + live_data size left zone ≤ geometry.capacity =
        omega (arith, few_fit most size zone left some torn.batch (rw same few), ap log_size same, small) in
        record {
          room = room;
          numbers = all-weaker (λ s. s < 2 ^ 63 - geometry.capacity) (λ s. s + moves most (live_records size left zone) < 2 ^ 63) (sequences left) (λ s lt. omega (arith, room, lt, high)) clears.sound.numbers;
        }

-- ---- Resets

-- a zone that is emptied has no batch
logs-set : (geometry : Geometry) (zones : List Content) (zone : ℕ) → zone_logs geometry (set zones zone emptied) ≡ without (zone_logs geometry zones) zone
unfolding zone_log
logs-set geometry zones zone = map-set (zone_log geometry) zones zone emptied

-- an empty zone has a log of no batch
pub emptied-log : (geometry : Geometry) → HasLog geometry emptied
unfolding zone_log
emptied-log geometry = record { tail = []; front = record { encoded = refl; batches = tt }; end = inl refl }

fewer-partial : (zones : List Content) (zone : ℕ) → zone < length zones → count_by is_partly_written (set zones zone emptied) ≤ count_by is_partly_written zones
fewer-partial zones zone lt =
    omega (arith, sum_by-set (λ (c : Content). cond {A = ℕ} (is_partly_written c) 1 0) zones zone emptied nothing lt)

-- all but the tails
disk-reset : (geometry : Geometry) (old new : List Content) (n zone : ℕ) → HoldDisk geometry old n → Resets old new zone → Emptied geometry.block (2 ^ 63) n (zone_logs geometry old) zone → zone_logs geometry new ≡ without (zone_logs geometry old) zone
    → HoldDisk geometry new n
disk-reset geometry old new n zone disk resets emptied_is logs =
    let lt = resets.in_range in
    record {
      usable = rw resets.zones (all-set (λ (c : Content). is_usable c.usage ≡ true) old zone emptied disk.usable refl);
      few_partial = rw resets.zones (omega (arith, fewer-partial old zone lt, disk.few_partial));
      logs = rw resets.zones (all-set (HasLog geometry) old zone emptied disk.logs (emptied-log geometry));
      sound = rw logs emptied_is.sound;
      reserve = rw (logs, emptied_is.size_is) disk.reserve;
      spare = rw logs (record {
        zone = zone;
        in_range = omega (arith, lt, length-set (zone_logs geometry old) zone [], length-map old (zone_log geometry));
        spare = inl (get_or-set_same (zone_logs geometry old) zone [] [] (omega (arith, lt, length-map old (zone_log geometry))));
      });
    }

-- a tail that is left was there, in another zone
tails-left : (zones : List Content) (zone other : ℕ) → get_or (zone_tails (set zones zone emptied)) other false ≡ true → (get_or (zone_tails zones) other false ≡ true) × (other ≡ zone → ⊥)
unfolding has_torn_tail
tails-left [] zone other e = absurd (cc)
tails-left (z ∷ zs) zero zero e = absurd (cc)
tails-left (z ∷ zs) zero (suc other) e = (e, λ same. absurd (omega arith))
tails-left (z ∷ zs) (suc zone) zero e = (e, λ same. absurd (omega arith))
tails-left (z ∷ zs) (suc zone) (suc other) e = let rest = tails-left zs zone other e in (rest.0, λ same. rest.1 (omega arith))

-- the lowest half clean zone can be reset
pub lowest_resets : LowestResets
lowest_resets geometry old new n zone mountable lowest resets =
    let disk = mountable.disk in
    let was = zone_logs geometry old in
    let logs : zone_logs geometry new ≡ without was zone = ap (zone_logs geometry) resets.zones ∙ logs-set geometry old zone in
    let emptied_is = empty_spare geometry.block (2 ^ 63) n zone was disk.sound lowest.half_clean.spare in
    let fewer : (other : ℕ) → get_or (zone_tails new) other false ≡ true → get_or (zone_tails old) other false ≡ true = rw resets.zones (λ other e. (tails-left old zone other e).0) in
    record {
      logs = logs;
      mountable = record {
        disk = disk-reset geometry old new n zone disk resets emptied_is logs;
        repair = λ more is.
            let can = mountable.repair (zone ∷ more) (lowest, rw logs at is) in
            rw (logs, emptied_is.size_is) (fewer-repair geometry (2 ^ 63) (encoded_size n was) (cleared (without was zone) more) (zone_tails old) (zone_tails new) fewer can);
      };
    }

-- a zone without a batch can be reset
pub vacant_resets : VacantResets
vacant_resets geometry old new n zone mountable vacant resets =
    let disk = mountable.disk in
    let was = zone_logs geometry old in
    let nothing_lost : without was zone ≡ was = rw vacant at (set-get_or was zone []) in
    let logs : zone_logs geometry new ≡ without was zone = ap (zone_logs geometry) resets.zones ∙ logs-set geometry old zone in
    let same = logs ∙ nothing_lost in
    let emptied_is : Emptied geometry.block (2 ^ 63) n was zone = record { array_is = rw nothing_lost refl; size_is = rw nothing_lost refl; sound = rw nothing_lost disk.sound } in
    let fewer : (other : ℕ) → get_or (zone_tails new) other false ≡ true → get_or (zone_tails old) other false ≡ true = rw resets.zones (λ other e. (tails-left old zone other e).0) in
    record {
      logs = logs;
      mountable = record {
        disk = disk-reset geometry old new n zone disk resets emptied_is logs;
        repair = λ more is. rw same (fewer-repair geometry (2 ^ 63) (encoded_size n was) (cleared was more) (zone_tails old) (zone_tails new) fewer (mountable.repair more (rw same at is)));
      };
    }

-- a spare zone can be reset
pub spare_resets : SpareResets
spare_resets geometry old new n zone mountable spare only resets =
    let disk = mountable.disk in
    let was = zone_logs geometry old in
    let logs : zone_logs geometry new ≡ without was zone = ap (zone_logs geometry) resets.zones ∙ logs-set geometry old zone in
    let emptied_is = empty_spare geometry.block (2 ^ 63) n zone was disk.sound spare in
    record {
      logs = logs;
      mountable = record {
        disk = disk-reset geometry old new n zone disk resets emptied_is logs;
        repair = λ more is. rw logs (record {
          one = λ a b torn torn'. absurd (none more a torn);
          fits = λ a torn. absurd (none more a torn);
        });
      };
    }
  where
    none : (more : List ℕ) (a : ℕ) → IsTornAt (cleared (without (zone_logs geometry old) zone) more) (zone_tails new) a → ⊥
    none more a torn =
        let was = zone_logs geometry old in
        let left : (get_or (zone_tails old) a false ≡ true) × (a ≡ zone → ⊥) = tails-left old zone a (rw resets.zones at torn.tail) in
        let there = torn-before was (cleared (without was zone) more) (zone_tails new) a (clearing-part was (zone ∷ more)) torn in
        left.1 (only a (record { batch = there.batch; tail = left.0 }))

-- ---- a Finish and a restart

-- a Finish leaves a drive that can be mounted
pub finish_mounts : FinishMounts
finish_mounts geometry old new n zone small mountable writable untorn finishes =
    let disk = mountable.disk in
    let was = content_at old zone in
    let has = all-at (HasLog geometry) old zone nothing disk.logs finishes.in_range in
    let kept = finish_logs geometry old new zone small has writable untorn finishes in
    let fewer : count_by is_partly_written (set old zone (finished was)) ≤ count_by is_partly_written old =
    omega (arith, sum_by-set (λ (c : Content). cond {A = ℕ} (is_partly_written c) 1 0) old zone (finished was) nothing finishes.in_range) in
    record {
      disk = record {
        usable = rw finishes.zones (all-set (λ (c : Content). is_usable c.usage ≡ true) old zone (finished was) disk.usable refl);
        few_partial = rw finishes.zones (omega (arith, fewer, disk.few_partial));
        logs = kept.all_logs disk.logs;
        sound = rw kept.logs disk.sound;
        reserve = rw kept.logs disk.reserve;
        spare = rw kept.logs disk.spare;
      };
      repair = rw (kept.logs, kept.tails_are) mountable.repair;
    }

-- and so does a restart
pub restart_mounts : RestartMounts
restart_mounts drive n mountable = record { lawful = lawful-restarted drive mountable.lawful; holds = rw (contents-restarted drive.zones) mountable.holds }
