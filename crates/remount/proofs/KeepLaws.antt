-- A command of a mount's repairs leaves a drive that can be mounted, with the same array.
use Rattle.std.proofs.Common.{◌≡◌, ◌⊎◌, inl, inr, ℕ, ◌<◌, ◌^◌, true, false, List, [], refl, ap, ◌∙◌}
use Rattle.std.proofs.lemmas.List.{set-get_or}
use Rattle.drive_port.specs.Contents.{Content, Finishes, Resets, content_at, contents, is_writable, nothing}
use Rattle.drive_port.specs.Drive.{DriveState, IsLawful}
use Rattle.batch_log.specs.Log.{Batch}
use Rattle.drive_array.specs.ZoneLogs.{HasLog, drive_logs, has_torn_tail, encoded, encoded_array, zone_logs}
use Rattle.drive_array.specs.Laws.{ResetMounts}
use Rattle.drive_array.specs.Mountable.{IsMountable}
use Rattle.drive_array.specs.Records.{without}
use Rattle.drive_array.specs.Sizes.{array_of}
use Rattle.drive_array.specs.Spare.{IsLowest, IsVacant}
use Rattle.drive_array.proofs.MountLaws.{finish_mounts, lowest_resets, vacant_resets}
use Rattle.drive_array.proofs.AllLaws.{all-at}
use Rattle.drive_array.proofs.ZoneLogLaws.{finish_logs}
use Rattle.remount.specs.Kept.{KeepsMountable}
use Rattle.remount.specs.Resets.{MayChange}

-- ---- one command after the other

-- an unchanged lawful drive stays mountable with its array
pub keeps-mountable-none : (n : ℕ) (drive : DriveState) → IsLawful drive → KeepsMountable n drive drive
keeps-mountable-none n drive lawful = record { geometry = refl; lawful = lawful; refused = refl; durable = refl; mountable = λ is. is; array = λ is. refl }

-- two steps that each keep a drive mountable, with its array, keep it so together
pub keeps-mountable-both : (n : ℕ) (a b c : DriveState) → KeepsMountable n a b → KeepsMountable n b c → KeepsMountable n a c
keeps-mountable-both n a b c p q = record {
  geometry = q.geometry ∙ p.geometry;
  lawful = q.lawful;
  refused = q.refused ∙ p.refused;
  durable = q.durable ∙ p.durable;
  mountable = λ is. q.mountable (p.mountable is);
  array = λ is. q.array (p.mountable is) ∙ p.array is;
}

-- the same contents
same-mountable : (n : ℕ) (old new : DriveState) → new.geometry ≡ old.geometry → IsLawful new → contents new.zones ≡ contents old.zones → IsMountable old n → IsMountable new n
same-mountable n old new geometry lawful same is = record { lawful = lawful; holds = rw (geometry, same) is.holds }

same-array : (n : ℕ) (old new : DriveState) → new.geometry ≡ old.geometry → contents new.zones ≡ contents old.zones → encoded new n ≡ encoded old n
same-array n old new geometry same = rw (geometry, same) refl

-- what the logs encode
logs-array : (n : ℕ) (old new : DriveState) → new.geometry ≡ old.geometry → array_of old.geometry.block n (zone_logs old.geometry (contents new.zones)) ≡ array_of old.geometry.block n (drive_logs old) → encoded new n ≡ encoded old n
unfolding encoded_array
logs-array n old new geometry same = rw geometry same

-- ---- a Reset

reset-mounts : (n : ℕ) (old new : DriveState) (zone : ℕ) → IsVacant (drive_logs old) zone ⊎ IsLowest old.geometry.block n (drive_logs old) zone → Resets (contents old.zones) (contents new.zones) zone → IsMountable old n
    → ResetMounts old.geometry (contents old.zones) (contents new.zones) n zone
reset-mounts n old new zone (inl vacant) resets is = vacant_resets old.geometry (contents old.zones) (contents new.zones) n zone is.holds vacant resets
reset-mounts n old new zone (inr lowest) resets is = lowest_resets old.geometry (contents old.zones) (contents new.zones) n zone is.holds lowest resets

-- taking away the log of a vacant zone leaves all logs unchanged
pub without-vacant : (logs : List (List Batch)) (zone : ℕ) → IsVacant logs zone → without logs zone ≡ logs
without-vacant logs zone vacant = rw vacant at (set-get_or logs zone [])

spare-array : (block_bytes n : ℕ) (logs : List (List Batch)) (zone : ℕ) → IsVacant logs zone ⊎ IsLowest block_bytes n logs zone → array_of block_bytes n (without logs zone) ≡ array_of block_bytes n logs
spare-array block_bytes n logs zone (inl vacant) = ap (array_of block_bytes n) (without-vacant logs zone vacant)
spare-array block_bytes n logs zone (inr lowest) = lowest.half_clean.spare

-- a Reset of a vacant zone, or of the lowest half clean one, keeps the drive mountable
pub reset-keeps : (n : ℕ) (old new : DriveState) (zone : ℕ) → IsVacant (drive_logs old) zone ⊎ IsLowest old.geometry.block n (drive_logs old) zone → MayChange (λ a b. Resets a b zone) old new → KeepsMountable n old new
reset-keeps n old new zone may change = record {
  geometry = change.geometry;
  lawful = change.lawful;
  refused = change.refused;
  durable = change.durable;
  mountable = λ is. elim change.contents_are as (λ _. IsMountable new n) [
    | inl same ↦ same-mountable n old new change.geometry change.lawful same is
    | inr resets ↦ record { lawful = change.lawful; holds = rw change.geometry (reset-mounts n old new zone may resets is).mountable }
  ];
  array = λ is. elim change.contents_are as (λ _. encoded new n ≡ encoded old n) [
    | inl same ↦ same-array n old new change.geometry same
    | inr resets ↦ logs-array n old new change.geometry (ap (array_of old.geometry.block n) (reset-mounts n old new zone may resets is).logs ∙ spare-array old.geometry.block n (drive_logs old) zone may)
  ];
}

-- ---- a Finish

-- of a zone that can be written and has no torn tail
pub record CanFinishZone (drive : DriveState) (zone : ℕ) : Type 0 where
  pub small : drive.geometry.block < 2 ^ 32
  pub writable : is_writable (content_at (contents drive.zones) zone).usage ≡ true
  pub whole : has_torn_tail (content_at (contents drive.zones) zone) ≡ false

finish-array : (n : ℕ) (old new : DriveState) (zone : ℕ) → new.geometry ≡ old.geometry → CanFinishZone old zone → Finishes (contents old.zones) (contents new.zones) zone → IsMountable old n → encoded new n ≡ encoded old n
finish-array n old new zone geometry can finishes is =
    let has = all-at (HasLog old.geometry) (contents old.zones) zone nothing is.holds.disk.logs finishes.in_range in
    let kept = finish_logs old.geometry (contents old.zones) (contents new.zones) zone can.small has can.writable can.whole finishes in
    logs-array n old new geometry (ap (array_of old.geometry.block n) kept.logs)

-- a Finish of a writable zone without a torn tail keeps the drive mountable
pub finish-keeps : (n : ℕ) (old new : DriveState) (zone : ℕ) (Changes : List Content → List Content → Type 0) → ((a b : List Content) → Changes a b → Finishes a b zone × CanFinishZone old zone) → MayChange Changes old new → KeepsMountable n old new
finish-keeps n old new zone Changes can change = record {
  geometry = change.geometry;
  lawful = change.lawful;
  refused = change.refused;
  durable = change.durable;
  mountable = λ is. elim change.contents_are as (λ _. IsMountable new n) [
    | inl same ↦ same-mountable n old new change.geometry change.lawful same is
    | inr changes ↦ (
        let c = can (contents old.zones) (contents new.zones) changes in
        record { lawful = change.lawful; holds = rw change.geometry (finish_mounts old.geometry (contents old.zones) (contents new.zones) n zone c.1.small is.holds c.1.writable c.1.whole c.0) }
        )
  ];
  array = λ is. elim change.contents_are as (λ _. encoded new n ≡ encoded old n) [
    | inl same ↦ same-array n old new change.geometry same
    | inr changes ↦ (let c = can (contents old.zones) (contents new.zones) changes in finish-array n old new zone change.geometry c.1 c.0 is)
  ];
}
