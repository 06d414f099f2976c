-- What a stop inside the Append of a batch leaves: the logs of before, or those with the batch, on a drive that can be mounted.
use Rattle.std.proofs.Common.{◌≡◌, ◌≢◌, ℕ, nat_lt, ◌+◌, ◌-◌, ◌<◌, ◌≤◌, ◌^◌, Bool, true, false, List, ◌++◌, length, take, set, get_or, refl, inl, inr, arith}
use Rattle.std.specs.List.{AllByRecursion}
use Rattle.std.proofs.lemmas.Bool.{cases_eq}
use Rattle.std.proofs.lemmas.List.{get_or-set_other, length-set}
use Rattle.drive_port.specs.Contents.{Appends, Content, SameContents, content_at, contents, filled, is_usable, nothing}
use Rattle.drive_port.specs.Drive.{DriveState, IsLawful}
use Rattle.batch_log.specs.Log.{Batch, IsBatch, batch_blocks, batch_size, zero_block}
use Rattle.logical_map.specs.Places.{MapView}
use Rattle.logical_map.specs.declared.place.Place.TheVariants as places
use Rattle.zone_choice.specs.Agreement.{Agrees, mounted}
use Rattle.drive_array.specs.ZoneLogs.{HasLog, drive_logs, log_at, encoded, encoded_array, zone_tails}
use Rattle.zone_choice.specs.Changes.{Encodes, sequence_end, size_with}
use Rattle.drive_array.specs.Laws.{OnlyTorn, SameLogs}
use Rattle.drive_array.specs.Mountable.{HoldDisk, IsMountable, is_partly_written}
use Rattle.drive_array.specs.Records.{append_log, batch_records, over, place, shown}
use Rattle.drive_array.specs.Repair.{HasAtMost}
use Rattle.drive_array.specs.Reserve.{batch_most}
use Rattle.zone_choice.specs.Roles.{fillings, is_filling_at}
use Rattle.drive_array.specs.Sizes.{extended}
use Rattle.drive_array.specs.Spare.{HasSpare}
use Rattle.zone_choice.specs.Tables.{TablesView}
use Rattle.zone_choice.proofs.AgreementLaws.{AppendsBatch, IsPlaced, agrees_append, agrees_mountable, no_tails, size-encoded, sound-weaker, encoded_append, encoded_same, written_in, zone-untorn}
use Rattle.drive_array.proofs.AllLaws.{all-at, all-set}
use Rattle.zone_choice.proofs.ContentLaws.{all-usable, count-fillings, filling-log, roles-settled, settled-whole}
use Rattle.drive_array.proofs.MountLaws.{torn_mounts}
use Rattle.drive_array.proofs.ReserveLaws.{positive-most}
use Rattle.zone_choice.proofs.RolesLaws.{all-filling, few-fillings}
use Rattle.drive_array.proofs.ZoneLogLaws.{torn_logs}
use Rattle.drive_array.proofs.UsageLaws.{filled-usable}

-- the Append of a batch's first j blocks, but not all
pub record TornBatch (old new : DriveState) (tables : TablesView) (zone j : ℕ) (b : Batch) : Type 0 where
  pub batch : IsBatch old.geometry.block b
  pub filling : is_filling_at tables.roles zone ≡ true
  pub next : tables.next < sequence_end old.geometry
  pub few : j < length (batch_blocks old.geometry.block b)
  pub room : written_in old zone + batch_size b ≤ old.geometry.capacity
  pub geometry : new.geometry ≡ old.geometry
  pub lawful : IsLawful new
  pub appends : Appends (contents old.zones) (contents new.zones) old.geometry.capacity zone (take j (batch_blocks old.geometry.block b))

-- one tail at most where there was none
only-set : (tails : List Bool) (zone : ℕ) (b : Bool) → ((other : ℕ) → get_or tails other false ≡ false) → (other : ℕ) → get_or (set tails zone b) other false ≡ true → other ≡ zone
only-set tails zone b none other e = elim (cases_eq other zone) as (λ _. other ≡ zone) [
  | inl same ↦ same
  | inr apart ↦ absurd (let there = get_or-set_other tails zone other b false apart in let no_tail = none other in cc)
]

torn_kept : (old new : DriveState) (tables : TablesView) (zone j : ℕ) (b : Batch) → Agrees (mounted old tables) → TornBatch old new tables zone j b → SameLogs old.geometry (contents old.zones) (contents new.zones) (set (zone_tails (contents old.zones)) zone (nat_lt 0 j))
torn_kept old new tables zone j b agrees torn =
    let g = old.geometry in
    let zones = contents old.zones in
    let has : HasLog g (content_at zones zone) = all-at (HasLog g) zones zone nothing agrees.logs torn.appends.in_range in
    let untorn = zone-untorn g zones tables.roles zone agrees.roles torn.appends.in_range in
    torn_logs g zones (contents new.zones) zone j b agrees.lawful.geometry.block torn.batch has untorn torn.few (omega (arith, torn.few, torn.room, torn.batch.body)) torn.appends

-- what the zones hold, except for the torn tail
torn_disk : (old new : DriveState) (tables : TablesView) (zone j : ℕ) (b : Batch) → Agrees (mounted old tables) → TornBatch old new tables zone j b → HasSpare old.geometry.block tables.given (drive_logs old)
    → HoldDisk old.geometry (contents new.zones) tables.given
torn_disk old new tables zone j b agrees torn spare =
    let g = old.geometry in
    let zones = contents old.zones in
    let kept = torn_kept old new tables zone j b agrees torn in
    let made = filled g.capacity ((content_at zones zone).blocks ++ take j (batch_blocks g.block b)) in
    record {
      usable = rw torn.appends.zones (all-set (λ (c : Content). is_usable c.usage ≡ true) zones zone made (all-usable g.capacity zones (drive_logs old) tables.roles agrees.roles) (filled-usable g.capacity ((content_at zones zone).blocks ++ take j (batch_blocks g.block b))));
      few_partial = rw torn.appends.zones (omega (arith, few-fillings tables.roles, count-fillings is_partly_written (set zones zone made) (fillings tables.roles) nothing refl (others made)));
      logs = kept.all_logs agrees.logs;
      sound = rw kept.logs (sound-weaker tables.next (2 ^ 63) tables.given (drive_logs old) agrees.next agrees.sound);
      reserve = rw (kept.logs, ← size-encoded (mounted old tables) agrees) agrees.reserve;
      spare = rw kept.logs spare;
    }
  where
    others : (made : Content) (k : ℕ) → k < length (set (contents old.zones) zone made) → is_filling_at tables.roles k ≡ false → is_partly_written (get_or (set (contents old.zones) zone made) k nothing) ≡ false
    others made k lt out =
        let ne : k ≢ zone = λ same. (let yes = rw (← same) at torn.filling in absurd (cc)) in
        let there = get_or-set_other (contents old.zones) zone k made nothing ne in
        rw there (settled-whole (content_at (contents old.zones) k) (roles-settled old.geometry.capacity (contents old.zones) (drive_logs old) tables.roles k agrees.roles (omega (arith, lt, length-set (contents old.zones) zone made)) out))

torn_mountable : (old new : DriveState) (tables : TablesView) (zone j : ℕ) (b : Batch) → Agrees (mounted old tables) → TornBatch old new tables zone j b → HasSpare old.geometry.block tables.given (drive_logs old)
    → IsMountable new tables.given
torn_mountable old new tables zone j b agrees torn spare =
    let g = old.geometry in
    let zones = contents old.zones in
    let now = contents new.zones in
    let kept = torn_kept old new tables zone j b agrees torn in
    let disk = torn_disk old new tables zone j b agrees torn spare in
    let only : OnlyTorn g now zone = λ other torn_there. only-set (zone_tails zones) zone (nat_lt 0 j) (no_tails g zones tables.roles agrees.roles) other (rw kept.tails_are at torn_there.tail) in
    let sound = sound-weaker tables.next (2 ^ 63 - g.capacity) tables.given (drive_logs old) (omega (arith, torn.next)) agrees.sound in
    let few : AllByRecursion (HasAtMost (batch_most g)) (log_at (drive_logs old) zone) = all-filling (λ z. AllByRecursion (HasAtMost (batch_most g)) (log_at (drive_logs old) z)) (fillings tables.roles) zone agrees.few torn.filling in
    let small = filling-log g.capacity zones (drive_logs old) tables.roles zone agrees.roles torn.filling in
    record {
      lawful = torn.lawful;
      holds = rw torn.geometry (torn_mounts g now tables.given zone (positive-most g agrees.geometry) (omega (arith, agrees.geometry.capacity, agrees.geometry.size)) (rw kept.logs sound) (rw kept.logs few) (rw kept.logs (omega (arith, small, torn.room))) only disk);
    }

-- ---- in either case

-- the drive encodes these logs and this array, and if a zone is spare, it can be mounted
pub record Left (new : DriveState) (n : ℕ) (logs : List (List Batch)) (array : List (List ℕ)) : Type 0 where
  pub encodes : Encodes new n logs array
  pub mountable : HasSpare new.geometry.block n (drive_logs new) → IsMountable new n

-- a torn batch leaves the logs, and the array that they spell
pub left-torn : (old new : DriveState) (tables : TablesView) (zone j : ℕ) (b : Batch) → Agrees (mounted old tables) → TornBatch old new tables zone j b → Left new tables.given (drive_logs old) (encoded old tables.given)
unfolding encoded_array
left-torn old new tables zone j b agrees torn =
    let kept = torn_kept old new tables zone j b agrees torn in
    let logs : drive_logs new ≡ drive_logs old = rw torn.geometry kept.logs in
    record {
      encodes = record { logs_are = logs; array_is = rw (logs, torn.geometry) refl };
      mountable = λ spare. torn_mountable old new tables zone j b agrees torn (rw (logs, torn.geometry) at spare);
    }

-- the drive holds what it did
pub left-same : (old new : DriveState) (tables : TablesView) → SameContents old new → IsLawful new → Agrees (mounted old tables) → Left new tables.given (drive_logs old) (encoded old tables.given)
left-same old new tables same lawful agrees = record {
  encodes = record { logs_are = rw (same.geometry, same.contents) refl; array_is = encoded_same old new tables.given same };
  mountable = λ spare. record { lawful = lawful; holds = rw (same.geometry, same.contents) (agrees_mountable old tables agrees (rw (same.geometry, same.contents) at spare)).holds };
}

-- the whole batch: tables that place it would agree with the drive
pub left-whole : (old new : DriveState) (tables : TablesView) (zone : ℕ) (b : Batch) → Agrees (mounted old tables) → is_filling_at tables.roles zone ≡ true → AppendsBatch old new tables zone b
    → Left new tables.given (append_log (drive_logs old) zone b) (over (shown old.geometry.block) (batch_records zone (written_in old zone) b) (extended (zero_block old.geometry.block) (size_with tables b) (encoded old tables.given)))
left-whole old new tables zone b agrees filling a =
    let array = encoded_append old new tables zone b agrees filling a in
    let map : MapView = record tables.map { places = over (place old.geometry.size) (batch_records zone (written_in old zone) b) (extended places.None (size_with tables b) tables.map.places) } in
    let placed : IsPlaced old tables map zone b = record { places = refl; zones = refl; zone_size = refl } in
    record {
      encodes = record { logs_are = array.0; array_is = array.1 };
      mountable = λ spare. agrees_mountable new _ (agrees_append old new tables map zone b agrees filling a placed) spare;
    }
