-- Blocks without data.
use Rattle.std.specs.Prelude.{◌≡◌, ℕ, ◌<◌, List, [], false, length, slice_index_or, Option, Some, None}
use Rattle.std.proofs.Common.{arith, refl, sym, ap, subst, ◌∙◌}
use Rattle.std.proofs.lemmas.List.FromFn.{get_or-map-range_with_len, length-map-range_with_len}
use Rattle.batch_log.specs.Log.{Batch, zero_block}
use Rattle.logical_map.specs.declared.place.Place.TheVariants as places
use Rattle.drive_array.specs.Records.{Record, newest, place, records, shown}
use Rattle.drive_array.specs.Sizes.{array_of, encoded_size, map_of}
use Rattle.drive_array.specs.ZoneLogs.{drive_logs, encoded_array}
use Rattle.zone_translator.specs.View.{DiskView, disk_array, disk_places, given_size}
use Rattle.disk_calls.specs.Serves.{has_data, is_data}

-- what a record without data shows
shown-hole : (bytes size : ℕ) (newest : Option Record) → is_data (place size newest) ≡ false → shown bytes newest ≡ zero_block bytes
shown-hole bytes size None hole = refl
shown-hole bytes size (Some r) hole = elim r.content as (λ content. is_data (place size (Some (record r { content = content }))) ≡ false → shown bytes (Some (record r { content = content })) ≡ zero_block bytes) [ None ↦ λ _. refl | Some bytes ↦ λ e. absurd (cc e) ] hole

pub logs-hole : (bytes size n : ℕ) (logs : List (List Batch)) (block : ℕ) → block < length (array_of bytes n logs)
    → has_data (map_of size n logs) block ≡ false → slice_index_or (array_of bytes n logs) block [] ≡ zero_block bytes
logs-hole bytes size n logs block lt hole =
    let rs = records 0 logs in
    let long = encoded_size n logs in
    let within : block < long = subst (λ (m : ℕ). block < m) (length-map-range_with_len (λ (b : ℕ). shown bytes (newest b rs)) 0 long) lt in
    let there : slice_index_or (map_of size n logs) block places.None ≡ place size (newest block rs) = get_or-map-range_with_len (λ (b : ℕ). place size (newest b rs)) 0 long block block places.None within (omega (arith)) in
    let here : slice_index_or (array_of bytes n logs) block [] ≡ shown bytes (newest block rs) = get_or-map-range_with_len (λ (b : ℕ). shown bytes (newest b rs)) 0 long block block [] within (omega (arith)) in
    here ∙ shown-hole bytes size (newest block rs) (sym (ap is_data there) ∙ hole)

pub hole-zeros : (disk : DiskView) (block : ℕ) → block < length (disk_array disk) → has_data (disk_places disk) block ≡ false
    → slice_index_or (disk_array disk) block [] ≡ zero_block disk.drive.geometry.block
unfolding encoded_array
hole-zeros disk block lt hole = logs-hole disk.drive.geometry.block disk.drive.geometry.size (given_size disk) (drive_logs disk.drive) block lt hole
