-- What the first report of a drive shows.
use Rattle.std.proofs.Common.{◌≡◌, ℕ, ◌+◌, ◌*◌, ◌/◌, ◌<◌, ◌≤◌, List, length, sym, ◌∙◌, inl, inr, arith}
use Rattle.std.specs.Prelude.{slice_set}
use Rattle.std.proofs.lemmas.List.{get_or-set_other, get_or-set_same}
use Rattle.std.proofs.Math.Nat.{div-eq_of_lt-le, eq-or-lt_of_le}
use Rattle.zone_states.specs.Zone.{Zone}
use Rattle.zone_states.specs.declared.geometry.Geometry.{Geometry}
use Rattle.drive_port.specs.Step.{zone_at}
use Rattle.passthrough.specs.Premise.{AreLawful, ShowsZones, descriptor_in}
use Rattle.passthrough.specs.Seen.{AreRows, AreSeen, IsRow, no_zone}
use Rattle.passthrough.specs.declared.seen_zone.SeenZone.{SeenZone}

-- one row more
pub rows-more : (geometry : Geometry) (report : List ℕ) (count : ℕ) (rows : List SeenZone) (row : SeenZone) → AreRows geometry report count rows → count < length rows
    → IsRow geometry count (descriptor_in report count) row → AreRows geometry report (count + 1) (slice_set rows count row)
rows-more geometry report count rows row are low is = λ i below.
    let few : i ≤ count = omega (arith, below) in
    elim (eq-or-lt_of_le few) [
      | inl same ↦ rw (same, get_or-set_same rows count row no_zone low) is
      | inr before ↦ rw (get_or-set_other rows count i row no_zone (λ e. absurd (omega (arith, e, before)))) (are i before)
    ]

none-over : (size : ℕ) → 1 ≤ size → 0 / size ≡ 0
none-over size some = div-eq_of_lt-le size (omega arith) (omega (arith, some))

-- all rows are true of the zones that the report shows
pub rows-seen : (geometry : Geometry) (report : List ℕ) (rows : List SeenZone) → 1 ≤ geometry.size → length report ≡ 64 + 64 * geometry.zones → length rows ≡ geometry.zones
    → AreRows geometry report geometry.zones rows → (zones : List Zone) → AreLawful geometry zones → ShowsZones geometry zones 0 report → AreSeen zones rows
rows-seen geometry report rows some long count are zones lawful shows = record {
  count = count ∙ sym lawful.count;
  each = λ number low.
      let at : 0 / geometry.size + number ≡ number = omega (arith, none-over geometry.size some) in
      let there : number < geometry.zones = omega (arith, low, lawful.count) in
      (are number there).seen (zone_at zones number) (rw at at (shows number (omega (arith, there, long))));
}

-- fewer rows
pub rows-fewer : (geometry : Geometry) (report : List ℕ) (count more : ℕ) (rows : List SeenZone) → AreRows geometry report more rows → count ≤ more → AreRows geometry report count rows
rows-fewer geometry report count more rows are few = λ i low. are i (omega (arith, low, few))
