use Rattle.std.proofs.Common.{◌≡◌, ◌≤◌, arith, List, length, replicate, ap, ◌∙◌}
use Rattle.std.proofs.lemmas.List.{length-replicate}
use Rattle.logical_map.specs.declared.place.Place.{Place}
use Rattle.logical_map.specs.declared.place.Place.TheVariants as places
use Rattle.zone_choice.specs.Tables.{TablesView}
use Rattle.remount.proofs.PlacedLaws.{few-zones, places-are}
use Rattle.remount.proofs.PlacingLaws.{placed-none}
use Rattle.remount.proofs.tables.places.place_records.Goals as goal

pub returns-clause-placed : goal.returns-clause-placed
returns-clause-placed c drive logs same knows =
    let kept = c.in_ok-place_batches.ensures.kept in
    let fresh = c.in_ok-tables.ensures in
    let few : length c.args.survey.now.scanned.items ≤ c.args.geometry.now.zones = few-zones drive c.args.geometry.now c.args.survey.now.given logs c.args.survey.now same knows in
    let all = (rw c.deref-2.ensures.value at c.in_ok-batches.ensures.all) few in
    let placed = rw c.deref-3.ensures.value at c.in_ok-place_batches.ensures.places in
    let begun : c.reserve_zones.new.tables ≡ c.in_ok-tables.tables = c.reserve_zones.ensures in
    let places_are : c.reserve_zones.new.tables.map.places ≡ replicate c.min-size.result places.None = ap (λ (t : TablesView). t.map.places) begun ∙ fresh.places in
    record {
      places = places-are drive c.args.geometry.now c.args.survey.now.given logs c.args.survey.now c.min-size.result c.in_ok-batches.batches.items all.0 c.place_batches.new.tables.map.places same knows c.min-size.ensures
          (kept.size ∙ ap (λ (ps : List Place). length ps) places_are ∙ length-replicate c.min-size.result places.None) all.1 all.2 (placed (placed-none c.args.geometry.now.size c.min-size.result c.reserve_zones.new.tables.map.places places_are));
      zones = kept.zones ∙ ap (λ (t : TablesView). t.map.zones) begun ∙ fresh.zones;
      zone_size = kept.zone_size ∙ ap (λ (t : TablesView). t.map.zone_size) begun ∙ fresh.zone_size;
      given = kept.given ∙ ap (λ (t : TablesView). t.given) begun ∙ fresh.given;
      unreadable = kept.unreadable ∙ ap (λ (t : TablesView). t.unreadable) begun ∙ fresh.unreadable;
    }

pub returns-clause-readable : goal.returns-clause-readable
returns-clause-readable c =
    let begun : c.reserve_zones.new.tables ≡ c.in_ok-tables.tables = c.reserve_zones.ensures in
    c.in_ok-place_batches.ensures.kept.unreadable ∙ ap (λ (t : TablesView). t.unreadable) begun ∙ c.in_ok-tables.ensures.unreadable

pub returns-clause-few : goal.returns-clause-few
returns-clause-few c =
    let fresh = c.in_ok-tables.ensures in
    let begun : c.reserve_zones.new.tables ≡ c.in_ok-tables.tables = c.reserve_zones.ensures in
    let places_are : c.reserve_zones.new.tables.map.places ≡ replicate c.min-size.result places.None = ap (λ (t : TablesView). t.map.places) begun ∙ fresh.places in
    omega (arith, c.in_ok-place_batches.ensures.kept.size, ap (λ (ps : List Place). length ps) places_are, length-replicate c.min-size.result places.None, c.min-size.ensures)
