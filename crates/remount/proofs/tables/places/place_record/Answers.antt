use Rattle.std.proofs.Common.{List, set, refl, sym, ap, ◌∙◌, arith}
use Rattle.logical_map.specs.declared.place.Place.{Place}
use Rattle.zone_choice.specs.Tables.{TablesView}
use Rattle.remount.proofs.PlacingLaws.{place-first, place-kept, place-past}
use Rattle.remount.proofs.tables.places.place_record.Goals as goal

pub returns-then-block-blocks-clause-places : goal.returns-then-block-blocks-clause-places
returns-then-block-blocks-clause-places c all placed older =
    place-past c.args.zone_size all c.args.found c.args.tables.now.map.places (omega (arith, c.if-block-blocks.true, c.blocks-2.ensures)) placed

pub returns-in_default : goal.returns-in_default
returns-in_default c = record {
  places = λ all placed older. place-kept c.args.zone_size all c.args.found c.args.tables.now.map.places (λ is. c.in_default.not-None (c.place_of.ensures ∙ is)) older placed;
  kept = record { size = refl; zones = refl; zone_size = refl; given = refl; unreadable = refl };
}

pub returns-clause-places : goal.returns-clause-places
returns-clause-places c all placed older =
    let same = c.in_ok-reserve.ensures.kept.places in
    place-first c.args.zone_size all c.args.found c.args.tables.now.map.places c.place.new.self.map.places (omega (arith, c.if-block-blocks.false, c.blocks-2.ensures)) (sym c.place_of.ensures ∙ c.in-None.is)
    (ap (λ (t : TablesView). t.map.places) c.place.ensures ∙ ap (λ (ps : List Place). set ps c.args.found.block c.place_of-2.result) same ∙ ap (set c.args.tables.now.map.places c.args.found.block) c.place_of-2.ensures.place) placed
