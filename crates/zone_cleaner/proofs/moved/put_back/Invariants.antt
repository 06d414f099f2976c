use Rattle.std.proofs.Common.{◌≡◌, ◌≤◌, ◌^◌, drop}
use Rattle.zone_choice.specs.Tables.{size_of, with_places}
use Rattle.zone_cleaner.specs.Undoing.{put_back}
use Rattle.zone_cleaner.proofs.moved.put_back.Given as goal

abbrev pub invariant-loop-one : goal.invariant-loop-one
invariant-loop-one l =
    (with_places l.tables (put_back l.tables.map.zone_size l.zone (drop l.one-index l.fn.moved) l.tables.map.places)
    ≡ with_places l.fn.tables (put_back l.fn.tables.map.zone_size l.zone l.fn.moved l.fn.tables.map.places))
    × (size_of l.tables ≤ 2 ^ 31)
