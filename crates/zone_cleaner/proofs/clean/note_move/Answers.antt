use Rattle.std.proofs.Common.{◌≡◌, sym, ◌∙◌}
use Rattle.zone_cleaner.proofs.MayLaws.{placed-inside}
use Rattle.zone_cleaner.proofs.clean.note_move.Goals as goal

pub note_places-requires-clause-in_range : goal.note_places-requires-clause-in_range
note_places-requires-clause-in_range c = placed-inside c.args.tables.now c.args.entries.now (sym c.have_places.ensures ∙ c.if-not-have_places.false)
