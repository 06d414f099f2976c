use Rattle.remount.proofs.tables.places.reserve_zones.Goals as goal

pub returns-in_default : goal.returns-in_default
returns-in_default c = c.loop-zone.invariant
