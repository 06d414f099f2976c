use Rattle.zone_choice.proofs.VictimLaws.{has_sealed, least_can_move}
use Rattle.zone_choice.proofs.laws.a_zone_can_be_cleaned.Goals as goal

pub returns-clause-sealed : goal.returns-clause-sealed
returns-clause-sealed c = has_sealed

pub returns-clause-least : goal.returns-clause-least
returns-clause-least c = least_can_move
