use Rattle.zone_translator.proofs.AgainLaws.{calls-are-steps, list-is-found}
use Rattle.zone_translator.proofs.laws.lists_are_found.Goals as goal

pub returns-clause-steps : goal.returns-clause-steps
returns-clause-steps c = calls-are-steps

pub returns-clause-found : goal.returns-clause-found
returns-clause-found c = list-is-found
