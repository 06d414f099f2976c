use Rattle.zone_translator.proofs.AgainLaws.{called-can, left-is-found, mounted-can, remounted-can}
use Rattle.zone_translator.proofs.laws.answered_is_found.Goals as goal

pub returns-clause-mounted : goal.returns-clause-mounted
returns-clause-mounted c = mounted-can

pub returns-clause-called : goal.returns-clause-called
returns-clause-called c = called-can

pub returns-clause-remounted : goal.returns-clause-remounted
returns-clause-remounted c = remounted-can

pub returns-clause-found : goal.returns-clause-found
returns-clause-found c = left-is-found
