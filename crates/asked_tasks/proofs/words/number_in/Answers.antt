use Rattle.asked_tasks.proofs.WordLaws.{unparsed}
use Rattle.asked_tasks.proofs.words.number_in.Goals as goal

pub returns-in-Err-clause-none : goal.returns-in-Err-clause-none
returns-in-Err-clause-none c = λ n is. unparsed c.args.text.now c.in-Err.ensures.value.0 n is
