use Rattle.tool_forms.proofs.NameLaws.{none-named}
use Rattle.tool_forms.proofs.zone_states_named.state_named.Goals as goal

pub returns-clause-none : goal.returns-clause-none
returns-clause-none c = none-named c.args.word.now c.named_in.result c.named_in.ensures.none
