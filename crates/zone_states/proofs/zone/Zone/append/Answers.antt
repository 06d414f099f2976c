use Rattle.zone_states.proofs.zone.Zone.append.Goals as goal

pub returns-clause-in_blocks : goal.returns-clause-in_blocks
returns-clause-in_blocks c = λ whole. c.in_ok-extend.ensures.in_blocks whole c.in-Some.ensures.whole
