use Rattle.logical_map.proofs.lists.ZoneList.position_from.Goals as goal

pub returns-clause-kept : goal.returns-clause-kept
returns-clause-kept c = rw (← c.self.view_is) at c.sort.ensures.kept
