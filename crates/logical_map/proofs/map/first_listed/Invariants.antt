use Rattle.std.proofs.Common.{length, ◌-◌, ◌≤◌}
use Rattle.logical_map.specs.Lists.{NoneLies}
use Rattle.logical_map.specs.Pages.{page_of}
use Rattle.logical_map.proofs.map.first_listed.Given as goal

abbrev pub decreases-loop-position : goal.decreases-loop-position
decreases-loop-position l = length l.blocks - l.position

abbrev pub invariant-loop-position : goal.invariant-loop-position
invariant-loop-position l = (l.first ≤ l.position) × NoneLies (page_of l.pages.items) l.words.zone_size l.words.zone l.blocks l.first l.position
