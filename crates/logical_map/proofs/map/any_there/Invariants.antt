use Rattle.std.proofs.Common.{◌≡◌, false}
use Rattle.logical_map.specs.Lists.{NoneLies}
use Rattle.logical_map.specs.Pages.{page_of}
use Rattle.logical_map.proofs.map.any_there.Given as goal

abbrev pub invariant-loop-position : goal.invariant-loop-position
invariant-loop-position l = l.any ≡ false → NoneLies (page_of l.pages.items) l.words.zone_size l.words.zone l.blocks l.first l.position
