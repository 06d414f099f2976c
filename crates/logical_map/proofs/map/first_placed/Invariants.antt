use Rattle.logical_map.specs.Lists.{NoBlockLies}
use Rattle.logical_map.specs.Pages.{page_of}
use Rattle.logical_map.proofs.map.first_placed.Given as goal

abbrev pub invariant-loop-block : goal.invariant-loop-block
invariant-loop-block l = NoBlockLies (page_of l.pages.items) l.words.zone_size l.words.zone l.from l.block
