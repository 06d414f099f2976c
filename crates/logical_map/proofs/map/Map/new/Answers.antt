use Rattle.std.proofs.Common.{refl}
use Rattle.std.proofs.lemmas.Bool.{false≢true}
use Rattle.logical_map.specs.Pages.{page_of}
use Rattle.logical_map.proofs.Counting.{kept-new}
use Rattle.logical_map.proofs.Showing.{shown-empty}
use Rattle.logical_map.proofs.map.Map.new.Goals as goal

pub returns-clause-places : goal.returns-clause-places
returns-clause-places c = shown-empty (page_of c.new.result.items) c.args.count (λ m. rw c.new.ensures.items refl)

pub invariant_of-result : goal.invariant_of-result
invariant_of-result c = rw (c.new-2.ensures.items, c.new-3.ensures.items) (kept-new (page_of c.new.result.items) c.args.count c.args.zones c.args.zone_size (λ m. rw c.new.ensures.items refl), λ zone block whole lies. absurd (false≢true whole))
