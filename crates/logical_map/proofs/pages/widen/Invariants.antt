use Rattle.std.proofs.Common.{◌≡◌, ◌≤◌, ◌-◌, ℕ, length}
use Rattle.std.specs.Vec.{vec_capacity}
use Rattle.logical_map.specs.Pages.{page_of}
use Rattle.logical_map.proofs.pages.widen.Given as goal

abbrev pub invariant-loop-pages : goal.invariant-loop-pages
invariant-loop-pages l = (l.count ≤ vec_capacity l.pages) × ((number : ℕ) → page_of l.pages.items number ≡ page_of l.fn.pages.items number)

abbrev pub decreases-loop-pages : goal.decreases-loop-pages
decreases-loop-pages l = l.count - length l.pages.items
