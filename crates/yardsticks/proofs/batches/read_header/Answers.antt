use Rattle.std.proofs.Common.{sym, ◌∙◌}
use Rattle.std.proofs.lemmas.Bool.{false≢true}
use Rattle.yardsticks.proofs.HeaderReading.{no_room, no_heading, no_spelling}
use Rattle.yardsticks.proofs.batches.read_header.Goals as goal

pub returns-in_default-clause-none : goal.returns-in_default-clause-none
returns-in_default-clause-none c = no_room c.args.block.now c.requires (rw c.in_default.is at c.in_ok-header.ensures.none)

pub returns-then-not-is_heading-clause-none : goal.returns-then-not-is_heading-clause-none
returns-then-not-is_heading-clause-none c =
    let read = rw c.in-Some.is at c.in_ok-header.ensures.some in
    no_heading c.args.block.now _ c.requires read (λ is. false≢true (c.if-not-is_heading.ensures.1 is))

pub returns-then-not-is_same-clause-none : goal.returns-then-not-is_same-clause-none
returns-then-not-is_same-clause-none c =
    let read = rw c.in-Some.is at c.in_ok-header.ensures.some in
    no_spelling c.args.block.now _ c.requires read (λ is. false≢true (sym c.if-not-is_same.true ∙ c.in_ok-is_same.ensures.1 is))
