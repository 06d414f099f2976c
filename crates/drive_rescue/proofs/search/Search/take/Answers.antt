use Rattle.std.proofs.Common.{◌+◌, ℕ, max, Option, refl, ap, ◌∙◌}
use Rattle.drive_array.specs.Sizes.{larger}
use Rattle.drive_rescue.specs.Searching.{doubt_before}
use Rattle.drive_rescue.proofs.SearchLaws.{takes-batch}
use Rattle.drive_rescue.proofs.search.Search.take.Goals as goal

pub returns-clause-holds : goal.returns-clause-holds
returns-clause-holds c read place holds =
    takes-batch c.args.self.now _ read c.args.zone.number place c.args.header.now (ap (λ (n : ℕ). c.args.self.now.offset + 1 + n) c.data_blocks.ensures) refl
    (c.max-self.ensures ∙ ap (λ (s : ℕ). max c.args.self.now.floor (s + 1)) c.sequence-sequence.ensures)
    (c.doubt_before-self.ensures ∙ ap (λ (s : ℕ). doubt_before c.args.self.now.trail c.args.self.now.doubt s) c.sequence-sequence.ensures)
    (c.larger-self.ensures ∙ ap (λ (s : Option ℕ). larger c.args.self.now.size s) c.size.ensures)
    c.requires.size c.in_ok-note_batch.ensures holds
