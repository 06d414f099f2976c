use Rattle.std.proofs.Common.{ℕ, List, ap, ◌∙◌}
use Rattle.std.proofs.lemmas.List.{take_rest}
use Rattle.batch_log.specs.Header.{head_size}
use Rattle.batch_log.specs.Reading.{entries_in}
use Rattle.batch_log.specs.Causes.{entry_blocks, repeats}
use Rattle.batch_log.proofs.view.has_repeats.Goals as goal

pub returns : goal.returns
returns c = c.repeats.ensures ∙ ap (λ (bytes : List ℕ). repeats (entry_blocks (entries_in c.args.count bytes))) (take_rest c.args.block.now head_size)
