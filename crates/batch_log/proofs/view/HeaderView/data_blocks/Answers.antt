use Rattle.std.proofs.Common.{◌≡◌, List, ℕ, drop, ap, ◌∙◌}
use Rattle.std.proofs.lemmas.List.{take_rest}
use Rattle.batch_log.specs.Header.{Heading, head_size}
use Rattle.batch_log.specs.Reading.{count_in, entries_in, heading_in}
use Rattle.batch_log.specs.Log.{data_count}
use Rattle.batch_log.proofs.EntryLaws.{entries_length}
use Rattle.batch_log.proofs.view.HeaderView.data_blocks.Goals as goal

pub returns : goal.returns
unfolding heading_in
returns c =
    let block = c.self.inside.block.now in
    let count : c.count.result ≡ count_in block = c.count.ensures ∙ rw (← c.self.view_is) (entries_length (count_in block) (drop head_size block)) in
    c.data_count.ensures ∙ ap (λ (bytes : List ℕ). data_count (entries_in c.count.result bytes)) (take_rest block head_size)
    ∙ ap (λ (n : ℕ). data_count (entries_in n (drop head_size block))) count ∙ ap (λ (h : Heading). data_count h.entries) c.self.view_is
