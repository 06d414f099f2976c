use Rattle.std.proofs.Common.{◌≡◌, ◌<◌, ◌*◌, List, ℕ, length, drop, sym, ap, ◌∙◌, arith}
use Rattle.std.proofs.Common.{Some}
use Rattle.std.proofs.lemmas.List.{take_rest}
use Rattle.batch_log.specs.Header.{Heading, head_size}
use Rattle.batch_log.specs.Reading.{count_in, entries_of, entry_of, heading_in, number_at}
use Rattle.batch_log.proofs.EntryLaws.{entries_length, entry_there}
use Rattle.batch_log.proofs.view.HeaderView.entry.Goals as goal

pub returns : goal.returns
unfolding heading_in
returns c =
    let block = c.self.inside.block.now in
    let long : length (entries_of block) ≡ length c.args.self.now.entries = ap (λ (h : Heading). length h.entries) c.self.view_is in
    let less : c.args.i < count_in block = omega (arith, c.requires, long, entries_length (count_in block) (drop head_size block)) in
    let read : c.entry_at.result ≡ entry_of (number_at (8 * c.args.i) 8 (drop head_size block)) =
    c.entry_at.ensures.value ∙ ap (λ (bytes : List ℕ). entry_of (number_at (8 * c.args.i) 8 bytes)) (take_rest block head_size) in
    rw (← c.self.view_is) (entry_there (count_in block) c.args.i (drop head_size block) less ∙ ap Some (sym read))
