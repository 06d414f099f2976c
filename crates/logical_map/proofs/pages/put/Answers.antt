use Rattle.std.proofs.Common.{sym, ◌∙◌, ap, map, set}
use Rattle.std.proofs.lemmas.List.{map-set}
use Rattle.logical_map.specs.Pages.{place_of}
use Rattle.logical_map.proofs.Showing.{word-at}
use Rattle.logical_map.proofs.pages.put.Goals as goal

pub returns-clause-old : goal.returns-clause-old
returns-clause-old c = c.from_word-old.ensures ∙ sym (word-at c.args.page.now c.args.index)

pub returns-clause-set : goal.returns-clause-set
returns-clause-set c = map-set place_of c.args.page.now c.args.index c.word.result ∙ ap (set (map place_of c.args.page.now) c.args.index) c.word.ensures
