use Rattle.std.proofs.Common.{sym}
use Rattle.logical_map.specs.Pages.{page_of}
use Rattle.logical_map.proofs.Showing.{length-shown}
use Rattle.logical_map.proofs.map.Map.len.Goals as goal

pub returns : goal.returns
returns c = rw (← c.self.view_is) (sym (length-shown (page_of c.self.inside.pages.items) c.self.inside.count))
