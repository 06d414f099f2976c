use Rattle.std.proofs.Common.{◌≡◌, ◌∙◌, ap, sym, Some}
use Rattle.std.specs.Option.{option_copied}
use Rattle.std.specs.Prelude.{slice_get}
use Rattle.volatile_cache.proofs.KeptLaws.{first-oldest}
use Rattle.volatile_cache.specs.Queue.{oldest_of}
use Rattle.volatile_cache.proofs.cache.VolatileCache.apply_oldest.Goals as goal

pub returns-clause-put : goal.returns-clause-put
returns-clause-put g c = λ clean.
    let first : slice_get c.self.inside.queue 0 ≡ Some c.in-Some.kept.now = sym c.oldest.ensures ∙ ap option_copied c.in-Some.is in
    let same : oldest_of c.in-Some.kept.now.place c.self.inside.queue ≡ slice_get c.self.inside.queue 0 = first-oldest c.self.inside.queue c.in-Some.kept.now first ∙ sym first in
    rw (← c.self.view_is) (rw same at (rw (← c.self.view_is) at (c.apply.ensures.put clean)))
