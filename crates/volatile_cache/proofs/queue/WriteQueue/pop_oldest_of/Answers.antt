use Rattle.std.proofs.Common.{◌∙◌, ap, sym, List, ℕ}
use Rattle.std.specs.Map.{values_of}
use Rattle.volatile_cache.specs.declared.kept.Kept.{Kept}
use Rattle.volatile_cache.proofs.KeptIndexLaws.{numbered-taken-of}
use Rattle.volatile_cache.proofs.QueueLaws.{none-without, without-numbered}
use Rattle.volatile_cache.proofs.queue.WriteQueue.pop_oldest_of.Goals as goal

pub returns-in_default : goal.returns-in_default
returns-in_default c = rw (← c.self.view_is) (sym (none-without c.self.invariant c.args.place c.in_default.ensures.none))

pub invariant_of-self : goal.invariant_of-self
invariant_of-self c =
    numbered-taken-of c.args.place c.in-Some.number c.self.invariant c.in-Some.ensures.some.0
    c.remove-2.ensures.updates c.remove.ensures.updates c.remove.ensures.ordered

pub returns : goal.returns
returns c =
    rw (← c.self.view_is) (ap (λ (es : List (ℕ × Kept)). values_of es) c.remove.ensures.entries
    ∙ without-numbered c.self.invariant c.args.place c.in-Some.number c.in-Some.ensures.some)
