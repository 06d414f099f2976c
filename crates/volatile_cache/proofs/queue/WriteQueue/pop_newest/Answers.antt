use Rattle.std.proofs.Common.{refl}
use Rattle.volatile_cache.proofs.KeptIndexLaws.{numbered-taken}
use Rattle.volatile_cache.proofs.queue.WriteQueue.pop_newest.Goals as goal

pub invariant_of-self : goal.invariant_of-self
invariant_of-self c =
    numbered-taken c.in-Some.kept.place c.in-Some.number c.in-Some.kept c.self.invariant c.in-Some.ensures.value refl
    c.remove.ensures.updates c.in-Some.ensures.updates c.pop_last.ensures.ordered

pub invariant_of-self-in-Some-2 : goal.invariant_of-self-in-Some-2
invariant_of-self-in-Some-2 c =
    numbered-taken c.in-Some.kept.place c.in-Some.number c.in-Some.kept c.self.invariant c.in-Some.ensures.value refl
    c.remove.ensures.updates c.in-Some.ensures.updates c.pop_last.ensures.ordered
