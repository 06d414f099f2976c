use Rattle.std.proofs.Common.{◌∙◌, sym}
use Rattle.volatile_cache.proofs.QueueLaws.{none-newest, newest-numbered}
use Rattle.volatile_cache.proofs.queue.WriteQueue.newest_of.Goals as goal

pub returns-in_err-number : goal.returns-in_err-number
returns-in_err-number c =
    rw (c.from_residual.ensures, ← c.self.view_is) (sym (none-newest c.self.invariant c.args.place c.in_err-number.ensures.none))

pub returns : goal.returns
returns c =
    let greatest = c.in_ok-number.ensures.some in
    rw (← c.self.view_is) (c.get.ensures.value ∙ sym (newest-numbered c.self.invariant c.args.place c.in_ok-number.number greatest))
