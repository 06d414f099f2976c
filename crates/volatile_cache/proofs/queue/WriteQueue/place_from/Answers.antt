use Rattle.volatile_cache.proofs.IndexLaws.{first-key, no-key}
use Rattle.volatile_cache.proofs.QueueLaws.{first-place, no-place}
use Rattle.volatile_cache.proofs.queue.WriteQueue.place_from.Goals as goal

pub returns-in_err-place : goal.returns-in_err-place
returns-in_err-place c =
    let empty = c.in_err-place.ensures.steps.0 in
    let none = no-key c.self.inside.places c.args.from c.range.result empty (c.range.ensures.in_range tt) in
    rw (c.from_residual.ensures, ← c.self.view_is) (no-place c.self.invariant c.args.from none)

pub returns : goal.returns
returns c =
    let key = c.in_ok-place.field-0.now in
    let steps = c.in_ok-place.ensures.steps in
    let first = first-key c.self.inside.places c.args.from key c.next.new.self c.range.result steps (c.range.ensures.in_range tt) in
    rw (← c.self.view_is) (first-place c.self.invariant c.args.from key first)
