use Rattle.std.proofs.Common.{rules}
use Rattle.volatile_cache.proofs.IndexLaws.{is-greatest, none-greatest, other-greatest}
use Rattle.volatile_cache.proofs.queue.newest_number.Goals as goal

pub returns-in_err-found-clause-none : goal.returns-in_err-found-clause-none
returns-in_err-found-clause-none c = rw c.from_residual.ensures (none-greatest c.args.places.now c.args.place c.range.result c.in_err-found.ensures.steps.0 (c.range.ensures.in_range tt))

pub returns-then-found-place-clause-none : goal.returns-then-found-place-clause-none
returns-then-found-place-clause-none c = other-greatest c.args.places.now c.args.place c.in_ok-found.field-0.now c.next_back.new.self c.range.result c.in_ok-found.ensures.steps (search rules) (c.range.ensures.in_range tt)

pub returns-clause-some : goal.returns-clause-some
returns-clause-some c = is-greatest c.args.places.now c.args.place c.in_ok-found.field-0.now c.next_back.new.self c.range.result c.in_ok-found.ensures.steps c.if-found-place.false (c.range.ensures.in_range tt)
