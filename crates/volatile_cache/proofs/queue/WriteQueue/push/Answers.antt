use Rattle.std.proofs.Common.{◌≡◌, ◌∙◌, ◌+◌, ◌<◌, ◌^◌, ap, rules, List, ℕ, nat_cmp, arith}
use Rattle.std.specs.Map.{values_of}
use Rattle.std.specs.BTreeMap.{insert_entry}
use Rattle.volatile_cache.specs.declared.kept.Kept.{Kept}
use Rattle.volatile_cache.proofs.KeptIndexLaws.{AddsBlock, AddsKey, numbered-added, numbered-undone}
use Rattle.volatile_cache.proofs.OrderLaws.{insert-values}
use Rattle.volatile_cache.proofs.queue.WriteQueue.push.Goals as goal

pub invariant_of-self-then-is_err-2 : goal.invariant_of-self-then-is_err-2
invariant_of-self-then-is_err-2 c =
    let key : AddsKey c.self.inside.places c.insert.new.self c.args.kept.place c.self.inside.next = search rules in
    let unchanged : c.insert-2.new.self.entries ≡ c.self.inside.order.entries = search rules in
    numbered-undone c.insert.new.self c.args.kept.place c.self.invariant key c.remove.ensures.updates unchanged c.insert-2.ensures.ordered

pub invariant_of-self-2 : goal.invariant_of-self-2
invariant_of-self-2 c =
    let key : AddsKey c.self.inside.places c.insert.new.self c.args.kept.place c.self.inside.next = search rules in
    let block : AddsBlock c.self.inside.order c.insert-2.new.self c.self.inside.next c.args.kept = search rules in
    let next : c.in-Some.next ≡ c.self.inside.next + 1 = search rules in
    let fits : c.in-Some.next < 2 ^ 64 = omega (arith, c.in-Some.ensures) in
    numbered-added c.args.kept c.self.invariant key block c.insert-2.ensures.ordered next fits

pub returns-clause-ok : goal.returns-clause-ok
returns-clause-ok c =
    let before = c.self.inside.order.entries in
    let entries : c.insert-2.new.self.entries ≡ insert_entry nat_cmp before c.self.inside.next c.args.kept = search rules in
    rw (← c.self.view_is) (ap (λ (es : List (ℕ × Kept)). values_of es) entries
    ∙ insert-values before c.self.inside.next c.args.kept c.self.invariant.below)
