use Rattle.std.proofs.Common.{◌≡◌, List, [], arith, sym}
use Rattle.std.proofs.lemmas.Bool.{eqb-true}
use Rattle.zone_choice.specs.declared.unreadable.Unreadable.{Unreadable}
use Rattle.zone_choice.specs.Tables.{FindsLeastSealed, TablesView}
use Rattle.zone_choice.proofs.LeastLaws.{finds-none, finds-some, least-all, no-items}
use Rattle.zone_choice.proofs.tables.Tables.least_sealed.Goals as goal

abbrev viewed : goal.After-least → TablesView
viewed c = record { map = c.self.inside.map; roles = c.self.inside.roles; next = c.self.inside.next; given = c.self.inside.given; unreadable = c.self.inside.unreadable.items }

found : (c : goal.After-least) → FindsLeastSealed (viewed c) c.self.inside.map.zones c.least.result
found c =
    let lost = c.self.inside.unreadable in
    let none : lost.items ≡ [] = no-items lost.items (omega (arith, lost.ok, eqb-true lost.len 0 (sym c.if-is_empty.ensures))) in
    least-all (viewed c) c.sealed.result.now c.self.inside.index c.least.result none c.self.invariant.0 c.sealed.ensures c.self.invariant.1 c.least.ensures

pub returns-then-is_empty-clause-some : goal.returns-then-is_empty-clause-some
returns-then-is_empty-clause-some c = rw (← c.self.view_is) (finds-some (viewed c) c.least.result c.self.invariant.0 (found c))

pub returns-then-is_empty-clause-none : goal.returns-then-is_empty-clause-none
returns-then-is_empty-clause-none c = rw (← c.self.view_is) (finds-none (viewed c) c.least.result c.self.invariant.0 (found c))

pub returns-clause-some : goal.returns-clause-some
returns-clause-some c = finds-some c.args.self.now c.least_readable.result (rw (← c.self.view_is) c.self.invariant.0) c.least_readable.ensures

pub returns-clause-none : goal.returns-clause-none
returns-clause-none c = finds-none c.args.self.now c.least_readable.result (rw (← c.self.view_is) c.self.invariant.0) c.least_readable.ensures
