use Rattle.std.proofs.Common.{◌≡◌, ◌∙◌, ap, arith, refl, subst, sym, Some, None, Err}
use Rattle.std.specs.Option.{option_copied}
use Rattle.volatile_cache.proofs.ApplyLaws.{apply_done, apply_outcomes, apply_failed, failed_outcomes, oldest_is_of, others_are_of, put_array}
use Rattle.volatile_cache.proofs.KeptLaws.{without-less, without-same}
use Rattle.volatile_cache.specs.Cache.{Applies, Cache}
use Rattle.volatile_cache.specs.Queue.{oldest_of, without_oldest}
use Rattle.volatile_cache.proofs.StayLaws.{stays_are_of}
use Rattle.nbd_session.proofs.AnywayLaws.{calls_same}
use Rattle.volatile_cache.proofs.cache.VolatileCache.apply.Goals as goal

pub returns-in_default-clause-ok : goal.returns-in_default-clause-ok
returns-in_default-clause-ok g c =
    let none : oldest_of c.args.place c.self.inside.queue ≡ None = sym c.oldest_of.ensures ∙ ap option_copied c.in_default.is in
    rw (← c.self.view_is) (without-same c.args.place c.self.inside.queue none)

pub put-requires : goal.put-requires
put-requires g c =
    let found : oldest_of c.args.place c.self.inside.queue ≡ Some c.in-Some.kept.now = sym c.oldest_of.ensures ∙ ap option_copied c.in-Some.is in
    (oldest_is_of (g.S.Store.view c.self.inside.store) c.args.place c.self.inside.queue c.in-Some.kept.now found c.self.invariant.0).1

pub invariant_of-self : goal.invariant_of-self
invariant_of-self g c = (
  stays_are_of (g.S.Store.view c.self.inside.store) (g.S.Store.view c.put.new.store) c.self.inside.queue c.put.ensures.stays.stays c.self.invariant.0,
  c.self.invariant.1,
)

pub returns-in-Err-clause-applies : goal.returns-in-Err-clause-applies
returns-in-Err-clause-applies g c = λ clean.
    let found : oldest_of c.args.place c.self.inside.queue ≡ Some c.in-Some.kept.now = sym c.oldest_of.ensures ∙ ap option_copied c.in-Some.is in
    let old : Cache g.row.S.Denot = record { store = c.self.inside.store; kept = c.self.inside.queue; most = c.self.inside.most } in
    let new : Cache g.row.S.Denot = record { store = c.put.new.store; kept = c.self.inside.queue; most = c.self.inside.most } in
    subst (λ (before : Cache g.row.S.Denot). Applies g.S.Store.view before (Err c.in-Err.fault) new) c.self.view_is
    (apply_failed g.S.Store.view old new c.args.place c.in-Some.kept.now c.in-Err.fault found c.self.invariant.0 (rw c.in-Err.is at (c.put.ensures.puts clean)) refl)

pub returns-in-Err-clause-outcomes : goal.returns-in-Err-clause-outcomes
returns-in-Err-clause-outcomes g c = λ clean.
    let found : oldest_of c.args.place c.self.inside.queue ≡ Some c.in-Some.kept.now = sym c.oldest_of.ensures ∙ ap option_copied c.in-Some.is in
    rw (← c.self.view_is)
    (failed_outcomes g.S.Store.view (record { store = c.self.inside.store; kept = c.self.inside.queue; most = c.self.inside.most }) (record { store = c.put.new.store; kept = c.self.inside.queue; most = c.self.inside.most })
    c.args.place c.in-Some.kept.now c.in-Err.fault found c.self.invariant.0 (rw c.in-Err.is at (c.put.ensures.puts clean)) refl)

pub invariant_of-self-2 : goal.invariant_of-self-2
invariant_of-self-2 g c =
    let found : oldest_of c.args.place c.self.inside.queue ≡ Some c.in-Some.kept.now = sym c.oldest_of.ensures ∙ ap option_copied c.in-Some.is in
    let less = without-less c.args.place c.self.inside.queue in
    rw c.pop_oldest_of.ensures (
      stays_are_of (g.S.Store.view c.self.inside.store) (g.S.Store.view c.put.new.store) (without_oldest c.args.place c.self.inside.queue) c.put.ensures.stays.stays
          (others_are_of (g.S.Store.view c.self.inside.store) c.args.place c.self.inside.queue c.in-Some.kept.now found c.self.invariant.0),
      omega (arith, less, c.self.invariant.1),
    )

pub returns-clause-applies : goal.returns-clause-applies
returns-clause-applies g c = λ clean.
    let found : oldest_of c.args.place c.self.inside.queue ≡ Some c.in-Some.kept.now = sym c.oldest_of.ensures ∙ ap option_copied c.in-Some.is in
    rw (← c.self.view_is)
    (apply_done g.S.Store.view (record { store = c.self.inside.store; kept = c.self.inside.queue; most = c.self.inside.most }) (record { store = c.put.new.store; kept = c.pop_oldest_of.new.self; most = c.self.inside.most })
    c.args.place c.in-Some.kept.now found c.self.invariant.0 (rw c.in_default-put.is at (c.put.ensures.puts clean)) c.pop_oldest_of.ensures)

pub returns-clause-outcomes : goal.returns-clause-outcomes
returns-clause-outcomes g c = λ clean.
    let found : oldest_of c.args.place c.self.inside.queue ≡ Some c.in-Some.kept.now = sym c.oldest_of.ensures ∙ ap option_copied c.in-Some.is in
    rw (← c.self.view_is)
    (apply_outcomes g.S.Store.view (record { store = c.self.inside.store; kept = c.self.inside.queue; most = c.self.inside.most }) (record { store = c.put.new.store; kept = c.pop_oldest_of.new.self; most = c.self.inside.most })
    c.args.place c.in-Some.kept.now found c.self.invariant.0 (rw c.in_default-put.is at (c.put.ensures.puts clean)) c.pop_oldest_of.ensures)

pub returns-in_default-clause-put : goal.returns-in_default-clause-put
returns-in_default-clause-put g c = λ clean.
    let none : oldest_of c.args.place c.self.inside.queue ≡ None = sym c.oldest_of.ensures ∙ ap option_copied c.in_default.is in
    rw (← c.self.view_is) (rw none refl)

pub returns-clause-put : goal.returns-clause-put
returns-clause-put g c = λ clean.
    let found : oldest_of c.args.place c.self.inside.queue ≡ Some c.in-Some.kept.now = sym c.oldest_of.ensures ∙ ap option_copied c.in-Some.is in
    rw (← c.self.view_is)
    (rw found
    (put_array (g.S.Store.view c.self.inside.store) (g.S.Store.view c.put.new.store) c.in-Some.kept.now
    (oldest_is_of (g.S.Store.view c.self.inside.store) c.args.place c.self.inside.queue c.in-Some.kept.now found c.self.invariant.0).0 (rw c.in_default-put.is at (c.put.ensures.puts clean))))

pub returns-in_default-clause-most : goal.returns-in_default-clause-most
returns-in_default-clause-most g c = rw (← c.self.view_is) refl

pub returns-in-Err-clause-most : goal.returns-in-Err-clause-most
returns-in-Err-clause-most g c = rw (← c.self.view_is) refl

pub returns-clause-most : goal.returns-clause-most
returns-clause-most g c = rw (← c.self.view_is) refl

pub returns-in-Err-clause-stays : goal.returns-in-Err-clause-stays
returns-in-Err-clause-stays g c = rw (← c.self.view_is) c.put.ensures.stays

pub returns-clause-stays : goal.returns-clause-stays
returns-clause-stays g c = rw (← c.self.view_is) c.put.ensures.stays

pub returns-in_default-clause-stays : goal.returns-in_default-clause-stays
returns-in_default-clause-stays g c = rw (← c.self.view_is) (calls_same (g.S.Store.view c.self.inside.store))
