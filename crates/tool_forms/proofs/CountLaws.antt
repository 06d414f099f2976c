-- Zones are counted one by one.
use Rattle.std.proofs.Common.{◌≡◌, ℕ, ◌+◌, ◌<◌, ◌≤◌, suc, Bool, true, false, cond, List, length, drop, get_or, drop-cons, refl, add-one, arith}
use Rattle.std.specs.List.{count_by}
use Rattle.std.proofs.lemmas.List.Sums.{sum_by-cons}
use Rattle.zone_states.specs.Zone.{Zone}
use Rattle.nvme_wire.specs.declared.zone_state.ZoneState.{ZoneState}
use Rattle.tool_forms.specs.Counts.{is_in, one_where}

one-cond : (b : Bool) → one_where b ≡ cond {A = ℕ} b 1 0
one-cond true = refl
one-cond false = refl

-- a truth value counts as one at most
pub one-small : (b : Bool) → one_where b ≤ 1
one-small true = omega arith
one-small false = omega arith

-- one zone more
pub count_step : (state : ZoneState) (i : ℕ) (zones : List Zone) (d : Zone) (found more one all : ℕ) → i < length zones → one ≡ one_where (is_in state (get_or zones i d).state) → more ≡ found + one
    → found + count_by (λ (z : Zone). is_in state z.state) (drop i zones) ≡ all → more + count_by (λ (z : Zone). is_in state z.state) (drop (i + 1) zones) ≡ all
count_step state i zones d found more one all lt is then so_far =
    let z = get_or zones i d in
    let here = rw (drop-cons zones i d) at so_far in
    let counted = one-cond (is_in state z.state) in
    rw add-one (omega (arith, here, is, then, counted, sum_by-cons (λ (y : Zone). cond {A = ℕ} (is_in state y.state) 1 0) z (drop (suc i) zones)))
