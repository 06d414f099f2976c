-- The sealed zone with the fewest live records, of those that are not left out.
use Rattle.std.proofs.Common.{◌≡◌, ℕ, zero, suc, ◌+◌, ◌<◌, ◌≤◌, Bool, true, false, not, ◌&&◌, cond, ltb, List, [], ◌∷◌, length, get_or, slice_get, Option, Some, None, refl, sym, ap, subst, ◌∙◌, inl, inr, arith}
use Rattle.std.specs.List.{list_any}
use Rattle.std.specs.Option.{IfNone, IfSome}
use Rattle.std.proofs.lemmas.Bool.{cases_eq, cases_lt, le-ltb, lt-ltb, ltb-true, and_parts}
use Rattle.logical_map.specs.Live.{live}
use Rattle.live_index.specs.Least.{FindsLeast, IsNamed}
use Rattle.zone_choice.specs.declared.unreadable.Unreadable.{Unreadable}
use Rattle.zone_choice.specs.Roles.{AreMarked, is_sealed_at}
use Rattle.zone_choice.specs.Tables.{AreLive, AreOfOneDrive, FindsLeastSealed, IsLeastBelow, IsLeastSealed, TablesView, can_be_cleaned, has_fewer, is_lost_in, lesser}
use Rattle.zone_choice.proofs.MarkLaws.{sealed-parts}

-- ---- by a walk over all zones

-- below one more, if it is so below one
below-one : (P : ℕ → Type 0) (zone other : ℕ) → other < zone + 1 → (other < zone → P other) → P zone → P other
below-one P zone other lt rest here = elim (cases_lt other zone) as (λ _. P other) [
  | inl less ↦ rest less
  | inr past ↦ (let same : zone ≡ other = omega (arith, lt, past) in subst P same here)
]

never : {X : Type 0} (b : Bool) → b ≡ false → b ≡ true → X
never b not_so so = absurd (let both : false ≡ true = sym not_so ∙ so in cc)

-- the walk finds it among one zone more
pub lesser-finds : (tables : TablesView) (zone : ℕ) (least : Option ℕ) → FindsLeastSealed tables zone least → FindsLeastSealed tables (zone + 1) (lesser tables least zone)
lesser-finds tables zone None found = by (can_be_cleaned tables zone) refl
  where
    by : (b : Bool) → can_be_cleaned tables zone ≡ b → FindsLeastSealed tables (zone + 1) (lesser tables None zone)
    by true e = rw e (record {
      below = omega arith;
      can = e;
      least = λ other lt can. below-one (λ z. can_be_cleaned tables z ≡ true → live tables.map zone ≤ live tables.map z) zone other lt (λ less is. never (can_be_cleaned tables other) (found other less) is) (λ is. omega arith) can;
      lowest = λ other lt can. never (can_be_cleaned tables other) (found other lt) can;
    })
    by false e = rw e (λ other lt. below-one (λ z. can_be_cleaned tables z ≡ false) zone other lt (found other) e)
lesser-finds tables zone (Some z) found = by (can_be_cleaned tables zone) refl (ltb (live tables.map zone) (live tables.map z)) refl
  where
    kept : (can_be_cleaned tables zone ≡ true → live tables.map z ≤ live tables.map zone) → IsLeastBelow tables (zone + 1) z
    kept here = record {
      below = omega (arith, found.below);
      can = found.can;
      least = λ other lt. below-one (λ y. can_be_cleaned tables y ≡ true → live tables.map z ≤ live tables.map y) zone other lt (λ less. found.least other less) here;
      lowest = found.lowest;
    }

    by : (b : Bool) → can_be_cleaned tables zone ≡ b → (c : Bool) → ltb (live tables.map zone) (live tables.map z) ≡ c → FindsLeastSealed tables (zone + 1) (lesser tables (Some z) zone)
    by true e true f =
        let less = ltb-true (live tables.map zone) (live tables.map z) f in
        rw (e, f) (record {
          below = omega arith;
          can = e;
          least = λ other lt. below-one (λ y. can_be_cleaned tables y ≡ true → live tables.map zone ≤ live tables.map y) zone other lt (λ lower can. omega (arith, less, found.least other lower can)) (λ can. omega arith);
          lowest = λ other lower can. omega (arith, less, found.least other lower can);
        })
    by true e false f =
        let more : live tables.map z ≤ live tables.map zone = elim (cases_lt (live tables.map zone) (live tables.map z)) as (λ _. live tables.map z ≤ live tables.map zone) [
          | inl lt ↦ never (ltb (live tables.map zone) (live tables.map z)) f (lt-ltb (live tables.map zone) (live tables.map z) lt)
          | inr le ↦ le
        ] in
        rw (e, f) (kept (λ is. more))
    by false e c f = rw e (kept (λ is. never (can_be_cleaned tables zone) e is))

-- ---- of all zones

-- a zone that can be cleaned is one of the zones
pub cleaned-below : (tables : TablesView) (zone : ℕ) → AreOfOneDrive tables.map tables.roles → can_be_cleaned tables zone ≡ true → zone < tables.map.zones
cleaned-below tables zone one can =
    let sealed = (and_parts (is_sealed_at tables.roles zone) (not (list_any (is_lost_in tables.map zone) tables.unreadable)) can).0 in
    omega (arith, (sealed-parts tables.roles zone sealed).in_range, one)

pub finds-some : (tables : TablesView) (least : Option ℕ) → AreOfOneDrive tables.map tables.roles → FindsLeastSealed tables tables.map.zones least → IfSome least (IsLeastSealed tables)
finds-some tables None one found = tt
finds-some tables (Some z) one found = record { can = found.can; least = λ other can. found.least other (cleaned-below tables other one can) can; lowest = found.lowest }

pub finds-none : (tables : TablesView) (least : Option ℕ) → AreOfOneDrive tables.map tables.roles → FindsLeastSealed tables tables.map.zones least → IfNone least ((zone : ℕ) → can_be_cleaned tables zone ≡ false)
finds-none tables (Some z) one found = tt
finds-none tables None one found = λ zone. by zone (can_be_cleaned tables zone) refl
  where
    by : (zone : ℕ) (b : Bool) → can_be_cleaned tables zone ≡ b → can_be_cleaned tables zone ≡ false
    by zone false e = e
    by zone true e = found zone (cleaned-below tables zone one e)

-- ---- where all data could be read

pub no-items : {X : Type 0} (xs : List X) → length xs ≡ 0 → xs ≡ []
no-items [] none = refl
no-items (x ∷ xs) none = absurd (omega (arith, none))

marked-named : (marks : List Bool) (k : ℕ) → get_or marks k false ≡ true → slice_get marks k ≡ Some true
marked-named [] k is = absurd (cc)
marked-named (b ∷ bs) zero is = ap Some is
marked-named (b ∷ bs) (suc k) is = marked-named bs k is

named-marked : (marks : List Bool) (k : ℕ) → slice_get marks k ≡ Some true → get_or marks k false ≡ true
named-marked [] k is = absurd (cc)
named-marked (b ∷ bs) zero is = cc
named-marked (b ∷ bs) (suc k) is = named-marked bs k is

can-sealed : (tables : TablesView) (zone : ℕ) → tables.unreadable ≡ [] → can_be_cleaned tables zone ≡ is_sealed_at tables.roles zone
can-sealed tables zone none = ap (λ (lost : List Unreadable). is_sealed_at tables.roles zone && not (list_any (is_lost_in tables.map zone) lost)) none ∙ all (is_sealed_at tables.roles zone)
  where
    all : (b : Bool) → (b && true) ≡ b
    all true = refl
    all false = refl

pub least-all : (tables : TablesView) (marks : List Bool) (counts : List ℕ) (least : Option ℕ) → tables.unreadable ≡ [] → AreOfOneDrive tables.map tables.roles → AreMarked tables.roles marks → AreLive tables.map counts
    → FindsLeast counts marks (length marks) least → FindsLeastSealed tables tables.map.zones least
least-all tables marks counts None none one are live_are found = λ zone lt. by zone lt (can_be_cleaned tables zone) refl
  where
    by : (zone : ℕ) → zone < tables.map.zones → (b : Bool) → can_be_cleaned tables zone ≡ b → can_be_cleaned tables zone ≡ false
    by zone lt false e = e
    by zone lt true e = absurd (found zone (omega (arith, lt, are.long, one)) (marked-named marks zone (are.each zone ∙ sym (can-sealed tables zone none) ∙ e)))
least-all tables marks counts (Some z) none one are live_are found =
    let named : (k : ℕ) → can_be_cleaned tables k ≡ true → IsNamed marks k = λ k can. marked-named marks k (are.each k ∙ sym (can-sealed tables k none) ∙ can) in
    let below : z < tables.map.zones = omega (arith, found.below, are.long, one) in
    record {
      below = below;
      can = can-sealed tables z none ∙ sym (are.each z) ∙ named-marked marks z found.is_named;
      least = λ other lt can. omega (arith, live_are.each z below, live_are.each other lt, found.least other (omega (arith, lt, are.long, one)) (named other can));
      lowest = λ other lower can. omega (arith, live_are.each z below, live_are.each other (omega (arith, lower, below)), found.lowest other lower (named other can));
    }
