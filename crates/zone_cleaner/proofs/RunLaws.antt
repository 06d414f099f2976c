-- Turns that are taken one after the other.
use Rattle.std.proofs.Common.{◌≡◌, ◌⊎◌, ℕ, zero, suc, Option, Some, None, Result, Ok, Err, refl, subst, inl, inr, arith}
use Rattle.zone_choice.specs.Agreement.{MountedView}
use Rattle.zone_cleaner.specs.declared.fault.CleanFault.{CleanFault}
use Rattle.zone_cleaner.specs.declared.fault.CleanFault.TheVariants as faults
use Rattle.zone_cleaner.specs.Clean.{CleanView}
use Rattle.zone_cleaner.specs.Start.{AreMoreTurns, AreTurns, IsOn, CleanLeaves, EndsBy, IsPassed, SameButLost, TurnLeaves}

-- turns so far
pub record TakesTurns (before : MountedView) (old : Option CleanView) (after : MountedView) (new : Option CleanView) : Type 0 where
  pub turns : ℕ
  pub done : AreTurns turns before old after new

-- no turn was taken yet
pub takes-none : (disk : MountedView) (clean : Option CleanView) → TakesTurns disk clean disk clean
takes-none disk clean = record { turns = 0; done = (refl, refl) }

-- more turns after more
more-more : (n m : ℕ) (a b c : MountedView) (old middle new : Option CleanView) → AreMoreTurns n a old b middle → AreMoreTurns m b middle c new → (k : ℕ) × AreMoreTurns k a old c new
more-more zero m a b c old middle new done more = (m, subst (λ (d : MountedView). AreMoreTurns m d old c new) done.0 (subst (λ (x : Option CleanView). AreMoreTurns m b x c new) done.1 more))
more-more (suc n) m a b c old middle new done more =
    let rest = more-more n m done.1.2.0 b c done.1.2.1 middle new done.1.2.3 more in
    (suc rest.0, (done.0, (done.1.0, done.1.1, (done.1.2.0, done.1.2.1, done.1.2.2, rest.1))))

-- turns of a clean that runs
all-more : (n : ℕ) (a b : MountedView) (old new : Option CleanView) → IsOn a old → AreTurns n a old b new → AreMoreTurns n a old b new
all-more zero a b old new on done = done
all-more (suc n) a b old new on done = (on, done)

more-turns : (n m : ℕ) (a b c : MountedView) (old middle new : Option CleanView) → (n ≡ 0) ⊎ IsOn b middle → AreTurns n a old b middle → AreTurns m b middle c new → TakesTurns a old c new
more-turns zero m a b c old middle new on done more = record { turns = m; done = subst (λ (d : MountedView). AreTurns m d old c new) done.0 (subst (λ (x : Option CleanView). AreTurns m b x c new) done.1 more) }
more-turns (suc n) m a b c old middle new on done more =
    let here : IsOn b middle = elim on as (λ _. IsOn b middle) [ inl none ↦ absurd (omega (arith, none)) | inr is ↦ is ] in
    let rest = more-more n m done.2.0 b c done.2.1 middle new done.2.3 (all-more m b c middle new here more) in
    record { turns = suc rest.0; done = (done.0, done.1, (done.2.0, done.2.1, done.2.2, rest.1)) }

-- and more of them
pub takes-join : (a b c : MountedView) (old middle new : Option CleanView) → (some : TakesTurns a old b middle) → (some.turns ≡ 0) ⊎ IsOn b middle → TakesTurns b middle c new → TakesTurns a old c new
takes-join a b c old middle new some on more = more-turns some.turns more.turns a b c old middle new on some.done more.done

-- one turn
pub takes-one : (a b : MountedView) (old new : Option CleanView) (result : Result (Unit {0}) CleanFault) → IsPassed result → TurnLeaves a old result b new → TakesTurns a old b new
takes-one a b old new result passed leaves = record { turns = 1; done = (result, passed, (b, new, leaves, (refl, refl))) }

-- ---- by the answer

pub leaves-done : (a b : MountedView) (old new : Option CleanView) → TakesTurns a old b new → CleanLeaves a old (Ok tt) b new
leaves-done a b old new takes = (takes.turns, takes.done)

pub done-takes : (a b : MountedView) (old new : Option CleanView) → CleanLeaves a old (Ok tt) b new → TakesTurns a old b new
done-takes a b old new leaves = record { turns = leaves.0; done = leaves.1 }

ends-by : (fault : CleanFault) (a b : MountedView) (old new : Option CleanView) → TurnLeaves a old (Err fault) b new → EndsBy fault a old b new
ends-by faults.OutOfMemory a b old new leaves = leaves
ends-by faults.Failed a b old new leaves = inl leaves
ends-by faults.Stopped a b old new leaves = leaves
ends-by faults.Spent a b old new leaves = leaves
ends-by faults.Damaged a b old new leaves = leaves

-- the last turn was refused
pub leaves-refused : (a b c : MountedView) (old middle new : Option CleanView) (fault : CleanFault) → TakesTurns a old b middle → TurnLeaves b middle (Err fault) c new → CleanLeaves a old (Err fault) c new
leaves-refused a b c old middle new fault takes leaves = (takes.turns, b, middle, takes.done, ends-by fault b c middle new leaves)

-- no turn more was taken
pub leaves-failed : (a b c : MountedView) (old middle new : Option CleanView) → TakesTurns a old b middle → SameButLost b c → new ≡ middle → CleanLeaves a old (Err faults.Failed) c new
leaves-failed a b c old middle new takes same is = (takes.turns, b, middle, takes.done, inr (same, is))

-- turns before
pub leaves-after : (a b c : MountedView) (old middle new : Option CleanView) (fault : CleanFault) → (takes : TakesTurns a old b middle) → (takes.turns ≡ 0) ⊎ IsOn b middle → CleanLeaves b middle (Err fault) c new → CleanLeaves a old (Err fault) c new
leaves-after a b c old middle new fault takes on leaves =
    let all = more-turns takes.turns leaves.0 a b leaves.1 old middle leaves.2 on takes.done leaves.3 in
    (all.turns, leaves.1, leaves.2, all.done, leaves.4)
