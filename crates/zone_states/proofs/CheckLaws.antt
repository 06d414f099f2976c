-- Checks that are made one after the other.
use Rattle.std.proofs.Common.{◌≡◌, Bool, true, false, List, [], ◌∷◌, ◌++◌, Option, Some, None}
use Rattle.zone_states.specs.Checks.{first_failing}

-- what fails first in front is what fails first of all
pub first_failing-front : {F : Type 0} (front back : List (Bool × F)) (fault : F) → Some fault ≡ first_failing front → Some fault ≡ first_failing (front ++ back)
first_failing-front [] back fault e = cc
first_failing-front ((true, f) ∷ front) back fault e = e
first_failing-front ((false, f) ∷ front) back fault e = first_failing-front front back fault e

-- where nothing fails in front, the rest says what fails
pub first_failing-back : {F : Type 0} (front back : List (Bool × F)) (result : Option F) → None ≡ first_failing front → result ≡ first_failing back → result ≡ first_failing (front ++ back)
first_failing-back [] back result none e = e
first_failing-back ((true, f) ∷ front) back result none e = cc
first_failing-back ((false, f) ∷ front) back result none e = first_failing-back front back result none e
