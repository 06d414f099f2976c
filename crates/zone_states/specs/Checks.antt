-- Tests that are made in order, each with what is answered where it is the first that holds.
use Rattle.std.specs.Prelude.{Bool, if◌then◌else◌, List, [], ◌∷◌, Option, Some, None}

abbrev pub first_failing : {F : Type 0} → List (Bool × F) → Option F
first_failing [] = None
first_failing (check ∷ checks) = if check.0 then Some check.1 else first_failing checks
