-- What a store holds once it was cut.
use Rattle.std.specs.Prelude.{ℕ, List, take, Option, Some, None}

-- the first n bytes, where they are known
abbrev pub front_of : ℕ → Option (List ℕ) → Option (List ℕ)
front_of n None = None
front_of n (Some bytes) = Some (take n bytes)
