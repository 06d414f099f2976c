-- Blocks that are written above a disk, and are not yet on it.
use Rattle.std.specs.Prelude.{◌≡◌, ◌⊎◌, ℕ, suc, ◌+◌, ◌<◌, ◌≤◌, List, [], ◌∷◌, set}
use Rattle.std.specs.List.{AllByRecursion}

pub record Pending : Type 0 where
  pub place : ℕ
  pub block : List ℕ

-- the blocks of a write from a given one on, each for itself
abbrev pub pieces : ℕ → List (List ℕ) → List Pending
pieces first [] = []
pieces first (b ∷ bs) = record { place = first; block = b } ∷ pieces (suc first) bs

-- an array on which these blocks are written, the oldest first
abbrev pub overlay : List Pending → List (List ℕ) → List (List ℕ)
overlay [] array = array
overlay (w ∷ ws) array = overlay ws (set array w.place w.block)

-- an array on which some of these blocks are written, in order: none, any or all of them
abbrev pub HoldsSome : List Pending → List (List ℕ) → List (List ℕ) → Type 0
HoldsSome [] old new = new ≡ old
HoldsSome (w ∷ ws) old new = HoldsSome ws old new ⊎ HoldsSome ws (set old w.place w.block) new

-- none of these is one of n blocks from a given one on
abbrev pub AreApart : ℕ → ℕ → List Pending → Type 0
AreApart first n pending = AllByRecursion (λ (w : Pending). (w.place < first) ⊎ (first + n ≤ w.place)) pending
