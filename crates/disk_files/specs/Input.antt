-- What is taken of a reader, where the bytes that it has left are known.
use Rattle.std.specs.Prelude.{◌≡◌, ℕ, ◌<◌, List, length, Option}
use Rattle.std.specs.Io.KnownBytes.{Consumes}

-- the bytes that a reader has left, or a writer or a file holds, where they are known
abbrev pub Known : Type 0
Known = Option (List ℕ)

-- known bytes lose n at their front
pub record Drops (old new : Known) (n : ℕ) : Type 0 where
  pub bytes : List ℕ
  pub count : length bytes ≡ n
  pub consumes : Consumes old new bytes

-- known bytes lose some at their front, fewer than n
pub record DropsFewer (old new : Known) (n : ℕ) : Type 0 where
  pub bytes : List ℕ
  pub fewer : length bytes < n
  pub consumes : Consumes old new bytes
