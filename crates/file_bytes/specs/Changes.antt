-- What a change of a range does to a file, whose length never changes.
use Rattle.std.specs.Prelude.{◌≡◌, ℕ, ◌+◌, ◌<◌, ◌≤◌, List, length, slice_index}

-- the range of n bytes from an offset on may hold any bytes, and the others are the same
pub record SameBeside (at n : ℕ) (old new : List ℕ) : Type 0 where
  pub long : length new ≡ length old
  pub below : (i : ℕ) → i < at → slice_index new i ≡ slice_index old i
  pub above : (i : ℕ) → at + n ≤ i → slice_index new i ≡ slice_index old i
