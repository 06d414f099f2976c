-- A new file that takes the place of another: where it is made, and its mode.
use Rattle.std.specs.Prelude.{◌≡◌, ℕ, ◌+◌, ◌*◌, ◌/◌, ◌%◌, ◌==◌, if◌then◌else◌, Bool, List, take, Option, Some, None, codes}
use Rattle.std.specs.Str.Pattern.{RFindsChar}

-- the folder of a path, by where its last slash is: all before that, or the root where nothing is before it; without a slash the folder where the program runs
abbrev pub folder_at : Option (ℕ × ℕ) → List ℕ → List ℕ
folder_at None path = codes "."
folder_at (Some place) path = if place.0 == 0 then codes "/" else take place.0 path

pub record IsFolder (path folder : List ℕ) : Type 0 where
  pub slash : Option (ℕ × ℕ)
  pub is_last : RFindsChar 47 path slash
  pub folder_is : folder ≡ folder_at slash path

-- The mode of a new file by the old one's, whose last three octal digits say what the owner, the group and all others may do. Where the new file has
-- another group, that may do what all may do.
abbrev pub mode_of : ℕ → Bool → ℕ
mode_of old is_group_kept = old / 64 % 8 * 64 + (if is_group_kept then old / 8 % 8 else old % 8) * 8 + old % 8
