-- The zones that a flush looks at, since a Reset took blocks of them.
use Rattle.std.specs.Prelude.{◌⊎◌, ℕ, IsTrue, nat_eq}
use Rattle.std.specs.HashSet.{contains}
use Rattle.file_drive.specs.declared.freed.Freed.{Freed}

-- a zone is noted by itself, or with all
abbrev pub IsNoted : Freed → ℕ → Type 0
IsNoted freed index = IsTrue freed.all ⊎ IsTrue (contains nat_eq freed.zones index)
