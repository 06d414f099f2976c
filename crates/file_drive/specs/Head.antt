-- The head of a drive in a file: that it is one, the shape of the drive, and the boot of the system that served it last.
use Rattle.std.specs.Prelude.{◌≡◌, ℕ, ◌+◌, not, ◌==◌, ◌&&◌, Bool, List, [], ◌∷◌}
use Rattle.sqlite_disk.specs.Disk.{Follows}
use Rattle.file_bytes.specs.Changes.{SameBeside}
use Rattle.zone_states.specs.declared.geometry.Geometry.{Geometry}
use Rattle.file_drive.specs.Layout.{word_in}
use Rattle.file_drive.specs.declared.boot.Boot.{Boot}

-- the eight bytes ZNSDRV01
abbrev pub magic : ℕ
magic = 3544427818074197594

-- the first words of the file
abbrev pub shape_words : Geometry → List ℕ
shape_words g = magic ∷ g.block ∷ g.zones ∷ g.size ∷ g.capacity ∷ g.transfer ∷ g.active ∷ g.open ∷ []

abbrev pub at_boot : ℕ
at_boot = 64

-- the two words after them
abbrev pub boot_in : List ℕ → Boot
boot_in file = record { first = word_in file at_boot; second = word_in file (at_boot + 8) }

abbrev pub is_known : Boot → Bool
is_known boot = not (boot.second == 0)

-- the second of them
abbrev pub at_second : ℕ
at_second = at_boot + 8

-- whether a system in this boot served the file last, and so shows all that was written
abbrev pub is_of_boot : Boot → List ℕ → Bool
is_of_boot boot file = is_known boot && ((boot_in file).first == boot.first && (boot_in file).second == boot.second)

-- After a sync that failed: what may be read is what might be left before, but for the second word of the boot, which is 0.
-- So each system takes the file for one of another boot.
pub record TakesOut (old new : List ℕ → Type 0) : Type 0 where
  pub follows : Follows (SameBeside at_second 8) old new
  pub is_out : (bytes : List ℕ) → new bytes → word_in bytes at_second ≡ 0
