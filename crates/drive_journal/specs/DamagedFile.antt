-- A file in which a change is damaged, and it is known that it was not cut off.
use Rattle.std.specs.Prelude.{◌≡◌, ℕ, ◌+◌, List, [], ◌++◌, length}
use Rattle.std.specs.List.{AllByRecursion}
use Rattle.zone_states.specs.declared.geometry.Geometry.{Geometry}
use Rattle.drive_port.specs.Drive.{DriveState}
use Rattle.drive_images.specs.Image.{IsImage}
use Rattle.drive_journal.specs.Change.{Change, IsChange, IsEntry, Sum, data_length, head_bytes, journal_bytes, last_sum}
use Rattle.drive_journal.specs.Change.{start, sum_bytes, sum_over}

-- A change of its whole length, with a wrong sum at its end.
pub record IsMissealed (geometry : Geometry) (sum : Sum) (bytes : List ℕ) : Type 0 where
  pub entry : List ℕ
  pub beside : List ℕ
  pub last : List ℕ
  pub is : IsEntry geometry entry
  pub long : length beside ≡ data_length geometry entry
  pub wide : length last ≡ 8
  pub wrong : last ≡ sum_bytes (sum_over (sum_over sum entry) beside) → ⊥
  pub text : bytes ≡ head_bytes sum entry ++ (beside ++ last)

-- An image, whole changes, one with a wrong sum, and more bytes.
pub record IsDamagedFile (bytes : List ℕ) : Type 0 where
  pub image : List ℕ
  pub saved : DriveState
  pub changes : List Change
  pub damaged : List ℕ
  pub more : List ℕ
  pub is_image : IsImage image saved
  pub each : AllByRecursion (IsChange saved.geometry) changes
  pub is_damaged : IsMissealed saved.geometry (last_sum start changes) damaged
  pub some : more ≡ [] → ⊥
  pub text : bytes ≡ image ++ (journal_bytes start changes ++ (damaged ++ more))

-- where the damaged change begins
abbrev pub damaged_at : {bytes : List ℕ} → IsDamagedFile bytes → ℕ
damaged_at file = length file.image + length (journal_bytes start file.changes)
