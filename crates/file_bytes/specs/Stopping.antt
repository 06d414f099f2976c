-- A file that does a number of changes of another, and then fails.
use Rattle.std.specs.Prelude.{◌≡◌, ◌&&◌, ◌||◌, Bool, not}
use Rattle.file_bytes.specs.declared.stopping.StoppingFile.{StoppingFile}

-- a write leaves it as usable as it was
abbrev pub StaysUsable : {F : Type 0} → (F → Bool) → StoppingFile F → StoppingFile F → Type 0
StaysUsable is_usable old new = (is_usable new.inner && not new.refused) ≡ (is_usable old.inner && not old.refused)

-- words can be written as before
abbrev pub StaysStuck : {F : Type 0} → (F → Bool) → StoppingFile F → StoppingFile F → Type 0
StaysStuck is_stuck old new = (is_stuck new.inner || new.stuck) ≡ (is_stuck old.inner || old.stuck)
