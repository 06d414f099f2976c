-- What a tool writes of what it found.
use Rattle.std.specs.Prelude.{◌≡◌, ◌⊎◌, ℕ, List, Option}
use Rattle.std.specs.Io.KnownBytes.{Appends}
use Rattle.disk_files.specs.Output.{AppendsFront}
use Rattle.job_drives.specs.Left.{IsUnread}
use Rattle.tool_jobs.specs.declared.fault.ToolFault.{ToolFault}
use Rattle.tool_jobs.specs.declared.fault.ToolFault.TheVariants.{File, Memory, Output}

-- the bytes of a file or of an output, where they are known
abbrev pub Bytes : Type 0
Bytes = Option (List ℕ)

-- One of these texts is written, and nothing else.
abbrev pub TellsText : (List ℕ → Type 0) → Bytes → Bytes → Type 0
TellsText IsText old new = (text : List ℕ) × IsText text × Appends old new text

-- Why none of these texts is written: the writer failed within one, or memory ran out before it. Nothing else is written.
abbrev pub IsUnwrittenText : (List ℕ → Type 0) → ToolFault → Bytes → Bytes → Type 0
IsUnwrittenText IsText Output old new = (text : List ℕ) × IsText text × AppendsFront old new text
IsUnwrittenText IsText Memory old new = new ≡ old
IsUnwrittenText IsText fault old new = ⊥

-- A value that is this was found. A text that shows it is written, and nothing else.
pub record TellsFound {A : Type 0} (Is : A → Type 0) (Shows : A → List ℕ → Type 0) (old new : Bytes) : Type 0 where
  pub found : A
  pub is_it : Is found
  pub tells : TellsText (Shows found) old new

-- A value that is this was found. No text of it is written to its end.
pub record FailsToTell {A : Type 0} (Is : A → Type 0) (Shows : A → List ℕ → Type 0) (fault : ToolFault) (old new : Bytes) : Type 0 where
  pub found : A
  pub is_it : Is found
  pub untold : IsUnwrittenText (Shows found) fault old new

-- There is no such value, by this fault, and nothing is written; or no text of it is written to its end.
abbrev pub TellsNothing : {A : Type 0} → (ToolFault → Type 0) → (A → Type 0) → (A → List ℕ → Type 0) → ToolFault → Bytes → Bytes → Type 0
TellsNothing HasNone Is Shows fault old new = (HasNone fault × (new ≡ old)) ⊎ FailsToTell Is Shows fault old new

-- the bytes of a file hold no drive, by their first fault
abbrev pub HoldsNone : Bytes → ToolFault → Type 0
HoldsNone file (File fault) = IsUnread file fault
HoldsNone file fault = ⊥
