-- The mark of a file: its number, as long as a program has the drive in it. So a copy that is made meanwhile is known.
use Rattle.std.specs.Prelude.{◌≡◌, ◌≢◌, ℕ, ◌+◌, ◌-◌, ◌*◌, ◌/◌, ◌%◌, ◌^◌, ◌≤◌, Bool, List, length}
use Rattle.file_drive.specs.Faults.{IsHeadFault}
use Rattle.file_drive.specs.Layout.{word_in}
use Rattle.file_drive.specs.declared.fault.OpenFault.{OpenFault}
use Rattle.file_drive.specs.declared.fault.OpenFault.TheVariants as faults

abbrev pub at_mark : ℕ
at_mark = 80

-- the word after the boot
abbrev pub mark_in : List ℕ → ℕ
mark_in file = word_in file at_mark

-- The mark of a number of 32 bits: these bits, and above them the opposite ones.
abbrev pub mark_of : ℕ → ℕ
mark_of number = (2 ^ 32 - 1 - number) * 2 ^ 32 + number

-- A word that is the mark of some number. A part of a mark is none, nor is 0.
abbrev pub IsMark : ℕ → Type 0
IsMark word = word / 2 ^ 32 + word % 2 ^ 32 ≡ 2 ^ 32 - 1

-- The file has the mark of another number than its own. So it is a copy of one that a program had, or was killed with.
pub record IsCopied (number : ℕ) (file : List ℕ) : Type 0 where
  pub marked : IsMark (mark_in file)
  pub other : mark_in file ≢ mark_of number

-- why a file with this number is not used
abbrev pub IsMarkFault : ℕ → List ℕ → OpenFault → Type 0
IsMarkFault number file faults.Copied = IsCopied number file
IsMarkFault number file fault = IsHeadFault file fault

-- The mark is that of this number, whatever a loss of power leaves, and whatever whoever opens the file later reads.
pub record IsMarked {F : Type 0} (seen : F → List ℕ) (may_leave may_show : F → List ℕ → Type 0) (number : ℕ) (file : F) : Type 0 where
  pub long : at_mark + 8 ≤ length (seen file)
  pub left : (bytes : List ℕ) → may_leave file bytes → mark_in bytes ≡ mark_of number
  pub shown : (bytes : List ℕ) → may_show file bytes → mark_in bytes ≡ mark_of number

-- The file of a drive that this program has, its number, and whether a word was refused.
pub record Claim (F : Type 0) : Type 0 where
  pub file : F
  pub number : ℕ
  pub refused : Bool
