-- Lines of bytes, and what reading one does to the bytes that a reader has left, where those are known.
use Rattle.std.specs.Prelude.{◌≡◌, ◌≢◌, ℕ, ◌<◌, ◌==◌, Bool, true, false, List, [], ◌++◌, length, All, Option, Some, None, Result, Ok, Err, ⊤}
use Rattle.std.specs.List.{before_first, after_first}
use Rattle.disk_files.specs.declared.line_reader.LineFault.{LineFault}
use Rattle.disk_files.specs.declared.line_reader.LineFault.TheVariants.{Long}
use Rattle.disk_files.specs.declared.line_reader.TheConstants.{LONGEST_LINE}

abbrev pub feed : ℕ
feed = 10

abbrev pub is_feed : ℕ → Bool
is_feed b = b == feed

-- the bytes before the first line feed, all of them if there is none
abbrev pub first_line : List ℕ → List ℕ
first_line bytes = before_first is_feed bytes

-- the bytes after the first line feed, none if there is none
abbrev pub after_line : List ℕ → List ℕ
after_line bytes = after_first is_feed bytes

abbrev pub NoFeed : List ℕ → Type 0
NoFeed bytes = All (λ b. is_feed b ≡ false) bytes

-- the first line of some bytes, and the bytes after it
pub record TakesLine (bytes rest line : List ℕ) : Type 0 where
  pub some : bytes ≢ []
  pub line_is : line ≡ first_line bytes
  pub rest_is : rest ≡ after_line bytes

-- the first bytes of a line, and the bytes after them
pub record TakesFront (bytes rest front : List ℕ) : Type 0 where
  pub no_feed : NoFeed front
  pub text : bytes ≡ front ++ rest

-- what a reader of lines has left, where that is known, and the line that it read last
pub record LinesView : Type 0 where
  pub left : Option (List ℕ)
  pub line : List ℕ

-- a line is read, or none at the end; refused, no more is read than the front of one
abbrev pub ReadsLine : Option (List ℕ) → Option (List ℕ) → List ℕ → Result Bool LineFault → Type 0
ReadsLine None new line result = ⊤
ReadsLine (Some bytes) None line result = ⊥
ReadsLine (Some bytes) (Some rest) line (Ok true) = TakesLine bytes rest line
ReadsLine (Some bytes) (Some rest) line (Ok false) = (bytes ≡ []) × (rest ≡ []) × (line ≡ [])
ReadsLine (Some bytes) (Some rest) line (Err Long) = TakesFront bytes rest line × (LONGEST_LINE < length (first_line bytes))
ReadsLine (Some bytes) (Some rest) line (Err fault) = TakesFront bytes rest line
