-- Bytes that are read ahead of a line, and taken part by part.
use Rattle.std.specs.Prelude.{◌≡◌, ◌≢◌, ℕ, ◌<◌, ◌≤◌, Bool, List, [], ◌∷◌, ◌++◌, length, Option, Result, Ok, Err}
use Rattle.std.specs.Io.KnownBytes.{Consumes, IsAtEnd, Keeps}
use Rattle.disk_files.specs.declared.ahead.Part.{Part}
use Rattle.disk_files.specs.declared.ahead.Part.TheVariants.{Front, Line, End}
use Rattle.disk_files.specs.declared.line_reader.LineFault.{LineFault}
use Rattle.disk_files.specs.declared.line_reader.LineFault.TheVariants.{Long}
use Rattle.disk_files.specs.Line.{NoFeed, feed}

-- what was taken of a line, whether the line continues after that, and the bytes that are read ahead of it
pub record AheadView : Type 0 where
  pub line : List ℕ
  pub is_open : Bool
  pub bytes : List ℕ

-- the bytes read are those ahead, none only at the end; refused, nothing is read
abbrev pub Refills : Option (List ℕ) → Option (List ℕ) → Result (Unit {0}) LineFault → List ℕ → Type 0
Refills old new (Ok done) ahead = Consumes old new ahead × (ahead ≡ [] → IsAtEnd new)
Refills old new (Err fault) ahead = Keeps old new × (ahead ≡ []) × (fault ≢ Long)

-- bytes of a line are put at the end of a text
pub record PutsAfter (before after bytes : List ℕ) : Type 0 where
  pub text : after ≡ before ++ bytes
  pub no_feed : NoFeed bytes

-- Bytes of a line go from those that are left to the end of a text, at most `room` of them with their line feed.
-- Nothing is taken only at the end, and by a fault.
abbrev pub ReadsPart : Option (List ℕ) → Option (List ℕ) → ℕ → List ℕ → List ℕ → Result Part LineFault → Type 0
ReadsPart old new room before after (Ok Front) = (bytes : List ℕ) × PutsAfter before after bytes × Consumes old new bytes × (bytes ≢ []) × (length bytes ≤ room)
ReadsPart old new room before after (Ok Line) = (bytes : List ℕ) × PutsAfter before after bytes × Consumes old new (bytes ++ feed ∷ []) × (length bytes < room)
ReadsPart old new room before after (Ok End) = Keeps old new × IsAtEnd new × (after ≡ before)
ReadsPart old new room before after (Err fault) = Keeps old new × (after ≡ before) × (fault ≢ Long)
