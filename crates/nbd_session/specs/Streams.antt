-- The bytes that a session reads and writes, and how a buffer is filled.
use Rattle.std.specs.Prelude.{◌≡◌, ℕ, Bool, true, false, List, length, Option, Result, Ok, Err}
use Rattle.std.specs.Io.KnownBytes.{Consumes, IsAtEnd, Keeps}
use Rattle.disk_files.specs.Input.{DropsFewer}
use Rattle.nbd_session.specs.declared.fault.SessionFault.{SessionFault}
use Rattle.nbd_session.specs.declared.fault.SessionFault.TheVariants.{Input}

-- the bytes that a reader has left before and after, and those that a writer holds before and after, where they are
-- known
pub record Streams : Type 0 where
  pub input : Option (List ℕ)
  pub rest : Option (List ℕ)
  pub written : Option (List ℕ)
  pub contents : Option (List ℕ)

abbrev pub streams : Option (List ℕ) → Option (List ℕ) → Option (List ℕ) → Option (List ℕ) → Streams
streams input rest written contents = record { input = input; rest = rest; written = written; contents = contents }

-- a buffer is filled, or nothing was left; after a fault fewer bytes are read
abbrev pub FillsBuffer : Option (List ℕ) → Option (List ℕ) → List ℕ → Result Bool SessionFault → Type 0
FillsBuffer old new buffer (Ok true) = Consumes old new buffer
FillsBuffer old new buffer (Ok false) = Keeps old new × IsAtEnd new
FillsBuffer old new buffer (Err fault) = (fault ≡ Input) × DropsFewer old new (length buffer)
