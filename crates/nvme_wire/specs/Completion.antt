-- The 16 bytes of a completion queue entry (Base Specification 2.0, section 3.3.3.2).
use Rattle.std.specs.Prelude.{ℕ, ◌<◌, ◌^◌, List, ◌++◌, replicate}
use Rattle.byteorder.specs.Endian.{little_from, little_bytes}
use Rattle.nvme_wire.specs.declared.completion.Completion.{Completion}
use Rattle.nvme_wire.specs.Status.{status_code}

-- what can be encoded
abbrev pub IsEncodable : Completion → Type 0
IsEncodable c = (c.result < 2 ^ 64) × (c.id < 2 ^ 16)

-- the encoding: the result, four zero bytes, the command's identifier, the status
abbrev pub completion_bytes : Completion → List ℕ
completion_bytes c = little_bytes 8 c.result ++ replicate 4 0 ++ little_bytes 2 c.id ++ little_bytes 2 (status_code c.status)

-- the fields, by their bytes
abbrev pub value_in : List ℕ → ℕ
value_in bytes = little_from 0 8 bytes

abbrev pub id_in : List ℕ → ℕ
id_in bytes = little_from 12 2 bytes

abbrev pub code_in : List ℕ → ℕ
code_in bytes = little_from 14 2 bytes
