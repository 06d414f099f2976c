-- The texts of Identify by which people know a drive.
use Rattle.std.specs.Prelude.{◌≡◌, ℕ, ◌*◌, if◌then◌else◌, List, map}
use Rattle.std.specs.Str.{IsTrimAscii}
use Rattle.std.specs.String.{string_bytes}
use Rattle.zone_states.specs.Geometry.{is_outside}
use Rattle.zone_states.specs.declared.geometry.Geometry.{Geometry}
use Rattle.passthrough.specs.declared.pages.Pages.{Pages}
use Rattle.passthrough.specs.declared.identity.Identity.{Identity}
use Rattle.passthrough.specs.Fields.{serial_number, model_number}

-- a byte as it is shown: itself where it is printable ASCII, and else a question mark
abbrev pub shown_byte : ℕ → ℕ
shown_byte byte = if is_outside 0x20 0x7e byte then 0x3f else byte

-- the text of a field: what is left without the white space at its ends, as it is shown
pub record IsFieldText (field text : List ℕ) : Type 0 where
  pub kept : List ℕ
  pub trimmed : IsTrimAscii field kept
  pub text_is : text ≡ map shown_byte kept

pub record IsIdentityOf (pages : Pages) (g : Geometry) (identity : Identity) : Type 0 where
  pub model : IsFieldText (model_number pages) (string_bytes identity.model)
  pub serial : IsFieldText (serial_number pages) (string_bytes identity.serial)
  pub bytes : identity.bytes ≡ g.zones * g.size * g.block
