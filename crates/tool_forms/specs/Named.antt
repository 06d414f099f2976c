-- The state that a word names.
use Rattle.std.specs.Prelude.{◌≡◌, ◌<◌, ℕ, Bool, false, List, length, slice_index_or}
use Rattle.std.specs.Str.{str_eq_ignore_ascii_case}
use Rattle.nvme_wire.specs.declared.zone_state.ZoneState.{ZoneState}
use Rattle.nvme_wire.specs.declared.zone_state.ZoneState.TheVariants.{Empty}
use Rattle.zone_report.specs.ReportText.{state_text}

-- whether the word is the name of the state, in any case of its letters
abbrev pub is_name_of : List ℕ → ZoneState → Bool
is_name_of word state = str_eq_ignore_ascii_case (state_text state) word

-- it names none of these
abbrev pub NamesNone : List ℕ → List ZoneState → Type 0
NamesNone word states = (k : ℕ) → k < length states → is_name_of word (slice_index_or states k Empty) ≡ false
