-- The state that a word names.
use Rattle.std.proofs.Common.{◌≡◌, ℕ, Bool, false, List, [], ◌∷◌, Option, Some, None, arith}
use Rattle.std.specs.Prelude.{IfNone}
use Rattle.nvme_wire.specs.declared.zone_state.ZoneState.{ZoneState}
use Rattle.nvme_wire.specs.declared.zone_state.ZoneState.TheVariants.{Closed, Empty, ExplicitlyOpened, Full, ImplicitlyOpened, Offline, ReadOnly}
use Rattle.tool_forms.specs.Named.{NamesNone, is_name_of}

-- a word that names none of all states names no state
pub none-named : (word : List ℕ) (found : Option ZoneState) → IfNone found (NamesNone word (Empty ∷ ImplicitlyOpened ∷ ExplicitlyOpened ∷ Closed ∷ ReadOnly ∷ Full ∷ Offline ∷ []))
    → IfNone found ((state : ZoneState) → is_name_of word state ≡ false)
none-named word (Some state) none = tt
none-named word None none = by
  where
    by : (state : ZoneState) → is_name_of word state ≡ false
    by Empty = none 0 (omega arith)
    by ImplicitlyOpened = none 1 (omega arith)
    by ExplicitlyOpened = none 2 (omega arith)
    by Closed = none 3 (omega arith)
    by ReadOnly = none 4 (omega arith)
    by Full = none 5 (omega arith)
    by Offline = none 6 (omega arith)
