-- What was found is told, or not.
use Rattle.std.proofs.Common.{◌≡◌, inr, ℕ, List, Result, Ok, Err, sym, subst}
use Rattle.std.specs.Prelude.{IfErr, IsErrAnd, OnOk}
use Rattle.tool_jobs.specs.Telling.{Bytes, IsUnwrittenText, TellsFound, TellsNothing, TellsText}
use Rattle.tool_jobs.specs.declared.fault.ToolFault.{ToolFault}

module _ {A : Type 0} (Is : A → Type 0) (Shows : A → List ℕ → Type 0) (old new : Bytes) (found : A) (is_it : Is found) where
  -- its text is written
  pub told : TellsText (Shows found) old new → TellsFound Is Shows old new
  told tells = record { found = found; is_it = is_it; tells = tells }

  -- if all went well and its text is written, what was found is told
  pub told-ok : {T : Type 0} (result : Result T ToolFault) → OnOk result (TellsText (Shows found) old new) → OnOk result (TellsFound Is Shows old new)
  told-ok (Ok done) tells = told tells
  told-ok (Err fault) tells = tt

  -- its text is not written
  pub untold : (HasNone : ToolFault → Type 0) (fault : ToolFault) → IsUnwrittenText (Shows found) fault old new → TellsNothing HasNone Is Shows fault old new
  untold HasNone fault why = inr (record { found = found; is_it = is_it; untold = why })

  -- if a fault keeps its text unwritten, what was found is not told
  pub untold-err : (HasNone : ToolFault → Type 0) {T : Type 0} (result : Result T ToolFault) → IfErr result (λ fault. IsUnwrittenText (Shows found) fault old new)
      → IfErr result (λ fault. TellsNothing HasNone Is Shows fault old new)
  untold-err HasNone (Ok done) why = tt
  untold-err HasNone (Err fault) why = untold HasNone fault why

-- a fault that is handed on
pub exit : (P : ToolFault → Type 0) {T : Type 0} (result : Result T ToolFault) (fault : ToolFault) → IsErrAnd result (λ e. e ≡ fault) → P fault → IfErr result P
exit P (Ok done) fault is holds = tt
exit P (Err e) fault is holds = subst P (sym is) holds
