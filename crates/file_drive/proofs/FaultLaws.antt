-- What an error says.
use Rattle.std.proofs.Common.{◌≡◌, false, Result, Ok, Err, sym}
use Rattle.std.specs.Result.{IfErr, IsErrAnd, OnOk, is_err}
use Rattle.std.proofs.lemmas.Bool.{false≢true}
use Rattle.file_drive.specs.declared.fault.OpenFault.{OpenFault}
use Rattle.file_drive.specs.declared.fault.OpenFault.TheVariants.{OutOfMemory}

-- an error of one kind is one of a wider kind
pub err-of : {X E : Type 0} (result : Result X E) (narrow wide : E → Type 0) → ((fault : E) → narrow fault → wide fault) → IsErrAnd result narrow → IfErr result wide
err-of (Ok x) narrow wide step is = tt
err-of (Err fault) narrow wide step is = step fault is

-- an error where memory was missing
pub no-memory : {X : Type 0} (result : Result X OpenFault) (wide : OpenFault → Type 0) → wide OutOfMemory → IsErrAnd result (λ fault. fault ≡ OutOfMemory) → IfErr result wide
no-memory result wide there is = err-of result (λ fault. fault ≡ OutOfMemory) wide (λ fault e. rw e there) is

-- what holds on success, where there is no error
pub no-error : {X E : Type 0} (result : Result X E) (P : Type 0) → is_err result ≡ false → OnOk result P → P
no-error (Ok x) P none given = given
no-error (Err fault) P none given = absurd (false≢true (sym none))
