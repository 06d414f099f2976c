-- A fault that is told after some bytes were read, told of all the bytes.
use Rattle.std.proofs.Common.{◌≡◌, ℕ, List, ◌++◌, Option, Some, None, refl, sym, subst}
use Rattle.std.specs.Prelude.{IfErr, IfSome, IsErrAnd, Ok, Err, Result}
use Rattle.std.specs.Io.KnownBytes.{Consumes}
use Rattle.drive_images.specs.Reading.{TellsFirst}
use Rattle.drive_images.specs.declared.fault.ImageFault.{ImageFault}
use Rattle.drive_images.specs.declared.fault.ImageFault.TheVariants as faults

-- what follows from a first fault is told
pub tells_so : (first second : Option ImageFault) (fault : ImageFault) → (first ≡ Some fault → second ≡ Some fault) → TellsFirst first fault → TellsFirst second fault
tells_so first second faults.Input f t = tt
tells_so first second faults.OutOfMemory f t = tt
tells_so first second faults.Magic f t = f t
tells_so first second faults.Geometry f t = f t
tells_so first second faults.State f t = f t
tells_so first second faults.Written f t = f t
tells_so first second faults.RestNotZero f t = f t
tells_so first second faults.Limits f t = f t
tells_so first second faults.Short f t = f t
tells_so first second faults.Long f t = f t

-- the first fault is told
pub tells_first : (first : Option ImageFault) (fault : ImageFault) → first ≡ Some fault → TellsFirst first fault
tells_first first faults.Input e = tt
tells_first first faults.OutOfMemory e = tt
tells_first first faults.Magic e = e
tells_first first faults.Geometry e = e
tells_first first faults.State e = e
tells_first first faults.Written e = e
tells_first first faults.RestNotZero e = e
tells_first first faults.Limits e = e
tells_first first faults.Short e = e
tells_first first faults.Long e = e

-- where bytes were read, what holds of those that are left says something of all
pub after_front : (old mid : Option (List ℕ)) (front : List ℕ) (P Q : List ℕ → Type 0) → Consumes old mid front → ((rest : List ℕ) → P rest → Q (front ++ rest)) → IfSome mid P → IfSome old Q
after_front None mid front P Q text f p = tt
after_front (Some xs) None front P Q text f p = absurd text
after_front (Some xs) (Some ys) front P Q text f p = subst Q (sym text) (f ys p)

-- whatever follows what was read
pub after_any : (old mid : Option (List ℕ)) (front : List ℕ) (Q : List ℕ → Type 0) → Consumes old mid front → ((rest : List ℕ) → Q (front ++ rest)) → IfSome old Q
after_any None mid front Q text f = tt
after_any (Some xs) None front Q text f = absurd text
after_any (Some xs) (Some ys) front Q text f = subst Q (sym text) (f ys)

-- what follows of known bytes
pub some_so : (old : Option (List ℕ)) (P Q : List ℕ → Type 0) → ((bytes : List ℕ) → P bytes → Q bytes) → IfSome old P → IfSome old Q
some_so None P Q f p = tt
some_so (Some xs) P Q f p = f xs p

-- a fault that is handed on
pub if_fault : {T : Type 0} (r : Result T ImageFault) (fault : ImageFault) (P : ImageFault → Type 0) → IsErrAnd r (λ f. f ≡ fault) → P fault → IfErr r P
if_fault (Ok x) fault P is p = tt
if_fault (Err f) fault P is p = subst P (sym is) p
