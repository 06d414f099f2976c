-- What a disk left is found again by a mount of its drive.
use Rattle.std.proofs.Common.{◌≡◌, List, [], ◌∷◌, refl, ap, ◌∙◌}
use Rattle.drive_port.specs.Run.{restarted}
use Rattle.drive_port.proofs.ClosingLaws.{contents-restarted}
use Rattle.drive_array.proofs.MountLaws.{restart_mounts}
use Rattle.remount.specs.Mount.{IsToMount}
use Rattle.remount.proofs.RefusalLaws.{only-halts}
use Rattle.zone_translator.specs.Laws.{AllSteps, CallsAreSteps, CalledCan, CanMountAgain, FlatStep, LeftIsFound, ListIsFound, MountedCan, RemountedCan, Step, Steps, call, remount}
use Rattle.zone_translator.specs.View.{DiskView, flat_of, given_size}

-- once a disk is mounted, its drive can be mounted again
pub mounted-can : MountedCan
mounted-can old n disk m = record {
  geometry = m.range;
  reserve = rw (m.kept.geometry, m.mounts.given) m.mounts.can.reserve;
  mountable = m.mountable;
}

-- if the drive can be mounted again, it still can after a call
pub called-can : CalledCan
called-can old new can kept = record { geometry = rw kept.geometry can.geometry; reserve = rw (kept.geometry, kept.given) can.reserve; mountable = kept.mountable }

-- if the drive can be mounted again, it still can after a remount, done or refused
pub remounted-can : RemountedCan
remounted-can old new result can r = record { geometry = rw r.kept.geometry can.geometry; reserve = rw (r.kept.geometry, r.given) can.reserve; mountable = r.mountable }

-- after a restart the drive can be mounted, and a mount finds the array that was left
pub left-is-found : LeftIsFound
left-is-found left can =
    let again : IsToMount (restarted left.drive) (given_size left) =
    record { geometry = can.geometry; reserve = can.reserve; mountable = restart_mounts left.drive (given_size left) can.mountable } in
    record {
      can = again;
      found = λ disk m. m.array ∙ rw (contents-restarted left.drive.zones) refl;
      halts = λ fault back gives. only-halts (restarted left.drive) back (given_size left) fault again gives.why;
    }

-- ---- lists of calls

-- each call is a step
pub calls-are-steps : CallsAreSteps
calls-are-steps = record {
  calls = λ old new asked result a. record { flat = a.flat; keeps = (a.kept, a.durable, a.cause) };
  reads = λ old new first n result bytes a. (a.flat.shown, a.flat.bytes_are, record { flat = a.flat.flat; keeps = (a.kept, a.durable, a.cause) });
  remounts = λ old new result r. record { flat = r.flat; keeps = r };
}

-- after a step the drive can still be mounted, and no command was refused
pub step-can : (old new : DiskView) (step : Step) → CanMountAgain old → Steps old step new → CanMountAgain new
step-can old new (call asked answer) can s = called-can old new can s.keeps.0
step-can old new (remount result) can s = remounted-can old new result can s.keeps

step-refuses-none : (old new : DiskView) (step : Step) → Steps old step new → new.drive.refused ≡ old.drive.refused
step-refuses-none old new (call asked answer) s = s.keeps.0.refused
step-refuses-none old new (remount result) s = s.keeps.kept.refused

all-flat : (steps : List Step) (old new : DiskView) → AllSteps Steps old steps new → AllSteps FlatStep (flat_of old) steps (flat_of new)
all-flat [] old new same = ap flat_of same
all-flat (step ∷ steps) old new all = (flat_of all.0, all.1.flat, all-flat steps all.0 new all.2)

all-refuse-none : (steps : List Step) (old new : DiskView) → AllSteps Steps old steps new → new.drive.refused ≡ old.drive.refused
all-refuse-none [] old new same = ap (λ (d : DiskView). d.drive.refused) same
all-refuse-none (step ∷ steps) old new all = all-refuse-none steps all.0 new all.2 ∙ step-refuses-none old all.0 step all.1

all-can : (steps : List Step) (old new : DiskView) → CanMountAgain old → AllSteps Steps old steps new → CanMountAgain new
all-can [] old new can same = rw same can
all-can (step ∷ steps) old new can all = all-can steps all.0 new (step-can old all.0 step can all.1) all.2

-- what a list of them left is found again
pub list-is-found : ListIsFound
list-is-found old n first last steps mounted all = record {
  flat = all-flat steps first last all;
  refused = all-refuse-none steps first last all ∙ mounted.kept.refused;
  found = left-is-found last (all-can steps first last (mounted-can old n first mounted) all);
}
