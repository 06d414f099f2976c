-- The disk that is mounted on a drive, and why there is none.
use Rattle.std.proofs.Common.{◌≡◌, ◌≢◌, ◌⊎◌, inl, inr, ℕ, length, Bool, true, false, Option, Some, None, Result, Ok, Err, refl, sym, ap, ◌∙◌}
use Rattle.std.specs.Prelude.{IfErr, IfOk, is_some, not}
use Rattle.drive_port.specs.Drive.{DriveState}
use Rattle.drive_array.specs.Mountable.{IsMountable}
use Rattle.drive_array.specs.Records.{told}
use Rattle.drive_array.specs.Sizes.{encoded_size, greatest, size_or}
use Rattle.drive_array.specs.ZoneLogs.{drive_logs, encoded, encoded_array}
use Rattle.drive_array.proofs.WholeLaws.{length-encoded}
use Rattle.drive_survey.specs.declared.fault.MountFault.{MountFault}
use Rattle.drive_survey.specs.declared.fault.MountFault.TheVariants as mounts
use Rattle.drive_survey.specs.Reported.{KeepsZones}
use Rattle.drive_survey.specs.Scan.{FailsBy, IsInterruption}
use Rattle.drive_survey.specs.Survey.{SurveyFails}
use Rattle.drive_survey.proofs.NextLaws.{fails-more}
use Rattle.drive_survey.proofs.ReadLaws.{keeps-both}
use Rattle.remount.specs.Kept.{KeepsMountable}
use Rattle.zone_states.specs.declared.geometry.Geometry.{Geometry}
use Rattle.zone_choice.specs.Sane.{KeepsShape}
use Rattle.remount.specs.Mount.{IsToMount, MountFails}
use Rattle.remount.proofs.CallLaws.{mountable-both, shut-mountable, zones-shut}
use Rattle.remount.proofs.RefusalLaws.{only-halts}
use Rattle.zone_translator.specs.Answers.{IsMounted}
use Rattle.zone_translator.specs.Mount.{GivesBack}
use Rattle.zone_translator.specs.View.{DiskView, disk_size, given_size, size_on}
use Rattle.job_drives.specs.Mounted.{IsFoundAgain, IsLostAgain, IsNotFound, IsNotServed, IsOneBlock, IsRefusedAgain, IsServed, SaysNoSize, TellsFault, TellsNoSize, TellsOutOfRange, TellsRoom}
use Rattle.job_drives.proofs.HeaderLaws.{kept-logs}
use Rattle.job_drives.specs.declared.mount_fault.NoDiskFault.{NoDiskFault}
use Rattle.job_drives.specs.declared.mount_fault.NoDiskFault.TheVariants.{Mount, NoSize, Reserve, Unwritten}

-- ---- looks at a drive

-- a look leaves a drive that can be mounted, with its array
kept-mountable : (n : ℕ) (old new : DriveState) → KeepsZones old new → KeepsMountable n old new
kept-mountable n old new k = shut-mountable n old new (zones-shut old new k)

-- a look at a drive that can be mounted fails only by a halt or a failed allocation
pub look-halts : (old new : DriveState) (fault : MountFault) → IsToMount old 1 → FailsBy (SurveyFails old 1) new fault → IsInterruption new fault
look-halts old new fault can fails = only-halts old new 1 fault can (fails-more (SurveyFails old 1) (MountFails old 1) new fault mount-too fails)
  where
    mount-too : (f : MountFault) → SurveyFails old 1 f → MountFails old 1 f
    mount-too mounts.Limits bad = bad
    mount-too mounts.Reserve bad = bad
    mount-too (mounts.ZoneUnusable zone) bad = bad
    mount-too (mounts.Log zone offset cause) bad = bad
    mount-too mounts.SequenceRepeated bad = bad
    mount-too mounts.BlockOutOfRange bad = bad
    mount-too mounts.TooManyPartial bad = bad
    mount-too mounts.NoSpare bad = absurd bad
    mount-too mounts.Spent bad = inl bad
    mount-too mounts.Halted bad = bad
    mount-too mounts.OutOfMemory bad = bad
    mount-too mounts.Damaged bad = absurd bad
    mount-too mounts.Failed bad = absurd bad
    mount-too (mounts.TornZone zone) bad = absurd bad

-- ---- the size of a disk

-- a disk has the size that its drive encodes
size-encoded : (old : DriveState) (n : ℕ) (disk : DiskView) → IsMounted old n disk → disk_size disk ≡ encoded_size n (drive_logs disk.drive)
size-encoded old n disk m = m.mounts.size ∙ length-encoded disk.drive (given_size disk) ∙ ap (λ k. encoded_size k (drive_logs disk.drive)) m.mounts.given

-- and that the drive encoded before the mount
size-before : (old : DriveState) (n : ℕ) (disk : DiskView) → IsMounted old n disk → disk_size disk ≡ encoded_size n (drive_logs old)
size-before old n disk m = m.mounts.size ∙ ap length m.mounts.array ∙ length-encoded old n

-- a size other than the number that was given is one that a header says
other-said : (n k : ℕ) (said : Option ℕ) → k ≡ size_or n said → k ≢ n → said ≡ Some k
other-said n k None is other = absurd (other is)
other-said n k (Some size) is other = ap Some (sym is)

mounted-said : (old : DriveState) (n : ℕ) (disk : DiskView) → IsMounted old n disk → disk_size disk ≢ n → size_on disk ≡ Some (disk_size disk)
mounted-said old n disk m other = other-said n (disk_size disk) (size_on disk) (size-encoded old n disk m) other

-- where a header says a size, the number that is given changes no array
same-array : (drive : DriveState) (a b size : ℕ) → greatest (drive_logs drive) ≡ Some size → encoded drive a ≡ encoded drive b
unfolding encoded_array
same-array drive a b size says = rw says refl

-- ---- a disk that is served

-- a disk that was mounted as the number that was given
pub given-served : (old : DriveState) (n : ℕ) (disk : DiskView) → IsMounted old n disk → IsServed old (Some n) disk
given-served old n disk m = record { mounted = inl m; said = λ none. absurd (cc none); array = m.mounts.array; mountable = m.mountable }

-- so is one that says more than one block
pub said-served : (old : DriveState) (disk : DiskView) → IsMounted old 1 disk → disk_size disk ≢ 1 → IsServed old None disk
said-served old disk m other = record { mounted = inl m; said = λ none. mounted-said old 1 disk m other; array = m.mounts.array; mountable = m.mountable }

-- the array of a disk of one block is the one that its drive encodes
one-array : (old left : DriveState) → IsOneBlock old left → encoded left 1 ≡ encoded old 1
one-array old left o = ap (λ (d : DriveState). encoded d 1) o.left_is ∙ ap (encoded o.disk.drive) (sym o.mounted.mounts.given) ∙ o.mounted.mounts.array

-- the headers of its drive say no size but one block
one-said : (old left seen : DriveState) (size : ℕ) → IsOneBlock old left → KeepsZones left seen → greatest (drive_logs seen) ≡ Some size → size ≡ 1
one-said old left seen size o k says =
    let logs = kept-logs left seen k ∙ ap drive_logs o.left_is in
    let here : encoded_size 1 (drive_logs seen) ≡ size = ap (size_or 1) says in
    let one : encoded_size 1 (drive_logs o.disk.drive) ≡ 1 = sym (size-encoded old 1 o.disk o.mounted) ∙ o.one in
    sym here ∙ ap (encoded_size 1) logs ∙ one

-- the array that is seen is the one before
seen-array : (old left seen : DriveState) (size : ℕ) → IsOneBlock old left → KeepsZones left seen → greatest (drive_logs seen) ≡ Some size → encoded seen 2 ≡ encoded old 1
seen-array old left seen size o k says =
    let look : encoded seen 1 ≡ encoded left 1 = (kept-mountable 1 left seen k).array (rw (sym o.left_is) at (rw o.mounted.mounts.given at o.mounted.mountable)) in
    same-array seen 2 1 size says ∙ look ∙ one-array old left o

-- a drive that says one block is served once it is mounted again
pub again-served : (old left : DriveState) (disk : DiskView) → IsOneBlock old left → IsFoundAgain left disk → IsServed old None disk
again-served old left disk o f =
    let one = one-said old left f.seen f.size o f.looked f.says in
    let size : disk_size disk ≡ 1 = size-before f.seen 2 disk f.again ∙ ap (size_or 2) f.says ∙ one in
    record {
      mounted = inr (refl, record { left = left; first = o; seen = f.seen; looked = f.looked; again = f.again });
      said = λ none. mounted-said f.seen 2 disk f.again (λ two. let bad : 1 ≡ 2 = sym size ∙ two in absurd (cc));
      array = f.again.mounts.array ∙ seen-array old left f.seen f.size o f.looked f.says;
      mountable = f.again.mountable;
    }

-- a size that is not missing is some number
pub some-size : (size : Option ℕ) (b : Bool) → is_some size ≡ not b → b ≡ false → (n : ℕ) × (size ≡ Some n)
some-size None b e f = let bad : false ≡ true = e ∙ ap not f in absurd (cc)
some-size (Some n) b e f = (n, refl)

-- what two facts give of each disk that is answered
pub ok-both : {A B : Type 0} (P Q R : A → Type 0) (answer : Result A B) → ((x : A) → P x → Q x → R x) → IfOk answer P → IfOk answer Q → IfOk answer R
ok-both P Q R (Ok x) give p q = give x p q
ok-both P Q R (Err y) give p q = tt

-- and of each refusal
pub err-both : {A B : Type 0} (P Q R : B → Type 0) (answer : Result A B) → ((y : B) → P y → Q y → R y) → IfErr answer P → IfErr answer Q → IfErr answer R
err-both P Q R (Ok x) give p q = tt
err-both P Q R (Err y) give p q = give y p q

-- ---- a drive that is not served

-- what a disk of one block left, and a look at it, can be mounted as before
one-kept : (old left back : DriveState) → IsOneBlock old left → KeepsZones left back → KeepsMountable 1 old back
one-kept old left back o k = mountable-both 1 old left back (rw o.left_is o.mounted.kept) (kept-mountable 1 left back k)

-- a look that was interrupted gives the drive back as a mount does that is interrupted
look-back : (old left back : DriveState) (fault : MountFault) → IsOneBlock old left → KeepsZones left back → IsInterruption back fault → GivesBack old 1 fault back
look-back old left back fault o k stops = record {
  why = fails-more (λ _. ⊥) (MountFails old 1) back fault (λ f bad. absurd bad) stops;
  refused = λ halted memory failed. absurd (by stops halted memory failed);
  early = inr o.mounted.mounts.can;
  kept = one-kept old left back o k;
}
  where
    by : IsInterruption back fault → fault ≢ mounts.Halted → fault ≢ mounts.OutOfMemory → fault ≢ mounts.Failed → ⊥
    by (inl is) halted memory failed = memory is
    by (inr (inl (inl is))) halted memory failed = halted is.0
    by (inr (inl (inr is))) halted memory failed = failed is.0
    by (inr (inr none)) halted memory failed = none

-- a second mount that was refused leaves the array
lost-back : (old left back : DriveState) (fault : MountFault) → IsOneBlock old left → IsLostAgain left fault back → IsRefusedAgain old fault back
lost-back old left back fault o l = record {
  left = left;
  first = o;
  seen = l.seen;
  looked = l.looked;
  says = l.says ∙ ap Some (one-said old left l.seen l.size o l.looked l.says);
  refused = l.refused;
  kept = by l.refused.early;
}
  where
    by : KeepsZones l.seen back ⊎ IsToMount l.seen 2 → KeepsMountable 1 old back ⊎ (IsMountable back 2 × (encoded back 2 ≡ encoded old 1))
    by (inl unchanged) = inl (one-kept old left back o (keeps-both left l.seen back l.looked unchanged))
    by (inr can) = inr (l.refused.kept.mountable can.mountable, l.refused.kept.array can.mountable ∙ seen-array old left l.seen l.size o l.looked l.says)

-- a drive that says no size, told with what is known of its look
no-size : (old left back : DriveState) (told : NoDiskFault) → IsOneBlock old left ⊎ GivesBack old 1 mounts.BlockOutOfRange left → KeepsZones left back → TellsNoSize back told → KeepsMountable 1 old back → SaysNoSize old None told back
no-size old left back told mount k tells kept = record { none = refl; left = left; mount = mount; looked = k; tells = tells; kept = kept }

-- a drive of one block is not served, whatever is told
pub one-refused : (old left back : DriveState) (told : NoDiskFault) → IsOneBlock old left → IsNotFound left told back → IsNotServed old None told back
one-refused old left back (Mount fault) o (inl stops) = inl (look-back old left back fault o stops.0 stops.1)
one-refused old left back (Mount fault) o (inr lost) = inr (refl, lost-back old left back fault o lost)
one-refused old left back (Unwritten most) o n = no-size old left back (Unwritten most) (inl o) n.0 n.1 (one-kept old left back o n.0)
one-refused old left back (NoSize most) o n = no-size old left back (NoSize most) (inl o) n.0 n.1 (one-kept old left back o n.0)
one-refused old left back (Reserve most) o n = absurd n.1

-- a look leaves what a mount gave back that was refused for what the drive holds
block-back : (old left back : DriveState) → GivesBack old 1 mounts.BlockOutOfRange left → KeepsZones left back → GivesBack old 1 mounts.BlockOutOfRange back
block-back old left back g k =
    let unchanged : KeepsZones old left = g.refused (λ e. absurd (cc e)) (λ e. absurd (cc e)) (λ e. absurd (cc e)) in
    let both = keeps-both old left back unchanged k in
    record { why = by g.why; refused = λ halted memory failed. both; early = inl both; kept = kept-mountable 1 old back both }
  where
    by : FailsBy (MountFails old 1) left mounts.BlockOutOfRange → FailsBy (MountFails old 1) back mounts.BlockOutOfRange
    by (inl memory) = absurd (cc memory)
    by (inr (inl (inl halted))) = absurd (cc halted.0)
    by (inr (inl (inr failed))) = absurd (cc failed.0)
    by (inr (inr fails)) = inr (inr fails)

-- a drive in which a batch names another block than the first one is not served, whatever is told
pub block-refused : (old left back : DriveState) (told : NoDiskFault) → GivesBack old 1 mounts.BlockOutOfRange left → KeepsZones left back → TellsOutOfRange back told → IsNotServed old None told back
block-refused old left back (Mount fault) g k tells = inl (rw tells (block-back old left back g k))
block-refused old left back (Unwritten most) g k tells = no-size old left back (Unwritten most) (inr g) k tells (block-back old left back g k).kept
block-refused old left back (NoSize most) g k tells = no-size old left back (NoSize most) (inr g) k tells (block-back old left back g k).kept
block-refused old left back (Reserve most) g k tells = absurd tells

-- ---- the shape of a drive

pub shape-join : (a b c : DriveState) → KeepsShape a b → KeepsShape b c → KeepsShape a c
shape-join a b c first second = record { geometry = second.geometry ∙ first.geometry; trusted = λ clean. first.trusted (second.trusted clean); unfailing = λ up. first.unfailing (second.unfailing up) }

-- a look leaves it
pub look-shape : (old new : DriveState) → KeepsZones old new → KeepsShape old new
look-shape old new k = record { geometry = k.geometry; trusted = k.trusted; unfailing = k.unfailing }

-- ---- over any device

-- a disk that was mounted on one block can be mounted so again
pub one-again : (old : DriveState) (disk : DiskView) → IsMounted old 1 disk → disk_size disk ≡ 1 → IsToMount disk.drive 1
one-again old disk m one = record {
  geometry = m.range;
  reserve = rw one at m.fits;
  mountable = rw m.mounts.given at m.mountable;
}

-- headers that say no size tell why a drive of one block is not served
pub not-found : (left back : DriveState) (told : NoDiskFault) → KeepsZones left back → TellsNoSize back told → IsNotFound left told back
not-found left back (Mount fault) k tells = absurd tells
not-found left back (Unwritten most) k tells = (k, tells)
not-found left back (NoSize most) k tells = (k, tells)
not-found left back (Reserve most) k tells = absurd tells

-- and why one is not in which a batch names another block
pub out-of-range : (back : DriveState) (told : NoDiskFault) → TellsNoSize back told → TellsOutOfRange back told
out-of-range back (Mount fault) tells = absurd tells
out-of-range back (Unwritten most) tells = tells
out-of-range back (NoSize most) tells = tells
out-of-range back (Reserve most) tells = absurd tells

-- the room that is told with the fault of a mount
pub told-room : (geometry : Geometry) (fault : MountFault) (told : NoDiskFault) → TellsFault geometry fault told → TellsRoom geometry told
told-room geometry fault (Mount other) tells = tt
told-room geometry fault (Reserve most) tells = tells.1
told-room geometry fault (Unwritten most) tells = absurd tells
told-room geometry fault (NoSize most) tells = absurd tells
