-- A flush of a disk.
use Rattle.std.proofs.Common.{◌≡◌, true, [], None, Some, Ok, Err, refl, ap}
use Rattle.std.specs.Prelude.{MatchOption, Option, Result}
use Rattle.zone_translator.specs.Flat.{Answer, Begun, FlatCall, FlatDisk, answer_while, flush, known_answer, may_refuse, with_nothing}
use Rattle.zone_translator.specs.View.{DiskView, disk_array, flat_of}
use Rattle.zone_translator.specs.declared.fault.DiskFault.{DiskFault}
use Rattle.zone_translator.specs.declared.fault.DiskFault.TheVariants.{OutOfRange, OutOfMemory, Failed, Stopped, Spent, Unmounted, Smaller, Reserve, Damaged}
use Rattle.zone_translator.specs.declared.status.DiskStatus.{DiskStatus}
use Rattle.zone_translator.specs.declared.status.DiskStatus.TheVariants as statuses
use Rattle.disk_runs.specs.FlatLines.{refusal_reply}
use Rattle.disk_runs.specs.Taken.{FlushesDisk}
use Rattle.disk_runs.proofs.RequestLaws.{idle_unchanged}

-- a flush that is done changes nothing that a flat disk has
pub flush_unchanged : (old new : DiskView) → FlushesDisk old (Ok tt) new → flat_of new ≡ flat_of old
flush_unchanged old new f = (idle_unchanged (flat_of old) (flat_of new) f.answers.flat).0

-- and neither does one that is refused change the array
begun_same : (old new : FlatDisk) (result : Result (Unit {0}) DiskFault) → Begun old flush result [] new → new.array ≡ old.array
begun_same old new (Ok done) begun = ap (λ (d : FlatDisk). d.array) begun.1
begun_same old new (Err fault) begun = begun.2

call_same : (old new : FlatDisk) (result : Result (Unit {0}) DiskFault) → FlatCall old flush (with_nothing result) new → new.array ≡ old.array
call_same old new result called = by (known_answer old flush) called
  where
    by : (known : Option (Result (Unit {0}) DiskFault)) → MatchOption known (Begun old flush result [] new) (λ r. (with_nothing result ≡ with_nothing r) × (new ≡ old)) → new.array ≡ old.array
    by None p = begun_same old new result p
    by (Some r) p = ap (λ (d : FlatDisk). d.array) p.1

pub flush_array : (old new : DiskView) (result : Result (Unit {0}) DiskFault) → FlushesDisk old result new → disk_array new ≡ disk_array old
flush_array old new result f = call_same (flat_of old) (flat_of new) result f.answers.flat

-- a flush is refused without a reply
pub flush_untold : (old new : FlatDisk) (fault : DiskFault) → FlatCall old flush (with_nothing (Err fault)) new → refusal_reply fault ≡ None
flush_untold old new fault answered = by old.status refl
  where
    may : (fault : DiskFault) → may_refuse flush fault ≡ true → refusal_reply fault ≡ None
    may OutOfRange m = absurd (cc)
    may OutOfMemory m = refl
    may Failed m = refl
    may Stopped m = refl
    may Spent m = absurd (cc)
    may Unmounted m = refl
    may Smaller m = absurd (cc)
    may Reserve m = absurd (cc)
    may Damaged m = absurd (cc)

    by : (status : DiskStatus) → old.status ≡ status → refusal_reply fault ≡ None
    by statuses.Serving e =
        let none : known_answer old flush ≡ None = ap answer_while e in
        let begun = rw none at answered in
        may fault begun.0
    by statuses.Stopped e =
        let known : known_answer old flush ≡ Some (Err Stopped) = ap answer_while e in
        let so = rw known at answered in
        let same : Err fault ≡ Err Stopped = ap (λ (a : Answer). a.result) so.0 in
        let is : fault ≡ Stopped = cc in
        ap refusal_reply is
    by statuses.Unmounted e =
        let known : known_answer old flush ≡ Some (Err Unmounted) = ap answer_while e in
        let so = rw known at answered in
        let same : Err fault ≡ Err Unmounted = ap (λ (a : Answer). a.result) so.0 in
        let is : fault ≡ Unmounted = cc in
        ap refusal_reply is
