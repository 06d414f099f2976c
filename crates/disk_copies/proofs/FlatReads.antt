-- Reads of a flat disk, one after the other, as one read.
use Rattle.std.proofs.Common.{◌≡◌, ◌≢◌, ℕ, zero, suc, ◌+◌, ◌<◌, ◌≤◌, Bool, true, false, List, [], ◌++◌, take, drop, Option, Some, None, Ok, Err, refl, sym, ap, subst, ◌∙◌, arith}
use Rattle.zone_translator.specs.Calls.{Reads}
use Rattle.std.specs.Prelude.{IsErrAnd, MatchOption, OnOk, Result, nat_lt, ◌&&◌, ◌*◌, ◌-◌}
use Rattle.std.specs.List.{concat}
use Rattle.std.specs.Io.KnownBytes.{Appends}
use Rattle.std.proofs.KnownBytes.{Appends-nil, Appends-trans}
use Rattle.std.proofs.Math.Nat.{add-mul}
use Rattle.std.proofs.Math.Seq.{take-add}
use Rattle.std.proofs.lemmas.Bool.Decides.{nat_tests}
use Rattle.std.proofs.lemmas.List.{drop-drop, length-append, take-append-le}
use Rattle.std.proofs.lemmas.List.Folds.{concat-append}
use Rattle.disk_files.specs.Output.{AppendsFront}
use Rattle.disk_files.proofs.OutputLaws.{front_second}
use Rattle.zone_translator.specs.Flat.{Answer, Begun, FlatCall, FlatDisk, blocks_from, may_refuse, read, with_nothing}
use Rattle.zone_translator.specs.View.{DiskCause, DiskView, disk_array, disk_size, flat_of}
use Rattle.zone_translator.specs.declared.fault.DiskFault.{DiskFault}
use Rattle.zone_translator.specs.declared.fault.DiskFault.TheVariants.{OutOfRange, OutOfMemory, Failed, Stopped, Spent, Unmounted, Smaller, Reserve, Damaged}
use Rattle.zone_translator.specs.declared.status.DiskStatus.{DiskStatus}
use Rattle.zone_translator.specs.declared.status.DiskStatus.TheVariants as statuses
use Rattle.disk_copies.specs.declared.stream_fault.ExportFault.{ExportFault}
use Rattle.disk_copies.specs.declared.stream_fault.ExportFault.TheVariants.{Disk, Output, PastEnd, Unread}
use Rattle.disk_copies.specs.Copies.{EndsBefore, Exports, GoesWhole, RefusesRest, ShowsRange}
use Rattle.disk_copies.proofs.FlatWrites.{known-in, known-past, past-or-in}

-- ---- a read that is done

-- a range is shown and the disk stays; a range with blocks is within a disk that serves
pub record Showed (old : FlatDisk) (first n : ℕ) (shown : List (List ℕ)) (new : FlatDisk) : Type 0 where
  pub same : new ≡ old
  pub shown_is : shown ≡ blocks_from old.array first n
  pub within : 0 < n → first + n ≤ old.size
  pub serves : 0 < n → old.status ≡ statuses.Serving

-- a read that is done has shown the blocks of its range, and the disk stays
pub showed : (old new : FlatDisk) (first n : ℕ) (shown : List (List ℕ)) → FlatCall old (read first n) (record { result = Ok tt; shown = shown }) new → Showed old first n shown new
showed old new first zero shown flat = record {
  same = flat.1;
  shown_is = ap (λ (a : Answer). a.shown) flat.0;
  within = λ some. absurd (omega (arith, some));
  serves = λ some. absurd (omega (arith, some));
}
showed old new first (suc n) shown flat = of (nat_lt old.size (first + suc n)) refl old.status refl
  where
    of : (past : Bool) → nat_lt old.size (first + suc n) ≡ past → (status : DiskStatus) → old.status ≡ status → Showed old first (suc n) shown new
    of true e status s =
        let known = rw (known-past old first (suc n) (omega arith) ((past-or-in _ _ true e).0 refl)) at flat in
        let bad : Ok tt ≡ Err OutOfRange = ap (λ (a : Answer). a.result) known.0 in
        absurd (cc)
    of false e statuses.Serving s =
        let fits = (past-or-in _ _ false e).1 refl in
        let begun = rw (known-in old first (suc n) (omega arith) fits, s) at flat in
        record {
          same = begun.1 ∙ ap (λ (d : DiskStatus). record { array = old.array; size = old.size; status = d; block = old.block; most = old.most }) (sym s);
          shown_is = begun.0;
          within = λ _. fits;
          serves = λ _. s;
        }
    of false e statuses.Stopped s =
        let known = rw (known-in old first (suc n) (omega arith) ((past-or-in _ _ false e).1 refl), s) at flat in
        let bad : Ok tt ≡ Err Stopped = ap (λ (a : Answer). a.result) known.0 in
        absurd (cc)
    of false e statuses.Unmounted s =
        let known = rw (known-in old first (suc n) (omega arith) ((past-or-in _ _ false e).1 refl), s) at flat in
        let bad : Ok tt ≡ Err Unmounted = ap (λ (a : Answer). a.result) known.0 in
        absurd (cc)

-- and conversely, what is shown so answers a read of that range
pub shows : (old new : FlatDisk) (first n : ℕ) (shown : List (List ℕ)) → Showed old first n shown new → FlatCall old (read first n) (record { result = Ok tt; shown = shown }) new
shows old new first zero shown s = (ap (λ (bs : List (List ℕ)). record { result = Ok tt; shown = bs }) s.shown_is, s.same)
shows old new first (suc n) shown s = rw (known-in old first (suc n) (omega arith) (s.within (omega arith)), s.serves (omega arith)) (s.shown_is, s.same ∙ ap (λ (d : DiskStatus). record { array = old.array; size = old.size; status = d; block = old.block; most = old.most }) (s.serves (omega arith)))

-- ---- one read after the other

-- the blocks of two ranges that are next to each other
pub ranges : (array : List (List ℕ)) (first m next n : ℕ) → next ≡ first + m → blocks_from array first (m + n) ≡ blocks_from array first m ++ blocks_from array next n
ranges array first m next n e =
    take-add m n (drop first array) ∙ ap (λ (bs : List (List ℕ)). take m (drop first array) ++ take n bs) (drop-drop m first array)
    ∙ ap (λ (k : ℕ). take m (drop first array) ++ take n (drop k array)) (sym e)

some-or-none : (n : ℕ) (P : Type 0) → (n ≡ 0 → P) → (0 < n → P) → P
some-or-none zero P none some = none refl
some-or-none (suc n) P none some = some (omega arith)

-- two ranges next to each other, shown one after the other, are shown as one
showed-both : (old mid new : FlatDisk) (first m next n : ℕ) (xs ys : List (List ℕ)) → next ≡ first + m → Showed old first m xs mid → Showed mid next n ys new → Showed old first (m + n) (xs ++ ys) new
showed-both old mid new first m next n xs ys e x y =
    let array : mid.array ≡ old.array = ap (λ (d : FlatDisk). d.array) x.same in
    let size : mid.size ≡ old.size = ap (λ (d : FlatDisk). d.size) x.same in
    let status : mid.status ≡ old.status = ap (λ (d : FlatDisk). d.status) x.same in
    record {
      same = y.same ∙ x.same;
      shown_is = rw (x.shown_is, y.shown_is, array) (sym (ranges old.array first m next n e));
      within = λ some. some-or-none n (first + (m + n) ≤ old.size)
          (λ none. omega (arith, none, x.within (omega (arith, some, none))))
          (λ more. omega (arith, e, size, y.within more));
      serves = λ some. some-or-none n (old.status ≡ statuses.Serving)
          (λ none. x.serves (omega (arith, some, none)))
          (λ more. sym status ∙ y.serves more);
    }

-- ---- a read that is refused

same-refusal : (a b c d : ℕ) (fault : DiskFault) → may_refuse (read a b) fault ≡ may_refuse (read c d) fault
same-refusal a b c d OutOfRange = refl
same-refusal a b c d OutOfMemory = refl
same-refusal a b c d Failed = refl
same-refusal a b c d Stopped = refl
same-refusal a b c d Spent = refl
same-refusal a b c d Smaller = refl
same-refusal a b c d Reserve = refl
same-refusal a b c d Damaged = refl
same-refusal a b c d Unmounted = refl

-- a read is refused as one of other blocks within the disk is
refused-as : (old new : FlatDisk) (first n next k : ℕ) (fault : DiskFault) → 0 < n → first + n ≤ old.size → 0 < k → next + k ≤ old.size
    → FlatCall old (read next k) (with_nothing (Err fault)) new → FlatCall old (read first n) (with_nothing (Err fault)) new
refused-as old new first n next k fault some fits more inside flat = of old.status refl
  where
    of : (status : DiskStatus) → old.status ≡ status → FlatCall old (read first n) (with_nothing (Err fault)) new
    of statuses.Serving s =
        let begun = rw (known-in old next k more inside, s) at flat in
        rw (known-in old first n some fits, s) (same-refusal first n next k fault ∙ begun.0, begun.1, begun.2, begun.3)
    of statuses.Stopped s =
        let known = rw (known-in old next k more inside, s) at flat in
        rw (known-in old first n some fits, s) known
    of statuses.Unmounted s =
        let known = rw (known-in old next k more inside, s) at flat in
        rw (known-in old first n some fits, s) known

-- ---- exports

-- a range with blocks that was not found past the end is within the size
pub within-size : (size first n long : ℕ) → size ≡ long → false ≡ (nat_lt 0 n && nat_lt size (first + n)) → 0 < n → first + n ≤ long
within-size size first n long same fits some = let inside : first + n ≤ size = grind (arith, nat_tests) in omega (arith, inside, same)

-- and one that is not
pub past-size : (disk : DiskView) (size first n : ℕ) → size ≡ disk_size disk → true ≡ (nat_lt 0 n && nat_lt size (first + n)) → EndsBefore disk first n size
past-size disk size first n same past =
    let some : 0 < n = grind (arith, nat_tests) in
    let out : size < first + n = grind (arith, nat_tests) in
    record { some = some; past = omega (arith, out, same); size_is = same }

-- one piece more is written
pub exports-more : (old mid new : DiskView) (first m next n k : ℕ) (written between contents : Option (List ℕ)) → next ≡ first + m → k ≡ m + n
    → Exports old first m written between (Ok tt) mid → Exports mid next n between contents (Ok tt) new → Exports old first k written contents (Ok tt) new
exports-more old mid new first m next n k written between contents e sum x y =
    let both = showed-both (flat_of old) (flat_of mid) (flat_of new) first m next n x.0 y.0 e (showed (flat_of old) (flat_of mid) first m x.0 x.1) (showed (flat_of mid) (flat_of new) next n y.0 y.1) in (
      x.0 ++ y.0,
      rw sum (shows (flat_of old) (flat_of new) first (m + n) (x.0 ++ y.0) both),
      rw (concat-append x.0 y.0) (Appends-trans written between contents (concat x.0) (concat y.0) x.2 y.2),
    )

front-longer : (old new : Option (List ℕ)) (xs ys : List ℕ) → AppendsFront old new xs → AppendsFront old new (xs ++ ys)
front-longer old new xs ys front = record {
  count = front.count;
  short = omega (arith, front.short, length-append xs ys);
  appends = subst (Appends old new) (sym (take-append-le front.count xs ys (omega (arith, front.short)))) front.appends;
}

-- the writer failed in a piece
exports-cut : (old mid new : DiskView) (first m next n total : ℕ) (written between contents : Option (List ℕ)) → next ≡ first + m → 0 < n → m + n ≤ total → first + total ≤ disk_size old
    → Exports old first m written between (Ok tt) mid → Exports mid next n between contents (Err Output) new → Exports old first total written contents (Err Output) new
exports-cut old mid new first m next n total written between contents e some part fits x y =
    let both = showed-both (flat_of old) (flat_of mid) (flat_of new) first m next n x.0 y.0 e (showed (flat_of old) (flat_of mid) first m x.0 x.1) (showed (flat_of mid) (flat_of new) next n y.0 y.1) in
    let all = blocks_from (disk_array old) first total in
    let rest = blocks_from (disk_array old) (first + (m + n)) (total - (m + n)) in
    let split : all ≡ (x.0 ++ y.0) ++ rest =
    ap (λ (k : ℕ). blocks_from (disk_array old) first k) (omega (arith, part)) ∙ ranges (disk_array old) first (m + n) (first + (m + n)) (total - (m + n)) refl
    ∙ ap (λ (bs : List (List ℕ)). bs ++ rest) (sym both.shown_is) in
    let bytes : concat all ≡ (concat x.0 ++ concat y.0) ++ concat rest =
    ap concat split ∙ concat-append (x.0 ++ y.0) rest ∙ ap (λ (bs : List ℕ). bs ++ concat rest) (concat-append x.0 y.0) in
    let whole : Showed (flat_of old) first total all (flat_of new) = record { same = both.same; shown_is = refl; within = λ _. fits; serves = λ _. both.serves (omega (arith, some)) } in (
      all,
      shows (flat_of old) (flat_of new) first total all whole,
      rw bytes (front-longer written contents (concat x.0 ++ concat y.0) (concat rest) (front_second written between contents (concat x.0) (concat y.0) x.2 y.2)),
    )

-- the disk refused a piece
exports-refused : (old mid new : DiskView) (first m next n total done : ℕ) (fault : DiskFault)
    (written between contents : Option (List ℕ)) → next ≡ first + m → 0 < n → m + n ≤ total
    → first + total ≤ disk_size old → Exports old first m written between (Ok tt) mid
    → RefusesRest mid next n done fault between contents new
    → RefusesRest old first total (m + done) fault written contents new
exports-refused old mid new first m next n total done fault written between contents e some part fits x r =
    let before = showed (flat_of old) (flat_of mid) first m x.0 x.1 in
    let array : disk_array mid ≡ disk_array old = ap (λ (d : FlatDisk). d.array) before.same in
    let size : disk_size mid ≡ disk_size old = ap (λ (d : FlatDisk). d.size) before.same in
    let front = blocks_from (disk_array old) first m in
    record {
      bytes = rw (
        ranges (disk_array old) first m next done e,
        concat-append front (blocks_from (disk_array old) next done),
        ← before.shown_is,
        ← array,
      )
          (Appends-trans written between contents (concat x.0)
          (concat (blocks_from (disk_array mid) next done)) x.2 r.bytes);
      flat = subst (λ (d : FlatDisk). FlatCall d (read first total) (with_nothing (Err fault)) (flat_of new)) before.same
          (refused-as (flat_of mid) (flat_of new) first total next n fault (omega (arith, some, part))
          (omega (arith, fits, size)) some (omega (arith, e, part, fits, size)) r.flat);
      cause = r.cause;
    }

-- a fault of a piece
pub exports-fail : (old mid new : DiskView) (first m next n total : ℕ) (fault : ExportFault)
    (written between contents : Option (List ℕ)) → next ≡ first + m → 0 < n → m + n ≤ total
    → first + total ≤ disk_size old → disk_size mid ≡ disk_size old → Exports old first m written between (Ok tt) mid
    → Exports mid next n between contents (Err fault) new → Exports old first total written contents (Err fault) new
exports-fail old mid new first m next n total Output written between contents e some part fits same x y =
    exports-cut old mid new first m next n total written between contents e some part fits x y
exports-fail old mid new first m next n total (PastEnd size) written between contents e some part fits same x r =
    absurd (omega (arith, r.0.past, e, part, fits, same))
exports-fail old mid new first m next n total (Disk fault) written between contents e some part fits same x r = record {
  done = m + r.done;
  within = omega (arith, r.within, part);
  other = r.other;
  refuses = exports-refused old mid new first m next n total r.done fault written between contents e some part fits x
      r.refuses;
}
exports-fail old mid new first m next n total (Unread block) written between contents e some part fits same x r = record {
  done = m + r.done;
  within = omega (arith, r.within, part);
  block_is = omega (arith, e, r.block_is);
  refuses = exports-refused old mid new first m next n total r.done Failed written between contents e some part fits x
      r.refuses;
}

-- a read that is refused shows nothing
shown-none : (old new : FlatDisk) (first n : ℕ) (fault : DiskFault) (shown : List (List ℕ)) → FlatCall old (read first n) (record { result = Err fault; shown = shown }) new → shown ≡ []
shown-none old new first n fault shown flat = by _ flat
  where
    by : (known : Option (Result (Unit {0}) DiskFault)) → MatchOption known (Begun old (read first n) (Err fault) shown new) (λ r. (record { result = Err fault; shown = shown } ≡ with_nothing r) × (new ≡ old)) → shown ≡ []
    by (Some r) c = ap (λ (a : Answer). a.shown) c.0
    by None c = c.1

-- a fault that is handed on
pub exports-err : (old new : DiskView) (first n : ℕ) (written contents : Option (List ℕ)) (result : Result (Unit {0}) ExportFault) (fault : ExportFault) → IsErrAnd result (λ e. e ≡ fault)
    → Exports old first n written contents (Err fault) new → Exports old first n written contents result new
exports-err old new first n written contents (Ok done) fault is x = absurd is
exports-err old new first n written contents (Err e) fault is x = rw is x

-- the disk refused before anything was written
refused-first : (old new : DiskView) (first n : ℕ) (written : Option (List ℕ)) (fault : DiskFault) (bytes : List ℕ)
    → Reads (flat_of old) first n (Err fault) bytes (flat_of new) → DiskCause new fault
    → RefusesRest old first n 0 fault written written new
refused-first old new first n written fault bytes reads cause = record {
  bytes = Appends-nil written;
  flat = subst (λ (shown : List (List ℕ)).
      FlatCall (flat_of old) (read first n) (record { result = Err fault; shown = shown }) (flat_of new))
      (shown-none (flat_of old) (flat_of new) first n fault reads.shown reads.flat) reads.flat;
  cause = cause;
}

-- for another reason than that its drive failed
pub exports-unread : (old new : DiskView) (first n : ℕ) (written : Option (List ℕ)) (fault : DiskFault) (bytes : List ℕ)
    → Reads (flat_of old) first n (Err fault) bytes (flat_of new) → DiskCause new fault → fault ≢ Failed
    → Exports old first n written written (Err (Disk fault)) new
exports-unread old new first n written fault bytes reads cause other = record {
  done = 0;
  within = omega arith;
  other = other;
  refuses = refused-first old new first n written fault bytes reads cause;
}

-- because its drive failed at the block
pub exports-lost : (old new : DiskView) (block : ℕ) (written : Option (List ℕ)) (bytes : List ℕ)
    → Reads (flat_of old) block 1 (Err Failed) bytes (flat_of new) → DiskCause new Failed
    → Exports old block 1 written written (Err (Unread block)) new
exports-lost old new block written bytes reads cause = record {
  done = 0;
  within = omega arith;
  block_is = omega arith;
  refuses = refused-first old new block 1 written Failed bytes reads cause;
}

-- all was read, and the writer failed
pub exports-unsent : (old new : DiskView) (first n : ℕ) (written contents : Option (List ℕ)) (bytes : List ℕ) → Reads (flat_of old) first n (Ok tt) bytes (flat_of new) → AppendsFront written contents bytes
    → Exports old first n written contents (Err Output) new
exports-unsent old new first n written contents bytes reads front = (reads.shown, reads.flat, subst (AppendsFront written contents) reads.bytes_are front)

-- all was read and written
pub exports-all : (old new : DiskView) (first n : ℕ) (written contents : Option (List ℕ)) (bytes : List ℕ) → Reads (flat_of old) first n (Ok tt) bytes (flat_of new) → Appends written contents bytes
    → Exports old first n written contents (Ok tt) new
exports-all old new first n written contents bytes reads all = (reads.shown, reads.flat, subst (Appends written contents) reads.bytes_are all)

-- ---- after a read that failed

-- a read at which the drive failed leaves the disk as it was
pub failed-same : (old new : FlatDisk) (first n : ℕ) (shown : List (List ℕ)) → 0 < n → first + n ≤ old.size
    → FlatCall old (read first n) (record { result = Err Failed; shown = shown }) new → new ≡ old
failed-same old new first n shown some fits flat = of old.status refl
  where
    back : {status : DiskStatus} → old.status ≡ status
        → record { array = old.array; size = old.size; status = status; block = old.block; most = old.most } ≡ old
    back s = ap (λ (d : DiskStatus). record { array = old.array; size = old.size; status = d; block = old.block; most = old.most }) (sym s)

    of : (status : DiskStatus) → old.status ≡ status → new ≡ old
    of statuses.Serving s =
        let begun = rw (known-in old first n some fits, s) at flat in
        begun.3
        ∙ ap (λ (a : List (List ℕ)). record { array = a; size = old.size; status = statuses.Serving; block = old.block; most = old.most }) begun.2
        ∙ back s
    of statuses.Stopped s =
        let known = rw (known-in old first n some fits, s) at flat in
        known.1 ∙ back s
    of statuses.Unmounted s =
        let known = rw (known-in old first n some fits, s) at flat in
        known.1 ∙ back s

shows-from : (old mid new : DiskView) (first n : ℕ) (shown : List (List ℕ)) → flat_of mid ≡ flat_of old
    → ShowsRange mid first n shown new → ShowsRange old first n shown new
shows-from old mid new first n shown same x =
    subst (λ (d : FlatDisk). FlatCall d (read first n) (record { result = Ok tt; shown = shown }) (flat_of new)) same x

refuses-from : (old mid new : DiskView) (first n done : ℕ) (fault : DiskFault) (written contents : Option (List ℕ))
    → flat_of mid ≡ flat_of old → RefusesRest mid first n done fault written contents new
    → RefusesRest old first n done fault written contents new
refuses-from old mid new first n done fault written contents same r = record {
  bytes = subst (λ (d : FlatDisk). Appends written contents (concat (blocks_from d.array first done))) same r.bytes;
  flat = subst (λ (d : FlatDisk). FlatCall d (read first n) (with_nothing (Err fault)) (flat_of new)) same r.flat;
  cause = r.cause;
}

-- an export of a disk is also one of a disk that answers the same
pub exports-from : (old mid new : DiskView) (first n : ℕ) (written contents : Option (List ℕ))
    (result : Result (Unit {0}) ExportFault) → flat_of mid ≡ flat_of old → first + n ≤ disk_size old
    → Exports mid first n written contents result new → Exports old first n written contents result new
exports-from old mid new first n written contents (Ok done) same fits x =
    (x.0, shows-from old mid new first n x.0 same x.1, x.2)
exports-from old mid new first n written contents (Err Output) same fits x =
    (x.0, shows-from old mid new first n x.0 same x.1, x.2)
exports-from old mid new first n written contents (Err (Disk fault)) same fits x = record {
  done = x.done;
  within = x.within;
  other = x.other;
  refuses = refuses-from old mid new first n x.done fault written contents same x.refuses;
}
exports-from old mid new first n written contents (Err (Unread block)) same fits x = record {
  done = x.done;
  within = x.within;
  block_is = x.block_is;
  refuses = refuses-from old mid new first n x.done Failed written contents same x.refuses;
}
exports-from old mid new first n written contents (Err (PastEnd size)) same fits x =
    let sizes : disk_size mid ≡ disk_size old = ap (λ (d : FlatDisk). d.size) same in
    absurd (omega (arith, x.0.past, fits, sizes))

-- ---- whatever the Reads returned

-- at the start nothing is written
pub goes-none : (block : ℕ) (written : Option (List ℕ)) → GoesWhole block written written 0
goes-none block written = record { bytes = []; sent = Appends-nil written; whole = omega arith }

-- a piece more is written
pub goes-more : (block other count more sum : ℕ) (written between contents : Option (List ℕ)) → other ≡ block
    → sum ≡ count + more → GoesWhole block written between count → GoesWhole other between contents more
    → GoesWhole block written contents sum
goes-more block other count more sum written between contents same sum_is first next = record {
  bytes = first.bytes ++ next.bytes;
  sent = Appends-trans written between contents first.bytes next.bytes first.sent next.sent;
  whole = omega (
    arith,
    length-append first.bytes next.bytes,
    first.whole,
    next.whole,
    ap (λ (k : ℕ). more * k) same,
    add-mul count more block,
    ap (λ (k : ℕ). k * block) sum_is,
  );
}

-- blocks of a disk are those of another one of this shape
pub goes-alike : (block other count : ℕ) (written contents : Option (List ℕ)) (result : Result (Unit {0}) ExportFault)
    → other ≡ block → OnOk result (GoesWhole other written contents count)
    → OnOk result (GoesWhole block written contents count)
goes-alike block other count written contents result same goes =
    subst (λ (b : ℕ). OnOk result (GoesWhole b written contents count)) same goes
