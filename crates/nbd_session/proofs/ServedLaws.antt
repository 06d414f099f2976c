-- What a disk that is served gives, as a store: its calls, its turns and its syncs.
use Rattle.std.proofs.Common.{◌≡◌, ℕ, zero, suc, ◌+◌, ◌*◌, ◌<◌, ◌≤◌, List, [], ◌∷◌, length, map, get_or, None, Some, Ok, Err, true, false, refl, sym, ap, subst, ◌∙◌, inl, inr, arith}
use Rattle.std.specs.Prelude.{◌⊎◌, Bool, Contains, IsErrAnd, MatchOption, Option, Result, nat_eq}
use Rattle.std.specs.List.{IsDistinct, concat}
use Rattle.std.specs.Int.{div_ceil}
use Rattle.std.proofs.Math.Nat.{div-zero, mod-le}
use Rattle.std.proofs.lemmas.List.{take_all}
use Rattle.std.proofs.lemmas.Nat.{mul-le}
use Rattle.zone_states.specs.Zone.{Zone, cut_blocks}
use Rattle.batch_log.specs.declared.header.Entry.{Entry}
use Rattle.batch_log.specs.Log.{data_count}
use Rattle.drive_port.specs.Drive.{DriveState}
use Rattle.drive_port.specs.Durable.{IsDurable, MayBeDurable}
use Rattle.drive_port.specs.Run.{restarted_zone}
use Rattle.drive_port.proofs.ClosingLaws.{contents-restarted}
use Rattle.drive_array.specs.Reserve.{batch_most}
use Rattle.drive_array.proofs.ReserveLaws.{div_ceil-le}
use Rattle.zone_translator.proofs.KeepingLaws.{keeps_call, keeps_same}
use Rattle.zone_translator.proofs.ListedLaws.{blocks-put}
use Rattle.zone_translator.specs.Answers.{Answers, AnswersRead, CostsAtMost, Stores, StoresList, TakesTurn, write_entries}
use Rattle.zone_translator.specs.Changes.{batch_commands, failing_commands}
use Rattle.zone_translator.specs.Flat.{Answer, Begun, Call, FlatDisk, IsFront, IsListFront, Put, answer_while, flush, grow, idle, known_answer, may_refuse, put_all, read, replaced, report, status_after, with_nothing, write, write_list}
use Rattle.zone_translator.specs.Listed.{blocks_named, list_puts}
use Rattle.zone_translator.specs.View.{CompletesAtMost, CostsBatches, DiskView, KeepsDisk, StaysAlike, disk_array, disk_turns, flat_of, given_size, most_batches}
use Rattle.zone_translator.specs.declared.fault.DiskFault.{DiskFault}
use Rattle.nbd_session.specs.declared.fault.StoreFault.{StoreFault}
use Rattle.nbd_session.specs.declared.fault.StoreFault.TheVariants.{Disk}
use Rattle.nbd_session.specs.Served.{array_with, since_of}
use Rattle.nbd_session.specs.Pending.{Pending}
use Rattle.nbd_session.specs.Store.{CallsDisk, ComesFrom, FailsSync, Hardens, IsListTorn, IsMoment, IsPart, IsTorn, KeepsBySync, OrFails, PaysFor, Rests, Shows, Spares, Stays, StaysByCall, StoreView, Writes, WritesList}
use Rattle.nbd_session.proofs.CostLaws.{bound_always}
use Rattle.nbd_session.proofs.PendingLaws.{front-torn, in-none, list-torn, same-torn}

-- the only element of a list
only : {X : Type 0} (a x : X) → Contains (a ∷ []) x → a ≡ x
only a x (zero, few, same) = same
only a x (suc k, few, same) = absurd (omega (arith, few))

contains-only : {X : Type 0} (a x : X) → a ≡ x → Contains (a ∷ []) x
contains-only a x same = (zero, omega arith, same)

-- the array after a write is the old one, or that after some of its blocks
moment-by : (known : Option (Result (Unit {0}) DiskFault)) (old : FlatDisk) (first : ℕ) (blocks : List (List ℕ)) (result : Result (Unit {0}) DiskFault) (new : FlatDisk)
    → MatchOption known (Begun old (write first blocks) result [] new) (λ r. (with_nothing result ≡ with_nothing r) × (new ≡ old))
    → (new.array ≡ old.array) ⊎ IsFront old.array first blocks new.array
moment-by (Some r) old first blocks result new c = inl (ap (λ (d : FlatDisk). d.array) c.1)
moment-by None old first blocks (Ok done) new c = inr (record {
  done = length blocks;
  within = omega arith;
  written = ap (λ (d : FlatDisk). d.array) c.1 ∙ ap (λ bs. replaced old.array first bs) (sym (take_all (length blocks) blocks (omega arith)));
})
moment-by None old first blocks (Err fault) new c = inr c.2

-- ---- what a loss of power leaves

-- what is in a list that was mapped comes from one in the list
contains-mapped : {X Y : Type 0} (f : X → Y) (xs : List X) (y : Y) → Contains (map f xs) y → (x : X) × Contains xs x × (f x ≡ y)
contains-mapped f [] y (k, few, same) = absurd (omega (arith, few))
contains-mapped f (x ∷ xs) y (zero, few, same) = (x, (zero, omega arith, refl), same)
contains-mapped f (x ∷ xs) y (suc k, few, same) =
    let rest = contains-mapped f xs y (k, omega (arith, few), same) in
    (rest.0, (suc rest.1.0, omega (arith, rest.1.1), rest.1.2), rest.2)

-- and what is in a list is in the list once both are mapped
pub map_contains : {X Y : Type 0} (f : X → Y) (xs : List X) (x : X) → Contains xs x → Contains (map f xs) (f x)
map_contains f [] x (k, few, same) = absurd (omega (arith, few))
map_contains f (x ∷ xs) y (zero, few, same) = (zero, omega arith, ap f same)
map_contains f (x ∷ xs) y (suc k, few, same) = let rest = map_contains f xs y (k, omega (arith, few), same) in (suc rest.0, omega (arith, rest.1), rest.2)

-- nothing but the zones counts
since-same : (old new : DiskView) → new.drive.geometry ≡ old.drive.geometry → given_size new ≡ given_size old → new.drive.durable ≡ old.drive.durable → since_of true new ≡ since_of true old
since-same old new geometry given durable = rw (geometry, given, durable) refl

-- after a call that leaves what is durable: what was left before, or the array now
since-call : (flushes : Bool) (old new : DiskView) (Moment : List (List ℕ) → Type 0) → KeepsDisk old new → new.drive.durable ≡ old.drive.durable → (disk_array new ≡ disk_array old) ⊎ Moment (disk_array new)
    → (array : List (List ℕ)) → Contains (since_of flushes new) array → Contains (since_of flushes old) array ⊎ Moment array
since-call true old new Moment kept durable now array found = inl (rw (since-same old new kept.geometry kept.given durable) at found)
since-call false old new Moment kept durable (inl same) array found = inl (contains-only (disk_array old) array (sym same ∙ only (disk_array new) array found))
since-call false old new Moment kept durable (inr moment) array found = inr (rw (only (disk_array new) array found) at moment)

-- a part of a call may be nothing
part-none : (call : Call) (array : List (List ℕ)) → IsPart call array array
part-none (read first n) array = refl
part-none (write first blocks) array = same-torn array first blocks array refl
part-none (write_list puts) array = record { length_is = refl; either = λ place. inl refl }
part-none (grow size) array = refl
part-none flush array = refl
part-none idle array = refl
part-none report array = refl

-- the same of every store: what was left before, with a part of the call
since-part : (flushes : Bool) (old new : DiskView) (call : Call) → KeepsDisk old new → new.drive.durable ≡ old.drive.durable → IsPart call (disk_array old) (disk_array new)
    → (array : List (List ℕ)) → Contains (since_of flushes new) array → ComesFrom (since_of flushes old) call array
since-part true old new call kept durable part array found = record {
  before = array;
  was = rw (since-same old new kept.geometry kept.given durable) at found;
  part = part-none call array;
}
since-part false old new call kept durable part array found = record {
  before = disk_array old;
  was = contains-only (disk_array old) (disk_array old) refl;
  part = rw (only (disk_array new) array found) at part;
}

-- a write that was done in part
moment-part : (first : ℕ) (blocks old new : List (List ℕ)) → (new ≡ old) ⊎ IsFront old first blocks new → IsTorn old first blocks new
moment-part first blocks old new (inl same) = same-torn old first blocks new same
moment-part first blocks old new (inr front) = front-torn old first blocks new front

-- the zones as they are hold the array of the disk
array-now : (disk : DiskView) (zones : List Zone) → zones ≡ map restarted_zone disk.drive.zones → array_with disk zones ≡ disk_array disk
array-now disk zones is = rw (is, contents-restarted disk.drive.zones) refl

-- ---- calls

-- a store that serves this disk
abbrev pub served : DiskView → ℕ → Bool → Bool → Bool → StoreView
served disk syncs read_only cleans flushes =
    record { disk = disk; pending = []; since = since_of flushes disk; syncs = syncs; read_only = read_only; cleans = cleans; flushes = flushes; defers = false; fails = false }

-- a call of the disk goes through
through-disk : (old new : DiskView) (syncs : ℕ) (read_only cleans flushes : Bool) (call : Call) → KeepsDisk old new
    → ((array : List (List ℕ)) → Contains (since_of flushes new) array → Contains (since_of flushes old) array ⊎ IsMoment (flat_of old) call array)
    → CallsDisk (served old syncs read_only cleans flushes) call (served new syncs read_only cleans flushes)
through-disk old new syncs read_only cleans flushes call kept since = record { kept = kept; since = since }

-- at most as many batches are written as blocks
few-by : (n most : ℕ) → div_ceil n most ≤ n
few-by n zero = omega (arith, div-zero n, mod-le n zero)
few-by n (suc k) = div_ceil-le n (suc k) n (omega arith) (omega (arith, mul-le n 1 n (suc k) (omega arith) (omega arith)))

few-batches : (is_trim : Bool) (disk : DiskView) (n : ℕ) → most_batches is_trim disk n ≤ n
few-batches false disk n = omega arith
few-batches true disk n = few-by n (batch_most disk.drive.geometry)

-- so each block pays for a batch
block-pays : (c d batches n each : ℕ) → batches ≤ n → c ≤ d + batches * each → c + 0 * each ≤ d + 0 * each + n * each
block-pays c d batches n each few costs = omega (arith, costs, mul-le batches each n each few (omega arith))

blocks-pay : (old new : DiskView) (syncs : ℕ) (read_only cleans flushes : Bool) (batches n : ℕ) → batches ≤ n → CostsBatches old batches new
    → PaysFor (served old syncs read_only cleans flushes) n (served new syncs read_only cleans flushes)
blocks-pay old new syncs read_only cleans flushes batches n few costs =
    record {
      unfailing = λ up. block-pays new.drive.completed old.drive.completed batches n (batch_commands old.drive.geometry) few (costs.unfailing up);
      failing = block-pays new.drive.completed old.drive.completed batches n (failing_commands old.drive.geometry) few costs.failing;
    }

-- a write of the disk is a write of the store
pub write_called : (is_trim : Bool) (old new : DiskView) (syncs : ℕ) (read_only cleans flushes : Bool) (first : ℕ) (blocks : List (List ℕ)) (n : ℕ) (result : Result (Unit {0}) DiskFault) → Answers old (write first blocks) result new
    → Stores is_trim old first n result new → CostsAtMost old (most_batches is_trim old n) result new
    → Writes is_trim (served old syncs read_only cleans flushes) (write first blocks) first n (with_nothing result) (served new syncs read_only cleans flushes)
write_called is_trim old new syncs read_only cleans flushes first blocks n result a stores costs =
    let moment = moment-by (known_answer (flat_of old) (write first blocks)) (flat_of old) first blocks result (flat_of new) a.flat in
    record {
      calls = record {
        flat = a.flat;
        kept = keeps_call old new a.kept;
        durable = a.durable;
        cause = a.cause;
        since = since-part flushes old new (write first blocks) a.kept a.durable (moment-part first blocks (disk_array old) (disk_array new) moment);
        pending = λ w found. absurd (in-none w found);
        none = λ prompt. refl;
        syncs = refl;
        mode = record { read_only = refl; cleans = refl; flushes = refl; defers = refl; fails = refl };
        through = λ none. through-disk old new syncs read_only cleans flushes (write first blocks) a.kept (since-call flushes old new (IsFront (disk_array old) first blocks) a.kept a.durable moment);
      };
      turns = costs.turns;
      due = blocks-pay old new syncs read_only cleans flushes (most_batches is_trim old n) n (few-batches is_trim old n) costs.completed;
      through = λ none. record { stores = stores; costs = costs };
    }

-- the array after a list is the old one, or that after its first blocks
list-moment : (known : Option (Result (Unit {0}) DiskFault)) (old : FlatDisk) (puts : List Put) (result : Result (Unit {0}) DiskFault) (new : FlatDisk)
    → MatchOption known (Begun old (write_list puts) result [] new) (λ r. (with_nothing result ≡ with_nothing r) × (new ≡ old))
    → (new.array ≡ old.array) ⊎ IsListFront old.array puts new.array
list-moment (Some r) old puts result new c = inl (ap (λ (d : FlatDisk). d.array) c.1)
list-moment None old puts (Ok done) new c = inr (record {
  done = length puts;
  within = omega arith;
  written = ap (λ (d : FlatDisk). d.array) c.1 ∙ ap (λ (ps : List Put). put_all old.array ps) (sym (take_all (length puts) puts (omega arith)));
})
list-moment None old puts (Err fault) new c = inr c.2

list-part : (puts : List Put) (old new : List (List ℕ)) → IsDistinct nat_eq (map (λ (p : Put). p.block) puts) → (new ≡ old) ⊎ IsListFront old puts new → IsListTorn old puts new
list-part puts old new distinct (inl same) = record { length_is = ap length same; either = λ place. inl (ap (λ (a : List (List ℕ)). get_or a place []) same) }
list-part puts old new distinct (inr front) = list-torn old puts new distinct front

-- a list of the disk is a list of the store
pub list_called : (old new : DiskView) (syncs : ℕ) (read_only cleans flushes : Bool) (entries : List Entry) (bytes : List ℕ) (result : Result (Unit {0}) DiskFault) → IsDistinct nat_eq (blocks_named entries)
    → Answers old (write_entries old entries bytes) result new → StoresList old entries result new → CostsAtMost old (length entries) result new
    → WritesList (served old syncs read_only cleans flushes) entries bytes (with_nothing result) (served new syncs read_only cleans flushes)
list_called old new syncs read_only cleans flushes entries bytes result distinct a stores costs =
    let puts = list_puts old entries bytes in
    let apart : IsDistinct nat_eq (map (λ (p : Put). p.block) puts) = rw (blocks-put old.drive.geometry.block entries (cut_blocks old.drive.geometry.block (data_count entries) bytes)) distinct in
    let moment = list-moment (known_answer (flat_of old) (write_list puts)) (flat_of old) puts result (flat_of new) a.flat in
    record {
      calls = record {
        flat = a.flat;
        kept = keeps_call old new a.kept;
        durable = a.durable;
        cause = a.cause;
        since = since-part flushes old new (write_list puts) a.kept a.durable (list-part puts (disk_array old) (disk_array new) apart moment);
        pending = λ w found. absurd (in-none w found);
        none = λ prompt. refl;
        syncs = refl;
        mode = record { read_only = refl; cleans = refl; flushes = refl; defers = refl; fails = refl };
        through = λ none. through-disk old new syncs read_only cleans flushes (write_list puts) a.kept (since-call flushes old new (IsListFront (disk_array old) puts) a.kept a.durable moment);
      };
      turns = costs.turns;
      due = blocks-pay old new syncs read_only cleans flushes (length entries) (length entries) (omega arith) costs.completed;
      through = λ none. record { stores = stores; costs = costs };
    }

-- a fault of the disk is told as it is
refused_so : (A : Result (Unit {0}) DiskFault → Type 0) (F : Type 0) (result : Result (Unit {0}) StoreFault) (fault : DiskFault) → IsErrAnd result (λ e. e ≡ Disk fault) → A (Err fault) → OrFails A F result
refused_so A F (Ok x) fault is a = absurd is
refused_so A F (Err e) fault is a = rw is a

-- a write that the disk refused, the store refuses
pub write_refused : (is_trim : Bool) (old new : DiskView) (syncs : ℕ) (read_only cleans flushes : Bool) (first : ℕ) (blocks : List (List ℕ)) (n : ℕ) (result : Result (Unit {0}) StoreFault) (fault : DiskFault) → IsErrAnd result (λ e. e ≡ Disk fault)
    → Answers old (write first blocks) (Err fault) new → Stores is_trim old first n (Err fault) new → CostsAtMost old (most_batches is_trim old n) (Err fault) new
    → OrFails (λ answer. Writes is_trim (served old syncs read_only cleans flushes) (write first blocks) first n (with_nothing answer) (served new syncs read_only cleans flushes))
    (Spares (served old syncs read_only cleans flushes) first n (served new syncs read_only cleans flushes)) result
write_refused is_trim old new syncs read_only cleans flushes first blocks n result fault is a stores costs =
    refused_so (λ answer. Writes is_trim (served old syncs read_only cleans flushes) (write first blocks) first n (with_nothing answer) (served new syncs read_only cleans flushes))
    (Spares (served old syncs read_only cleans flushes) first n (served new syncs read_only cleans flushes)) result fault is
    (write_called is_trim old new syncs read_only cleans flushes first blocks n (Err fault) a stores costs)

-- the array after a turn of cleaning is the old one
turn-kept : (known : Option (Result (Unit {0}) DiskFault)) (old : FlatDisk) (result : Result (Unit {0}) DiskFault) (new : FlatDisk)
    → MatchOption known (Begun old idle result [] new) (λ r. (with_nothing result ≡ with_nothing r) × (new ≡ old)) → new.array ≡ old.array
turn-kept (Some r) old result new c = ap (λ (d : FlatDisk). d.array) c.1
turn-kept None old (Ok done) new c = ap (λ (d : FlatDisk). d.array) c.1
turn-kept None old (Err fault) new c = c.2

-- a turn of the disk is a turn of the store
pub turn_taken : (old new : DiskView) (syncs : ℕ) (flushes : Bool) (result : Result (Unit {0}) DiskFault) → Answers old idle result new → TakesTurn old result new → CompletesAtMost old 2 new
    → Rests (served old syncs false true flushes) (served new syncs false true flushes)
turn_taken old new syncs flushes result a turn completed =
    let same = turn-kept (known_answer (flat_of old) idle) (flat_of old) result (flat_of new) a.flat in
    record {
      result = result;
      calls = record {
        flat = a.flat;
        kept = keeps_call old new a.kept;
        durable = a.durable;
        cause = a.cause;
        since = since-part flushes old new idle a.kept a.durable same;
        pending = λ w found. absurd (in-none w found);
        none = λ prompt. refl;
        syncs = refl;
        mode = record { read_only = refl; cleans = refl; flushes = refl; defers = refl; fails = refl };
        through = λ none. through-disk old new syncs false true flushes idle a.kept (since-call flushes old new (λ array. array ≡ disk_array old) a.kept a.durable (inr same));
      };
      turn = turn;
      completed = completed;
      pending = refl;
    }

-- a read leaves the array, done or refused
pub read-kept : (known : Option (Result (Unit {0}) DiskFault)) (old : FlatDisk) (first n : ℕ) (answer : Answer) (result : Result (Unit {0}) DiskFault) (shown : List (List ℕ)) (new : FlatDisk)
    → MatchOption known (Begun old (read first n) result shown new) (λ r. (answer ≡ with_nothing r) × (new ≡ old)) → new.array ≡ old.array
read-kept (Some r) old first n answer result shown new c = ap (λ (d : FlatDisk). d.array) c.1
read-kept None old first n answer (Ok done) shown new c = ap (λ (d : FlatDisk). d.array) c.1
read-kept None old first n answer (Err fault) shown new c = c.2

-- a read of the disk is a read of the store
pub read_called : (old new : DiskView) (syncs : ℕ) (read_only cleans flushes : Bool) (first n : ℕ) (result : Result (Unit {0}) DiskFault) (bytes : List ℕ) → AnswersRead old first n result bytes new
    → disk_turns new ≡ disk_turns old → CompletesAtMost old n new → Shows (served old syncs read_only cleans flushes) first n result bytes (served new syncs read_only cleans flushes)
read_called old new syncs read_only cleans flushes first n result bytes a turns completed =
    let same = read-kept (known_answer (flat_of old) (read first n)) (flat_of old) first n _ result a.flat.shown (flat_of new) a.flat.flat in
    record {
      shown = a.flat.shown;
      reads = record {
        calls = record {
          flat = a.flat.flat;
          kept = keeps_call old new a.kept;
          durable = a.durable;
          cause = a.cause;
          since = since-part flushes old new (read first n) a.kept a.durable same;
          pending = λ w found. absurd (in-none w found);
          none = λ prompt. refl;
          syncs = refl;
          mode = record { read_only = refl; cleans = refl; flushes = refl; defers = refl; fails = refl };
          through = λ none. through-disk old new syncs read_only cleans flushes (read first n) a.kept (since-call flushes old new (λ array. array ≡ disk_array old) a.kept a.durable (inr same));
        };
        turns = turns;
        completed = completed;
        pending = refl;
      };
      bytes_are = a.flat.bytes_are;
    }

-- a read that the disk refused, the store refuses
pub read_refused : (old new : DiskView) (syncs : ℕ) (read_only cleans flushes : Bool) (first n : ℕ) (result : Result (Unit {0}) StoreFault) (fault : DiskFault) (bytes : List ℕ) → IsErrAnd result (λ e. e ≡ Disk fault)
    → AnswersRead old first n (Err fault) bytes new → disk_turns new ≡ disk_turns old → CompletesAtMost old n new
    → OrFails (λ answer. Shows (served old syncs read_only cleans flushes) first n answer bytes (served new syncs read_only cleans flushes))
    ((bytes ≡ []) × Spares (served old syncs read_only cleans flushes) first n (served new syncs read_only cleans flushes)) result
read_refused old new syncs read_only cleans flushes first n result fault bytes is a turns completed =
    refused_so (λ answer. Shows (served old syncs read_only cleans flushes) first n answer bytes (served new syncs read_only cleans flushes))
    ((bytes ≡ []) × Spares (served old syncs read_only cleans flushes) first n (served new syncs read_only cleans flushes)) result fault is
    (read_called old new syncs read_only cleans flushes first n (Err fault) bytes a turns completed)

-- ---- syncs of a disk that is not flushed

-- nothing is sent, and the array is the only one
pub silent_keeps : (disk : DiskView) (syncs more : ℕ) (read_only cleans : Bool) → syncs ≤ more
    → KeepsBySync (served disk syncs read_only cleans false) (served disk more read_only cleans false)
silent_keeps disk syncs more read_only cleans grows = record {
  array = refl;
  kept = keeps_same disk;
  durable = λ zones left. inl left;
  turns = λ none. refl;
  completed = bound_always _ disk disk (λ each. omega arith);
  pending = λ w found. found;
  since = λ array found. inl found;
  syncs = grows;
  mode = record { read_only = refl; cleans = refl; flushes = refl; defers = refl; fails = refl };
  silent = λ off none. record { disk = refl; since = λ array found. found };
}

pub silent_hardens : (disk : DiskView) (syncs more : ℕ) (read_only cleans : Bool) → syncs < more
    → Hardens (λ (pending : List Pending). pending ≡ []) (served disk syncs read_only cleans false) (served disk more read_only cleans false)
silent_hardens disk syncs more read_only cleans grows = record {
  keeps = silent_keeps disk syncs more read_only cleans (omega (arith, grows));
  flat = refl;
  turns = omega arith;
  more = grows;
  done = refl;
  since = λ array found. sym (only (disk_array disk) array found);
}

-- ---- syncs of a disk that is flushed

-- the disk after a flush that was done is as it was
flat-done : (known : Option (Result (Unit {0}) DiskFault)) (old new : FlatDisk) → known ≡ None → MatchOption known (Begun old flush (Ok tt) [] new) (λ r. (with_nothing (Ok tt) ≡ with_nothing r) × (new ≡ old)) → new ≡ old
flat-done (Some r) old new none c = absurd (cc none)
flat-done None old new none c = c.1

-- a loss of power leaves what it could before, or the array
since-flushed : (old new : DiskView) → KeepsDisk old new → MayBeDurable old.drive new.drive
    → (array : List (List ℕ)) → Contains (since_of true new) array → Contains (since_of true old) array ⊎ (array ≡ disk_array new)
since-flushed old new kept may array found =
    let from = contains-mapped (array_with new) new.drive.durable array found in
    elim (may from.0 from.1) [
      | inl before ↦ inl (contains-map old new kept from.0 array before from.2)
      | inr now ↦ inr (sym from.2 ∙ array-now new from.0 now)
    ]
  where
    contains-map : (old new : DiskView) → KeepsDisk old new → (zones : List Zone) (array : List (List ℕ)) → Contains old.drive.durable zones → array_with new zones ≡ array → Contains (since_of true old) array
    contains-map old new kept zones array before is =
        let there : Contains (since_of true old) (array_with old zones) = map_contains (array_with old) old.drive.durable zones before in
        let both : array_with new zones ≡ array_with old zones = rw (kept.geometry, kept.given) refl in
        rw (sym both ∙ is) at there

-- what a flush keeps, whatever it answers, with its count
flush_keeps : (old new : DiskView) (syncs more : ℕ) (read_only cleans : Bool) → disk_array new ≡ disk_array old → KeepsDisk old new → MayBeDurable old.drive new.drive → disk_turns new ≡ disk_turns old → CompletesAtMost old 1 new → syncs ≤ more
    → KeepsBySync (served old syncs read_only cleans true) (served new more read_only cleans true)
flush_keeps old new syncs more read_only cleans array kept durable turns completed grows = record {
  array = array;
  kept = keeps_call old new kept;
  durable = durable;
  turns = λ none. turns;
  completed = bound_always _ old new (λ each. omega (arith, completed));
  pending = λ w found. found;
  since = since-flushed old new kept durable;
  syncs = grows;
  mode = record { read_only = refl; cleans = refl; flushes = refl; defers = refl; fails = refl };
  silent = λ off none. absurd (cc off);
}

-- what is durable after a flush is the zones as they are
may-be : (old new : DriveState) → IsDurable new → MayBeDurable old new
may-be old new is = λ zones left. inr (is zones left)

-- a flush that was done
pub flush_done : (old new : DiskView) (syncs more : ℕ) (read_only cleans : Bool) → answer_while old.status ≡ None → Answers old flush (Ok tt) new → disk_turns new ≡ disk_turns old → CompletesAtMost old 1 new → syncs ≤ more
    → KeepsBySync (served old syncs read_only cleans true) (served new more read_only cleans true) × (flat_of new ≡ flat_of old)
flush_done old new syncs more read_only cleans serves a turns completed grows =
    let flat = flat-done (known_answer (flat_of old) flush) (flat_of old) (flat_of new) serves a.flat in
    (flush_keeps old new syncs more read_only cleans (ap (λ (d : FlatDisk). d.array) flat) a.kept (may-be old.drive new.drive a.durable) turns completed grows, flat)

pub flush_hardens : (old new : DiskView) (syncs more : ℕ) (read_only cleans : Bool) → answer_while old.status ≡ None → Answers old flush (Ok tt) new → disk_turns new ≡ disk_turns old → CompletesAtMost old 1 new → syncs < more
    → Hardens (λ (pending : List Pending). pending ≡ []) (served old syncs read_only cleans true) (served new more read_only cleans true)
flush_hardens old new syncs more read_only cleans serves a turns completed grows =
    let done = flush_done old new syncs more read_only cleans serves a turns completed (omega (arith, grows)) in
    record {
      keeps = done.0;
      flat = done.1;
      turns = omega (arith, turns);
      more = grows;
      done = refl;
      since = λ array found.
          (let from = contains-mapped (array_with new) new.drive.durable array found in
          sym from.2 ∙ array-now new from.0 (a.durable from.0 from.1));
    }

-- the disk after a flush that was not done
flat-fails : (known : Option (Result (Unit {0}) DiskFault)) (old : FlatDisk) (fault : DiskFault) (new : FlatDisk) → known ≡ None
    → MatchOption known (Begun old flush (Err fault) [] new) (λ r. (with_nothing (Err fault) ≡ with_nothing r) × (new ≡ old))
    → (may_refuse flush fault ≡ true) × (new ≡ record old { status = status_after (Err fault) })
flat-fails (Some r) old fault new none c = absurd (cc none)
flat-fails None old fault new none c = (c.0, c.3 ∙ ap (λ (a : List (List ℕ)). record old { array = a; status = status_after (Err fault) }) c.2)

-- a flush that was not done
pub flush_fails : (old new : DiskView) (syncs : ℕ) (read_only cleans : Bool) (fault : DiskFault) → answer_while old.status ≡ None → Answers old flush (Err fault) new → disk_turns new ≡ disk_turns old → CompletesAtMost old 1 new
    → FailsSync (served old syncs read_only cleans true) fault (served new syncs read_only cleans true)
flush_fails old new syncs read_only cleans fault serves a turns completed =
    let fails = flat-fails (known_answer (flat_of old) flush) (flat_of old) fault (flat_of new) serves a.flat in
    record {
      keeps = flush_keeps old new syncs syncs read_only cleans (ap (λ (d : FlatDisk). d.array) fails.1) a.kept a.durable turns completed (omega arith);
      flushes = λ none. refl;
      may = fails.0;
      flat = fails.1;
      cause = a.cause;
    }

-- ---- whatever the Reads of the drive returned

-- the store stays what it is
pub disk_stays : (old new : DiskView) (syncs more : ℕ) (read_only cleans flushes : Bool) → StaysAlike old new → syncs ≤ more → Stays (served old syncs read_only cleans flushes) (served new more read_only cleans flushes)
disk_stays old new syncs more read_only cleans flushes alike grows = record {
  disk = alike;
  mode = record { read_only = refl; cleans = refl; flushes = refl; defers = refl; fails = refl };
  syncs = grows;
  none = λ prompt none. refl;
}

pub disk_calls : (old new : DiskView) (syncs : ℕ) (read_only cleans flushes : Bool) → StaysAlike old new → StaysByCall (served old syncs read_only cleans flushes) (served new syncs read_only cleans flushes)
disk_calls old new syncs read_only cleans flushes alike = record { stays = disk_stays old new syncs syncs read_only cleans flushes alike (omega arith); syncs = refl }

-- a read that is refused shows nothing
refused-shown : (known : Option (Result (Unit {0}) DiskFault)) (old : FlatDisk) (first n : ℕ) (fault : DiskFault) (shown : List (List ℕ)) (new : FlatDisk)
    → MatchOption known (Begun old (read first n) (Err fault) shown new) (λ r. (record { result = Err fault; shown = shown } ≡ with_nothing r) × (new ≡ old)) → shown ≡ []
refused-shown (Some r) old first n fault shown new c = ap (λ (a : Answer). a.shown) c.0
refused-shown None old first n fault shown new c = c.1

-- and what is empty afterwards was so
pub read_cleared : (old new : DiskView) (first n : ℕ) (fault : DiskFault) (bytes left : List ℕ) → AnswersRead old first n (Err fault) bytes new → left ≡ [] → AnswersRead old first n (Err fault) left new
read_cleared old new first n fault bytes left a empty =
    let none = refused-shown (known_answer (flat_of old) (read first n)) (flat_of old) first n fault a.flat.shown (flat_of new) a.flat.flat in
    subst (λ (bs : List ℕ). AnswersRead old first n (Err fault) bs new) (a.flat.bytes_are ∙ ap concat none ∙ sym empty) a
