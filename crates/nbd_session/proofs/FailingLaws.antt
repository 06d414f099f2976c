-- What a store gives whose medium may fail besides: what the store below gives.
use Rattle.std.proofs.Common.{◌≡◌, ℕ, List, [], Ok, Err, true, false, refl, ap, inl, inr}
use Rattle.std.specs.Prelude.{◌||◌, Bool, Result}
use Rattle.batch_log.specs.declared.header.Entry.{Entry}
use Rattle.zone_translator.specs.Answers.{write_entries}
use Rattle.zone_translator.specs.Flat.{Answer, Call, read, with_nothing}
use Rattle.zone_translator.specs.declared.fault.DiskFault.{DiskFault}
use Rattle.nbd_session.specs.declared.fault.StoreFault.{StoreFault}
use Rattle.nbd_session.specs.declared.fault.StoreFault.TheVariants.{Disk, Medium}
use Rattle.nbd_session.specs.Failing.{failing}
use Rattle.nbd_session.specs.Pending.{Pending}
use Rattle.nbd_session.specs.Store.{Calls, FailsSync, Hardens, KeepsBySync, KeepsMode, OrFails, ReadsBlocks, Rests, RestsAnyway, RestsBy, Shows, Spares, Stays, StaysByCall, StaysBySync, StoreView, SyncsBy, Writes, WritesList}

-- what the store below may do, the store may
below-fails : (may below : Bool) → below ≡ true → (may || below) ≡ true
below-fails true below is = refl
below-fails false below is = is

-- so its mode is kept where that of the store below is
pub mode-failing : (may : Bool) (old new : StoreView) → KeepsMode old new → KeepsMode (failing may old) (failing may new)
mode-failing may old new m = record {
  read_only = m.read_only;
  cleans = m.cleans;
  flushes = m.flushes;
  defers = m.defers;
  fails = ap (λ (below : Bool). may || below) m.fails;
}

-- ---- calls

calls-failing : (may : Bool) (old : StoreView) (call : Call) (answer : Answer) (new : StoreView) → Calls old call answer new → Calls (failing may old) call answer (failing may new)
calls-failing may old call answer new c = record {
  flat = c.flat;
  kept = c.kept;
  durable = c.durable;
  cause = c.cause;
  since = c.since;
  pending = c.pending;
  none = c.none;
  syncs = c.syncs;
  mode = mode-failing may old new c.mode;
  through = λ none. (let t = c.through none in record { kept = t.kept; since = t.since });
}

writes-failing : (may is_trim : Bool) (old : StoreView) (call : Call) (first n : ℕ) (answer : Answer) (new : StoreView) → Writes is_trim old call first n answer new → Writes is_trim (failing may old) call first n answer (failing may new)
writes-failing may is_trim old call first n answer new w = record {
  calls = calls-failing may old call answer new w.calls;
  turns = w.turns;
  due = w.due;
  through = w.through;
}

reads-failing : (may : Bool) (old : StoreView) (first n : ℕ) (answer : Answer) (new : StoreView) → ReadsBlocks old first n answer new → ReadsBlocks (failing may old) first n answer (failing may new)
reads-failing may old first n answer new r = record {
  calls = calls-failing may old (read first n) answer new r.calls;
  turns = r.turns;
  completed = r.completed;
  pending = r.pending;
}

shows-failing : (may : Bool) (old : StoreView) (first n : ℕ) (result : Result (Unit {0}) DiskFault) (bytes : List ℕ) (new : StoreView) → Shows old first n result bytes new → Shows (failing may old) first n result bytes (failing may new)
shows-failing may old first n result bytes new s = record {
  shown = s.shown;
  reads = reads-failing may old first n (record { result = result; shown = s.shown }) new s.reads;
  bytes_are = s.bytes_are;
}

-- the medium of the store below may fail, too
spares-failing : (may : Bool) (old : StoreView) (first n : ℕ) (new : StoreView) → Spares old first n new → Spares (failing may old) first n (failing may new)
spares-failing may old first n new s = record {
  may = below-fails may old.fails s.may;
  begun = s.begun;
  flat = s.flat;
  kept = s.kept;
  durable = s.durable;
  written = s.written;
  turns = s.turns;
  due = s.due;
  since = s.since;
  pending = s.pending;
  syncs = s.syncs;
  mode = mode-failing may old new s.mode;
}

-- what follows from an answer, and from a fault of the medium
or-fails : (A B : Result (Unit {0}) DiskFault → Type 0) (F G : Type 0) (result : Result (Unit {0}) StoreFault) → ((answer : Result (Unit {0}) DiskFault) → A answer → B answer) → (F → G) → OrFails A F result → OrFails B G result
or-fails A B F G (Ok done) so then o = so (Ok tt) o
or-fails A B F G (Err (Disk fault)) so then o = so (Err fault) o
or-fails A B F G (Err Medium) so then o = then o

-- a write of the store below
pub write_failing : (may is_trim : Bool) (old : StoreView) (call : Call) (first n : ℕ) (result : Result (Unit {0}) StoreFault) (new : StoreView) → OrFails (λ answer. Writes is_trim old call first n (with_nothing answer) new) (Spares old first n new) result
    → OrFails (λ answer. Writes is_trim (failing may old) call first n (with_nothing answer) (failing may new)) (Spares (failing may old) first n (failing may new)) result
write_failing may is_trim old call first n result new =
    or-fails (λ answer. Writes is_trim old call first n (with_nothing answer) new) (λ answer. Writes is_trim (failing may old) call first n (with_nothing answer) (failing may new)) (Spares old first n new) (Spares (failing may old) first n (failing may new)) result
    (λ answer. writes-failing may is_trim old call first n (with_nothing answer) new) (spares-failing may old first n new)

-- and a read of it
pub read_failing : (may : Bool) (old : StoreView) (first n : ℕ) (bytes : List ℕ) (result : Result (Unit {0}) StoreFault) (new : StoreView) → OrFails (λ answer. Shows old first n answer bytes new) ((bytes ≡ []) × Spares old first n new) result
    → OrFails (λ answer. Shows (failing may old) first n answer bytes (failing may new)) ((bytes ≡ []) × Spares (failing may old) first n (failing may new)) result
read_failing may old first n bytes result new =
    or-fails (λ answer. Shows old first n answer bytes new) (λ answer. Shows (failing may old) first n answer bytes (failing may new)) ((bytes ≡ []) × Spares old first n new) ((bytes ≡ []) × Spares (failing may old) first n (failing may new)) result
    (λ answer. shows-failing may old first n answer bytes new) (λ s. (s.0, spares-failing may old first n new s.1))

-- a list of the store below
pub list_failing : (may : Bool) (old : StoreView) (entries : List Entry) (bytes : List ℕ) (answer : Answer) (new : StoreView) → WritesList old entries bytes answer new → WritesList (failing may old) entries bytes answer (failing may new)
list_failing may old entries bytes answer new w = record {
  calls = calls-failing may old (write_entries old.disk entries bytes) answer new w.calls;
  turns = w.turns;
  due = w.due;
  through = w.through;
}

-- ---- syncs

keeps-failing : (may : Bool) (old new : StoreView) → KeepsBySync old new → KeepsBySync (failing may old) (failing may new)
keeps-failing may old new k = record {
  array = k.array;
  kept = k.kept;
  durable = k.durable;
  turns = k.turns;
  completed = k.completed;
  pending = k.pending;
  since = k.since;
  syncs = k.syncs;
  mode = mode-failing may old new k.mode;
  silent = λ off none. (let s = k.silent off none in record { disk = s.disk; since = s.since });
}

hardens-failing : (may : Bool) (IsDone : List Pending → Type 0) (old new : StoreView) → Hardens IsDone old new → Hardens IsDone (failing may old) (failing may new)
hardens-failing may IsDone old new h = record {
  keeps = keeps-failing may old new h.keeps;
  flat = h.flat;
  turns = h.turns;
  more = h.more;
  done = h.done;
  since = h.since;
}

fails-failing : (may : Bool) (old : StoreView) (fault : DiskFault) (new : StoreView) → FailsSync old fault new → FailsSync (failing may old) fault (failing may new)
fails-failing may old fault new f = record {
  keeps = keeps-failing may old new f.keeps;
  flushes = f.flushes;
  may = f.may;
  flat = f.flat;
  cause = f.cause;
}

pub syncs_failing : (may : Bool) (IsDone : List Pending → Type 0) (old : StoreView) (result : Result (Unit {0}) StoreFault) (new : StoreView) → SyncsBy IsDone old result new → SyncsBy IsDone (failing may old) result (failing may new)
syncs_failing may IsDone old (Ok done) new s = (s.0, hardens-failing may IsDone old new s.1)
syncs_failing may IsDone old (Err (Disk fault)) new (inl s) = inl (s.0, ap (failing may) s.1)
syncs_failing may IsDone old (Err (Disk fault)) new (inr s) = inr (s.0, fails-failing may old fault new s.1)
syncs_failing may IsDone old (Err Medium) new s = (s.0, keeps-failing may old new s.1, s.2)

-- ---- turns

rests_by-failing : (may turn : Bool) (old new : StoreView) → RestsBy turn old new → RestsBy turn (failing may old) (failing may new)
rests_by-failing may true old new t = record {
  result = t.result;
  calls = calls-failing may old _ _ new t.calls;
  turn = t.turn;
  completed = t.completed;
  pending = t.pending;
}
rests_by-failing may false old new same = ap (failing may) same

pub rests_failing : (may : Bool) (old new : StoreView) → Rests old new → Rests (failing may old) (failing may new)
rests_failing may old new r = rests_by-failing may _ old new r

-- ---- whatever the Reads of the drive returned

pub stays_failing : (may : Bool) (old new : StoreView) → Stays old new → Stays (failing may old) (failing may new)
stays_failing may old new s = record { disk = s.disk; mode = mode-failing may old new s.mode; syncs = s.syncs; none = s.none }

pub calls_stay-failing : (may : Bool) (old new : StoreView) → StaysByCall old new → StaysByCall (failing may old) (failing may new)
calls_stay-failing may old new s = record { stays = stays_failing may old new s.stays; syncs = s.syncs }

pub syncs_stay-failing : (may : Bool) (old : StoreView) (result : Result (Unit {0}) StoreFault) (new : StoreView) → StaysBySync old result new → StaysBySync (failing may old) result (failing may new)
syncs_stay-failing may old result new s = record { stays = stays_failing may old new s.stays; more = s.more }

pub rests_anyway-failing : (may : Bool) (old new : StoreView) → RestsAnyway old new → RestsAnyway (failing may old) (failing may new)
rests_anyway-failing may old new r = record {
  rests = λ clean. rests_failing may old new (r.rests clean);
  stays = calls_stay-failing may old new r.stays;
  still = λ off. ap (failing may) (r.still off);
}
