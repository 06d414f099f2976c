-- A session over a disk that forgets: what it leaves.
use Rattle.std.proofs.Common.{◌≡◌, ℕ, zero, suc, ◌≤◌, List, [], ◌∷◌, ◌++◌, length, None, arith, get_or, Result, Ok, Err, true, false, refl, ap, sym, inl, inr, ◌∙◌}
use Rattle.std.specs.Prelude.{◌&&◌, ◌||◌, not, Bool, IfOk, IsTrue}
use Rattle.nbd_wire.specs.declared.error_code.ErrorCode.{ErrorCode}
use Rattle.nbd_wire.specs.declared.request.Request.{Request}
use Rattle.zone_translator.proofs.DiskLaws.{alike-join}
use Rattle.zone_translator.proofs.KeepingLaws.{keeps_again, keeps_same}
use Rattle.std.proofs.lemmas.List.{length-append}
use Rattle.zone_translator.specs.Flat.{FlatDisk, idle, known_range, with_nothing}
use Rattle.zone_translator.specs.Keeping.{KeepsServed}
use Rattle.zone_translator.specs.View.{disk_array}
use Rattle.nbd_session.specs.Failing.{failing}
use Rattle.nbd_session.specs.Groups.{Asking, IsGroup, entries_of, named, span_entries}
use Rattle.nbd_session.specs.Manners.{while_clean}
use Rattle.nbd_session.specs.Pending.{Pending}
use Rattle.nbd_session.specs.Requests.{AnswersAsked, asked_of_store, data_length}
use Rattle.nbd_session.specs.Session.{AnswersBy, AnswersIn, Follows, ServesRequest, Session, session}
use Rattle.nbd_session.specs.Store.{KeepsMode, RestsBy, Stays, StoreView, Syncs, most_listed, store_array, store_flat}
use Rattle.nbd_session.specs.Streams.{Streams}
use Rattle.nbd_session.specs.Turns.{ServesAtMostAs}
use Rattle.nbd_session.specs.declared.asked.Asked.{Asked}
use Rattle.nbd_session.specs.declared.ending.SessionEnd.{SessionEnd}
use Rattle.nbd_session.specs.declared.ending.SessionEnd.TheVariants.{Disconnected, InputEnded, LimitReached}
use Rattle.nbd_session.specs.declared.fault.SessionFault.{SessionFault}
use Rattle.nbd_session.specs.declared.fault.StoreFault.{StoreFault}
use Rattle.nbd_session.specs.declared.fault.StoreFault.TheVariants.{Disk, Medium}
use Rattle.nbd_session.specs.declared.phase.Phase.{Phase}
use Rattle.nbd_session.specs.declared.phase.Phase.TheVariants as phases
use Rattle.nbd_session.proofs.FailingLaws.{mode-failing, syncs_failing}
use Rattle.nbd_session.proofs.WhileLaws.{at_most-while}
use Rattle.volatile_cache.specs.Cache.{Cache, Cuts}
use Rattle.volatile_cache.specs.Laws.{IsSettled, LeavesOut}
use Rattle.volatile_cache.specs.Outcomes.{cached, deferring}
use Rattle.volatile_cache.specs.Queue.{all_pending}
use Rattle.volatile_cache.specs.declared.cut.Lost.{Lost}
use Rattle.volatile_cache.proofs.CutLaws.{cut-settled, kill-outcome}
use Rattle.volatile_cache.proofs.RequestLaws.{request-settled}
use Rattle.volatile_cache.proofs.SettledLaws.{call-settled, kept-settled}
use Rattle.nbd_jobs.specs.Forgetting.{Applies, Forgets, ForgetsAs, IsCut, LeavesBy, LosesBy}
use Rattle.nbd_jobs.specs.Laws.{LeavesBlock, LeavesRequest, MessageKeepsSettled, SettledIsLeft}
use Rattle.nbd_jobs.specs.declared.forgetting.Forgotten.{Forgotten}
use Rattle.nbd_jobs.specs.declared.job.Forget.{Forget}

-- ---- a sync of the cache

-- nothing is pending above, if nothing is at all
none-above : (xs ys : List Pending) → xs ++ ys ≡ [] → ys ≡ []
none-above [] ys none = none
none-above (x ∷ xs) ys none = absurd (cc none)

-- what a sync through a cache keeps of the disk below
pub sync-kept : (below new : StoreView) (mine left : List Pending) (result : Result (Unit {0}) StoreFault) → Syncs (cached below mine) result (cached new left) → KeepsServed below.disk new.disk
sync-kept below new mine left (Ok done) s = s.1.keeps.kept
sync-kept below new mine left (Err (Disk fault)) (inl s) = let same : new.disk ≡ below.disk = ap (λ (store : StoreView). store.disk) s.1 in rw same (keeps_same below.disk)
sync-kept below new mine left (Err (Disk fault)) (inr s) = s.1.keeps.kept
sync-kept below new mine left (Err Medium) s = s.1.kept

mode-below : (below new : StoreView) (mine left : List Pending) → KeepsMode (cached below mine) (cached new left) → KeepsMode (deferring below) (deferring new)
mode-below below new mine left m = record { read_only = m.read_only; cleans = m.cleans; flushes = m.flushes; defers = refl; fails = m.fails }

-- done, nothing is pending in the cache
pub sync-applies : (below new : StoreView) (mine left : List Pending) → Syncs (cached below mine) (Ok tt) (cached new left) → Applies below mine (Ok 0) new
sync-applies below new mine left s = (rw (none-above new.pending left s.1.done) at s, refl)

-- ---- a cut of the cache

-- what a cut that is done tells
pub cut-done : {S : Type 0} (view : S → StoreView) (forget : Forget) (old : Cache S) (lost : Lost) (new : Cache S) → Cuts view forget.seed forget.odds old (Ok lost) new
    → IsCut forget (view old.store) (all_pending old.kept) (Ok lost.lost) (view new.store)
cut-done view forget old lost new (falls, (durable, count, few, by, left)) = record { outcome = falls.outcome; done = (durable, omega (arith, count, few)); count = by; chosen = left; why = tt }

-- and one that fails
pub cut-failed : {S : Type 0} (view : S → StoreView) (forget : Forget) (old : Cache S) (fault : StoreFault) (new : Cache S) → Cuts view forget.seed forget.odds old (Err fault) new
    → IsCut forget (view old.store) (all_pending old.kept) (Err fault) (view new.store)
cut-failed view forget old fault new (falls, why) = record { outcome = falls.outcome; done = tt; count = tt; chosen = tt; why = why }

-- ---- whatever the Reads returned

-- what stays of a store with a cache above it stays of the store below
pub stays_below : (below new : StoreView) (mine left : List Pending) → Stays (cached below mine) (cached new left) → Stays (deferring below) (deferring new)
stays_below below new mine left s = record { disk = s.disk; mode = mode-below below new mine left s.mode; syncs = s.syncs; none = λ prompt none. absurd (cc prompt) }

pub stays_deferring : (old new : StoreView) → Stays old new → Stays (deferring old) (deferring new)
stays_deferring old new s = record {
  disk = s.disk;
  mode = record { read_only = s.mode.read_only; cleans = s.mode.cleans; flushes = s.mode.flushes; defers = refl; fails = s.mode.fails };
  syncs = s.syncs;
  none = λ prompt none. absurd (cc prompt);
}

-- what stays through a session over a cache whose medium may fail, and through its end, stays of the store below
stays-through : (may may' : Bool) (old below new : StoreView) (mine : List Pending) → Stays (failing may (cached old [])) (failing may' (cached below mine)) → Stays (deferring below) (deferring new)
    → Stays (deferring (failing may old)) (deferring (failing may' new))
stays-through may may' old below new mine x y = record {
  disk = alike-join old.disk below.disk new.disk x.disk y.disk;
  mode = record {
    read_only = y.mode.read_only ∙ x.mode.read_only;
    cleans = y.mode.cleans ∙ x.mode.cleans;
    flushes = y.mode.flushes ∙ x.mode.flushes;
    defers = refl;
    fails = ap (λ (fails : Bool). may' || fails) y.mode.fails ∙ x.mode.fails;
  };
  syncs = omega (arith, x.syncs, y.syncs);
  none = λ prompt none. absurd (cc prompt);
}

-- ---- a medium that fails in requests

cut-failing : (may : Bool) (forget : Forget) (below new : StoreView) (mine : List Pending) (lost : Result ℕ StoreFault) → IsCut forget below mine lost new → IsCut forget (failing may below) mine lost (failing may new)
cut-failing may forget below new mine lost c = record { outcome = c.outcome; done = c.done; count = c.count; chosen = c.chosen; why = c.why }

-- the end leaves the same of a store whose medium may fail
leaves-failing : (may : Bool) (forget : Forget) (ended : Result SessionEnd SessionFault) (below new : StoreView) (mine : List Pending) (lost : Result ℕ StoreFault) → LeavesBy forget ended below mine lost new → LeavesBy forget ended (failing may below) mine lost (failing may new)
leaves-failing may forget (Ok Disconnected) below new mine (Ok lost) l = (syncs_failing may (λ (pending : List Pending). pending ≡ []) (cached below mine) (Ok tt) (cached new []) l.0, l.1)
leaves-failing may forget (Ok Disconnected) below new mine (Err fault) l = (l.0, syncs_failing may (λ (pending : List Pending). pending ≡ []) (cached below mine) (Err fault) (cached new l.0) l.1)
leaves-failing may forget (Ok InputEnded) below new mine lost l = cut-failing may forget below new mine lost l
leaves-failing may forget (Ok LimitReached) below new mine lost l = cut-failing may forget below new mine lost l
leaves-failing may forget (Err fault) below new mine lost l = cut-failing may forget below new mine lost l

-- a store was served with an empty cache above it, and above that a medium that may fail
pub forgets-failing : (may may' : Bool) (forget : Forget) (bytes : Streams) (old below new : StoreView) (mine : List Pending) (told : Forgotten)
    → ServesAtMostAs while_clean forget.cut_after bytes (session phases.Greeting (failing may (cached old []))) told.ended (failing may' (cached below mine))
    → (IsTrue below.disk.drive.clean → KeepsServed old.disk below.disk) → Stays (failing may (cached old [])) (failing may' (cached below mine)) → told.pending ≡ length mine
    → (IsTrue new.disk.drive.clean → LeavesBy forget told.ended below mine told.lost new) → (IsTrue new.disk.drive.clean → KeepsServed below.disk new.disk)
    → IfOk told.lost (LosesBy forget told.ended mine) → Stays (deferring below) (deferring new)
    → ForgetsAs while_clean forget bytes (failing may old) told (failing may' new)
forgets-failing may may' forget bytes old below new mine told serves kept stays count leaves kept' lost ends = record {
  below = failing may' below;
  mine = mine;
  serves = serves;
  count = count;
  lost = lost;
  leaves = λ clean. leaves-failing may' forget told.ended below new mine told.lost (leaves clean);
  kept = λ clean. keeps_again old.disk below.disk new.disk (kept (ends.disk.shape.trusted clean)) (kept' clean);
  stays = stays-through may may' old below new mine stays ends;
  ends = record { disk = ends.disk; mode = mode-failing may' (deferring below) (deferring new) ends.mode; syncs = ends.syncs; none = λ prompt none. absurd (cc prompt) };
}

-- where the drive is clean at the end, such a session is one of an honest store
pub forgets-clean : (forget : Forget) (bytes : Streams) (old new : StoreView) (told : Forgotten) → ForgetsAs while_clean forget bytes old told new → IsTrue new.disk.drive.clean → Forgets forget bytes old told new
forgets-clean forget bytes old new told f clean = record {
  below = f.below;
  mine = f.mine;
  serves = at_most-while forget.cut_after bytes (session phases.Greeting (cached old [])) told.ended (cached f.below f.mine) f.serves (f.ends.disk.shape.trusted clean);
  count = f.count;
  lost = f.lost;
  leaves = f.leaves clean;
  kept = f.kept clean;
  stays = f.stays;
  ends = f.ends;
}

-- ---- messages

rests-settled : (turn : Bool) (old new : StoreView) (place : ℕ) (block : List ℕ) → RestsBy turn old new → IsSettled place block old → IsSettled place block new
rests-settled true old new place block t settled = call-settled old new idle (with_nothing t.result) place block t.calls tt settled
rests-settled false old new place block same settled = rw same settled

follows-settled : (passes : Bool) (old new : StoreView) (place : ℕ) (block : List ℕ) → Follows passes old new → IsSettled place block old → IsSettled place block new
follows-settled true old new place block rests settled = rests-settled (old.cleans && not old.read_only) old new place block rests settled
follows-settled false old new place block same settled = rw same settled

asked-settled : (old : StoreView) (request : Request) (wanted : Result Asked ErrorCode) (bytes reply : List ℕ) (new : StoreView) (place : ℕ) (block : List ℕ) → AnswersAsked old request wanted bytes reply new
    → length bytes ≡ data_length request → IfOk wanted (LeavesOut old.disk.drive.geometry.block (data_length request) place) → IsSettled place block old → IsSettled place block new
asked-settled old request (Err error) bytes reply new place block a count leaves settled = rw a.1 settled
asked-settled old request (Ok wanted) bytes reply new place block a count leaves settled = request-settled old new request wanted bytes reply place block a count leaves settled

by-settled : (passes : Bool) (old : StoreView) (ends : Bool) (request : Request) (bytes reply : List ℕ) (new : Session) (place : ℕ) (block : List ℕ) → AnswersBy passes old ends request bytes reply new → length bytes ≡ data_length request
    → IfOk (asked_of_store old request) (LeavesOut old.disk.drive.geometry.block (data_length request) place) → IsSettled place block old → IsSettled place block new.store
by-settled passes old true request bytes reply new place block a count leaves settled = rw a.1 settled
by-settled passes old false request bytes reply new place block a count leaves settled =
    follows-settled passes a.1.answered new.store place block a.1.follows
    (asked-settled old request (asked_of_store old request) bytes reply a.1.answered place block a.1.answers count leaves settled)

-- where blocks may be pending no requests are done together: each of them would name a block
length-named : (first n : ℕ) (trim : Bool) → length (named first n trim) ≡ n
length-named first zero trim = refl
length-named first (suc n) trim = ap suc (length-named (suc first) n trim)

some-block : (disk : FlatDisk) (first n : ℕ) → n ≡ 0 → known_range disk first n ≡ None → ⊥
some-block disk first zero e known = absurd (cc known)
some-block disk first (suc n) e known = absurd (cc e)

no-group : (store : StoreView) (askings : List Asking) → 2 ≤ length askings → IsGroup store askings → store.defers ≡ true → ⊥
no-group store [] several group defers = absurd (omega (arith, several))
no-group store (a ∷ others) several group defers =
    let none : most_listed store ≡ 0 = rw defers refl in
    some-block (store_flat store) a.span.first a.span.blocks
    (omega (arith, group.listed, none, length-append (span_entries a.span) (entries_of others), length-named a.span.first a.span.blocks a.span.trim))
    group.each.0.joins.begun

request-message : (passes : Bool) (old : StoreView) (message reply : List ℕ) (new : Session) (answers : ServesRequest passes old message reply new) (place : ℕ) (block : List ℕ)
    → LeavesRequest place passes old message reply new answers → IsSettled place block old → IsSettled place block new.store
request-message passes old message reply new a place block leaves settled = by-settled passes old _ a.request a.bytes reply new place block a.answer a.length_is leaves settled

in-settled : (together passes : Bool) (phase : Phase) (old : StoreView) (message reply : List ℕ) (new : Session) (answers : AnswersIn together passes phase old message reply new) (place : ℕ) (block : List ℕ)
    → LeavesBlock place together passes phase old message reply new answers → IsSettled place block old → IsSettled place block new.store
in-settled together passes phases.Greeting old message reply new a place block leaves settled = rw a.2 settled
in-settled together passes phases.Flags old message reply new a place block leaves settled = rw a.new_is settled
in-settled together passes (phases.Options no_zeroes) old message reply new a place block leaves settled = rw a.new_is settled
in-settled true passes phases.Transmission old message reply new (inl a) place block leaves settled = request-message passes old message reply new a place block leaves settled
in-settled true passes phases.Transmission old message reply new (inr g) place block leaves settled = absurd (no-group old g.askings g.several g.group leaves)
in-settled false passes phases.Transmission old message reply new a place block leaves settled = request-message passes old message reply new a place block leaves settled
in-settled together passes phases.Ended old message reply new a place block leaves settled = absurd a

pub message-settled : MessageKeepsSettled
message-settled together passes old message reply new answers place block leaves settled = in-settled together passes old.phase old.store message reply new answers place block leaves settled

-- ---- the end

-- a settled block is in the store below, whatever is pending above it
below-settled : (below : StoreView) (mine : List Pending) (place : ℕ) (block : List ℕ) → IsSettled place block (cached below mine) → get_or (store_array below) place [] ≡ block
below-settled below mine place block settled = cut-settled below mine (store_array below) place block settled (kill-outcome mine (store_array below))

sync-settled : (below new : StoreView) (mine left : List Pending) (result : Result (Unit {0}) StoreFault) (place : ℕ) (block : List ℕ) → Syncs (cached below mine) result (cached new left) → IsSettled place block (cached below mine) → IsSettled place block (cached new left)
sync-settled below new mine left (Ok done) place block s settled = kept-settled (cached below mine) (cached new left) place block s.1.keeps settled
sync-settled below new mine left (Err (Disk fault)) place block (inl s) settled = rw s.1 settled
sync-settled below new mine left (Err (Disk fault)) place block (inr s) settled = kept-settled (cached below mine) (cached new left) place block s.1.keeps settled
sync-settled below new mine left (Err Medium) place block s settled = kept-settled (cached below mine) (cached new left) place block s.1 settled

applied-settled : (below new : StoreView) (mine : List Pending) (lost : Result ℕ StoreFault) (place : ℕ) (block : List ℕ) → Applies below mine lost new → IsSettled place block (cached below mine) → get_or (store_array new) place [] ≡ block
applied-settled below new mine (Ok lost) place block a settled = below-settled new [] place block (sync-settled below new mine [] (Ok tt) place block a.0 settled)
applied-settled below new mine (Err fault) place block a settled = below-settled new a.0 place block (sync-settled below new mine a.0 (Err fault) place block a.1 settled)

left-settled : (forget : Forget) (ended : Result SessionEnd SessionFault) (below new : StoreView) (mine : List Pending) (lost : Result ℕ StoreFault) (place : ℕ) (block : List ℕ) → LeavesBy forget ended below mine lost new → IsSettled place block (cached below mine)
    → get_or (store_array new) place [] ≡ block
left-settled forget (Ok Disconnected) below new mine lost place block l settled = applied-settled below new mine lost place block l settled
left-settled forget (Ok InputEnded) below new mine lost place block l settled = cut-settled below mine (store_array new) place block settled l.outcome
left-settled forget (Ok LimitReached) below new mine lost place block l settled = cut-settled below mine (store_array new) place block settled l.outcome
left-settled forget (Err fault) below new mine lost place block l settled = cut-settled below mine (store_array new) place block settled l.outcome

-- nothing is pending above the disk that is left
array-left : (last : StoreView) → last.pending ≡ [] → store_array last ≡ disk_array last.disk
array-left last none = rw none refl

pub settled-left : SettledIsLeft
settled-left forget read_only job bytes syncs old told new session place block settled =
    let f = session.forgets in
    ap (λ (array : List (List ℕ)). get_or array place []) (sym (array-left session.last session.leaves.pending))
    ∙ left-settled forget told.ended f.below session.last f.mine told.lost place block f.leaves settled
