-- A session forgets no sync, and its store stays read only, cleans and fails as before. If it does not defer, nothing is pending.
use Rattle.std.proofs.Common.{◌≡◌, ℕ, ◌≤◌, List, [], Option, Ok, Err, true, false, refl, inl, inr, ◌∙◌, arith}
use Rattle.std.specs.Prelude.{Bool, ◌&&◌, not, Result}
use Rattle.nbd_wire.specs.declared.error_code.ErrorCode.{ErrorCode}
use Rattle.nbd_wire.specs.declared.request.Request.{Request}
use Rattle.zone_translator.specs.Flat.{Answer, Call}
use Rattle.nbd_session.specs.declared.asked.Asked.{Asked}
use Rattle.nbd_session.specs.declared.asked.Asked.TheVariants.{Read, Write, Trim, WriteZeroes, Flush}
use Rattle.nbd_session.specs.declared.ending.SessionEnd.{SessionEnd}
use Rattle.nbd_session.specs.declared.fault.SessionFault.{SessionFault}
use Rattle.nbd_session.specs.declared.fault.StoreFault.{StoreFault}
use Rattle.nbd_session.specs.declared.fault.StoreFault.TheVariants.{Disk, Medium}
use Rattle.nbd_session.specs.Laws.{SessionKeepsMode}
use Rattle.nbd_session.specs.Manners.{always}
use Rattle.nbd_session.specs.Requests.{AnswersAsked, Does, DoesOrFails, Forces, asked_of_store}
use Rattle.nbd_session.specs.Store.{Calls, KeepsBySync, KeepsMode, RestsBy, Spares, StoreView}
use Rattle.nbd_session.specs.Session.{Session}
use Rattle.nbd_session.specs.Streams.{Streams}
use Rattle.nbd_session.specs.Turns.{ServesAtMost}
use Rattle.nbd_session.proofs.KeptLaws.{IsKept, at_most-kept, session_kept}
use Rattle.nbd_session.proofs.PendingLaws.{none-more}
use Rattle.nbd_session.proofs.SpareLaws.{some_spared}
use Rattle.nbd_session.proofs.SyncLaws.{SyncsSome, any_sync}

-- no sync is forgotten, the mode is the same, and nothing stays pending that is not deferred
abbrev pub Grows : StoreView → StoreView → Type 0
Grows old new = (old.syncs ≤ new.syncs) × KeepsMode old new × (old.defers ≡ false → old.pending ≡ [] → new.pending ≡ [])

self_grows : (store : StoreView) → Grows store store
self_grows store = (omega arith, record { read_only = refl; cleans = refl; flushes = refl; defers = refl; fails = refl }, λ prompt none. none)

same_grows : (old new : StoreView) → new ≡ old → Grows old new
same_grows old new same = rw same (self_grows old)

grows_again : (a b c : StoreView) → Grows a b → Grows b c → Grows a c
grows_again a b c x y = (
  omega (arith, x.0, y.0),
  record {
    read_only = y.1.read_only ∙ x.1.read_only;
    cleans = y.1.cleans ∙ x.1.cleans;
    flushes = y.1.flushes ∙ x.1.flushes;
    defers = y.1.defers ∙ x.1.defers;
    fails = y.1.fails ∙ x.1.fails;
  },
  λ prompt none. y.2 (x.1.defers ∙ prompt) (x.2 prompt none),
)

call_grows : (old : StoreView) (call : Call) (answer : Answer) (new : StoreView) → Calls old call answer new → Grows old new
call_grows old call answer new c = (omega (arith, c.syncs), c.mode, λ prompt none. c.none prompt)

keeps_grows : (old new : StoreView) → KeepsBySync old new → Grows old new
keeps_grows old new k = (k.syncs, k.mode, λ prompt none. none-more old.pending new.pending none k.pending)

does_grows : (old : StoreView) (wanted : Asked) (bytes : List ℕ) (answer : Answer) (new : StoreView) → Does old wanted bytes answer new → Grows old new
does_grows old (Write first) bytes answer new (inl w) = call_grows old _ answer new w.calls
does_grows old (Write first) bytes answer new (inr c) = same_grows old new c.1
does_grows old (Read first n) bytes answer new r = call_grows old _ answer new r.calls
does_grows old (Trim first n) bytes answer new w = call_grows old _ answer new w.calls
does_grows old (WriteZeroes first n true) bytes answer new w = call_grows old _ answer new w.calls
does_grows old (WriteZeroes first n false) bytes answer new w = call_grows old _ answer new w.calls
does_grows old Flush bytes answer new c = same_grows old new c.1

spare_grows : (old : StoreView) (first n : ℕ) (new : StoreView) → Spares old first n new → Grows old new
spare_grows old first n new s = (omega (arith, s.syncs), s.mode, λ prompt none. none-more old.pending new.pending none s.pending)

done_grows : (old : StoreView) (wanted : Asked) (bytes : List ℕ) (done : Result (Unit {0}) StoreFault) (shown : List (List ℕ)) (new : StoreView) → DoesOrFails old wanted bytes done shown new → Grows old new
done_grows old wanted bytes (Ok done) shown new d = does_grows old wanted bytes (record { result = Ok tt; shown = shown }) new d
done_grows old wanted bytes (Err (Disk fault)) shown new d = does_grows old wanted bytes (record { result = Err fault; shown = shown }) new d
done_grows old wanted bytes (Err Medium) shown new d = let s = some_spared old wanted bytes new d.1 in spare_grows old s.0 s.1 new s.2

sync_grows : (old : StoreView) (result : Result (Unit {0}) StoreFault) (new : StoreView) → SyncsSome old result new → Grows old new
sync_grows old (Ok done) new s = keeps_grows old new s.1.keeps
sync_grows old (Err (Disk fault)) new (inl s) = same_grows old new s.1
sync_grows old (Err (Disk fault)) new (inr s) = keeps_grows old new s.1.keeps
sync_grows old (Err Medium) new s = keeps_grows old new s.1

force_grows : (forced : Bool) (wanted : Asked) (count : ℕ) (old : StoreView) (first : Result (Unit {0}) StoreFault) (result : Result (Unit {0}) StoreFault) (new : StoreView) → Forces forced wanted count old first result new → Grows old new
force_grows forced wanted count old (Err fault) result new f = same_grows old new f.1
force_grows true wanted count old (Ok done) result new f = sync_grows old result new (any_sync wanted count old result new f)
force_grows false wanted count old (Ok done) result new f = same_grows old new f.1

asked_grows : (old : StoreView) (request : Request) (wanted : Result Asked ErrorCode) (bytes reply : List ℕ) (new : StoreView) → AnswersAsked old request wanted bytes reply new → Grows old new
asked_grows old request (Err error) bytes reply new a = same_grows old new a.1
asked_grows old request (Ok wanted) bytes reply new a =
    grows_again old a.middle new (done_grows old wanted bytes a.done a.shown a.middle a.does) (force_grows _ wanted _ a.middle a.done a.result new a.forces)

rests_grows : (turn : Bool) (old new : StoreView) → RestsBy turn old new → Grows old new
rests_grows true old new t = call_grows old _ _ new t.calls
rests_grows false old new same = same_grows old new same

mode_kept : IsKept always Grows
mode_kept = record {
  same = self_grows;
  again = grows_again;
  asked = λ old request bytes reply new. asked_grows old request (asked_of_store old request) bytes reply new;
  grouped = λ old askings done new several group w. call_grows old _ _ new w.calls;
  rests = λ old new. rests_grows (old.cleans && not old.read_only) old new;
}

-- a session forgets no sync, and keeps its mode
pub session-grows : SessionKeepsMode
session-grows = session_kept Grows mode_kept

-- and so does one of at most so many requests
pub at_most-grows : (most : Option ℕ) (bytes : Streams) (old : Session) (result : Result SessionEnd SessionFault) (new : StoreView) → ServesAtMost most bytes old result new → Grows old.store new
at_most-grows = at_most-kept Grows mode_kept
