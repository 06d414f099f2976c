-- A session keeps the drive of its disk.
use Rattle.std.proofs.Common.{◌≡◌, ℕ, List, Option, Ok, Err, true, false, inl, inr}
use Rattle.std.specs.Prelude.{Bool, ◌&&◌, IsTrue, not, Result}
use Rattle.nbd_wire.specs.declared.error_code.ErrorCode.{ErrorCode}
use Rattle.nbd_wire.specs.declared.request.Request.{Request}
use Rattle.zone_translator.proofs.KeepingLaws.{keeps_again, keeps_same}
use Rattle.zone_translator.specs.Flat.{Answer, Call}
use Rattle.zone_translator.specs.Keeping.{KeepsServed}
use Rattle.nbd_session.specs.declared.asked.Asked.{Asked}
use Rattle.nbd_session.specs.declared.asked.Asked.TheVariants.{Read, Write, Trim, WriteZeroes, Flush}
use Rattle.nbd_session.specs.declared.ending.SessionEnd.{SessionEnd}
use Rattle.nbd_session.specs.declared.fault.SessionFault.{SessionFault}
use Rattle.nbd_session.specs.declared.fault.StoreFault.{StoreFault}
use Rattle.nbd_session.specs.declared.fault.StoreFault.TheVariants.{Disk, Medium}
use Rattle.nbd_session.specs.Manners.{always, while_clean}
use Rattle.nbd_session.specs.Requests.{AnswersAsked, Does, DoesOrFails, Forces, asked_of_store}
use Rattle.nbd_session.specs.Session.{Session}
use Rattle.nbd_session.specs.Store.{Calls, RestsBy, StoreView, Writes}
use Rattle.nbd_session.specs.Streams.{Streams}
use Rattle.nbd_session.specs.Turns.{ServesAtMost, ServesAtMostAs}
use Rattle.nbd_session.proofs.KeptLaws.{IsKept, at_most-kept}
use Rattle.nbd_session.proofs.SpareLaws.{some_spared}
use Rattle.nbd_session.proofs.SyncLaws.{SyncsSome, any_sync}
use Rattle.nbd_session.proofs.WhileLaws.{at_most-while}

abbrev KeepsStore : StoreView → StoreView → Type 0
KeepsStore old new = KeepsServed old.disk new.disk

same_keeps : (old new : StoreView) → new ≡ old → KeepsStore old new
same_keeps old new same = rw same (keeps_same old.disk)

call_keeps : (old : StoreView) (call : Call) (answer : Answer) (new : StoreView) → Calls old call answer new → KeepsStore old new
call_keeps old call answer new c = c.kept

write_keeps : (is_trim : Bool) (old : StoreView) (call : Call) (first n : ℕ) (answer : Answer) (new : StoreView) → Writes is_trim old call first n answer new → KeepsStore old new
write_keeps is_trim old call first n answer new w = call_keeps old call answer new w.calls

-- what is asked, done, keeps the drive
does_keeps : (old : StoreView) (wanted : Asked) (bytes : List ℕ) (answer : Answer) (new : StoreView) → Does old wanted bytes answer new → KeepsStore old new
does_keeps old (Write first) bytes answer new (inl w) = write_keeps false old _ first _ answer new w
does_keeps old (Write first) bytes answer new (inr c) = same_keeps old new c.1
does_keeps old (Read first n) bytes answer new r = call_keeps old _ answer new r.calls
does_keeps old (Trim first n) bytes answer new w = write_keeps true old _ first n answer new w
does_keeps old (WriteZeroes first n true) bytes answer new w = write_keeps true old _ first n answer new w
does_keeps old (WriteZeroes first n false) bytes answer new w = write_keeps false old _ first n answer new w
does_keeps old Flush bytes answer new c = same_keeps old new c.1

done_keeps : (old : StoreView) (wanted : Asked) (bytes : List ℕ) (done : Result (Unit {0}) StoreFault) (shown : List (List ℕ)) (new : StoreView) → DoesOrFails old wanted bytes done shown new → KeepsStore old new
done_keeps old wanted bytes (Ok done) shown new d = does_keeps old wanted bytes (record { result = Ok tt; shown = shown }) new d
done_keeps old wanted bytes (Err (Disk fault)) shown new d = does_keeps old wanted bytes (record { result = Err fault; shown = shown }) new d
done_keeps old wanted bytes (Err Medium) shown new d = (some_spared old wanted bytes new d.1).2.kept

sync_keeps : (old : StoreView) (result : Result (Unit {0}) StoreFault) (new : StoreView) → SyncsSome old result new → KeepsStore old new
sync_keeps old (Ok done) new s = s.1.keeps.kept
sync_keeps old (Err (Disk fault)) new (inl s) = same_keeps old new s.1
sync_keeps old (Err (Disk fault)) new (inr s) = s.1.keeps.kept
sync_keeps old (Err Medium) new s = s.1.kept

force_keeps : (forced : Bool) (wanted : Asked) (count : ℕ) (old : StoreView) (first : Result (Unit {0}) StoreFault) (result : Result (Unit {0}) StoreFault) (new : StoreView) → Forces forced wanted count old first result new → KeepsStore old new
force_keeps forced wanted count old (Err fault) result new f = same_keeps old new f.1
force_keeps true wanted count old (Ok done) result new f = sync_keeps old result new (any_sync wanted count old result new f)
force_keeps false wanted count old (Ok done) result new f = same_keeps old new f.1

asked_keeps : (old : StoreView) (request : Request) (wanted : Result Asked ErrorCode) (bytes reply : List ℕ) (new : StoreView) → AnswersAsked old request wanted bytes reply new → KeepsStore old new
asked_keeps old request (Err error) bytes reply new a = same_keeps old new a.1
asked_keeps old request (Ok wanted) bytes reply new a =
    keeps_again old.disk a.middle.disk new.disk (done_keeps old wanted bytes a.done a.shown a.middle a.does) (force_keeps _ wanted _ a.middle a.done a.result new a.forces)

rests_keeps : (turn : Bool) (old new : StoreView) → RestsBy turn old new → KeepsStore old new
rests_keeps true old new t = call_keeps old _ _ new t.calls
rests_keeps false old new same = same_keeps old new same

drive_kept : IsKept always KeepsStore
drive_kept = record {
  same = λ store. keeps_same store.disk;
  again = λ a b c. keeps_again a.disk b.disk c.disk;
  asked = λ old request bytes reply new. asked_keeps old request (asked_of_store old request) bytes reply new;
  grouped = λ old askings done new several group w. call_keeps old _ _ new w.calls;
  rests = λ old new. rests_keeps (old.cleans && not old.read_only) old new;
}

-- a session keeps the drive of its disk, however it ends
pub session_keeps : (most : Option ℕ) (bytes : Streams) (old : Session) (result : Result SessionEnd SessionFault) (new : StoreView) → ServesAtMost most bytes old result new → KeepsServed old.store.disk new.disk
session_keeps = at_most-kept KeepsStore drive_kept

-- and over any device, while the drive is clean
pub any_keeps : (most : Option ℕ) (bytes : Streams) (old : Session) (result : Result SessionEnd SessionFault) (new : StoreView) → ServesAtMostAs while_clean most bytes old result new → IsTrue new.disk.drive.clean → KeepsServed old.store.disk new.disk
any_keeps most bytes old result new serves clean = session_keeps most bytes old result new (at_most-while most bytes old result new serves clean)
