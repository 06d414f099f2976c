-- A session of a store that is read only leaves its array as it was.
use Rattle.std.proofs.Common.{inl, inr, ◌≡◌, ℕ, ◌≤◌, List, [], ◌∷◌, length, Some, arith, Ok, Err, true, false, refl, ap, sym, ◌∙◌}
use Rattle.std.specs.Prelude.{Bool, ◌&&◌, not, Result, if◌then◌else◌}
use Rattle.nbd_wire.specs.declared.error_code.ErrorCode.{ErrorCode}
use Rattle.nbd_wire.specs.declared.error_code.ErrorCode.TheVariants as errors
use Rattle.nbd_wire.specs.declared.request.Request.{Request}
use Rattle.zone_translator.specs.Flat.{Answer, FlatDisk, known_answer, read}
use Rattle.nbd_session.specs.declared.asked.Asked.{Asked}
use Rattle.nbd_session.specs.declared.asked.Asked.TheVariants.{Read, Write, Trim, WriteZeroes, Flush}
use Rattle.nbd_session.specs.declared.fault.StoreFault.{StoreFault}
use Rattle.nbd_session.specs.declared.fault.StoreFault.TheVariants.{Disk, Medium}
use Rattle.nbd_session.specs.declared.group.Span.{Span}
use Rattle.nbd_session.specs.Groups.{Asking, IsGroup, span_of}
use Rattle.nbd_session.specs.Laws.{ReadOnlyKeepsArray}
use Rattle.nbd_session.specs.Manners.{always}
use Rattle.nbd_session.specs.Requests.{AnswersAsked, Does, DoesOrFails, Forces, asked_of, changes_disk, data_length, permitted}
use Rattle.nbd_session.specs.Store.{Rests, RestsBy, StoreView, store_array, store_flat}
use Rattle.nbd_session.proofs.KeptLaws.{IsKept, session_kept}
use Rattle.nbd_session.proofs.ServedLaws.{read-kept}
use Rattle.nbd_session.proofs.SpareLaws.{some_spared}
use Rattle.nbd_session.proofs.SyncLaws.{SyncsSome, any_sync}

-- the array of a store that is read only stays, and it is read only still
abbrev Stays : StoreView → StoreView → Type 0
Stays old new = old.read_only ≡ true → (store_array new ≡ store_array old) × (new.read_only ≡ true)

same_stays : (old new : StoreView) → new ≡ old → Stays old new
same_stays old new same read_only = rw same (refl, read_only)

stays_again : (a b c : StoreView) → Stays a b → Stays b c → Stays a c
stays_again a b c first second read_only =
    let x = first read_only in
    let y = second x.1 in
    (y.0 ∙ x.0, y.1)

does_stays : (old : StoreView) (wanted : Asked) (bytes : List ℕ) (answer : Answer) (new : StoreView) → changes_disk wanted ≡ false → Does old wanted bytes answer new → Stays old new
does_stays old (Read first n) bytes answer new harmless c read_only =
    (read-kept (known_answer (store_flat old) (read first n)) (store_flat old) first n answer answer.result answer.shown (store_flat new) c.calls.flat, c.calls.mode.read_only ∙ read_only)
does_stays old Flush bytes answer new harmless c read_only = same_stays old new c.1 read_only
does_stays old (Write first) bytes answer new harmless c read_only = absurd (cc harmless)
does_stays old (Trim first n) bytes answer new harmless c read_only = absurd (cc harmless)
does_stays old (WriteZeroes first n true) bytes answer new harmless c read_only = absurd (cc harmless)
does_stays old (WriteZeroes first n false) bytes answer new harmless c read_only = absurd (cc harmless)

done_stays : (old : StoreView) (wanted : Asked) (bytes : List ℕ) (done : Result (Unit {0}) StoreFault) (shown : List (List ℕ)) (new : StoreView) → changes_disk wanted ≡ false → DoesOrFails old wanted bytes done shown new → Stays old new
done_stays old wanted bytes (Ok done) shown new harmless d = does_stays old wanted bytes (record { result = Ok tt; shown = shown }) new harmless d
done_stays old wanted bytes (Err (Disk fault)) shown new harmless d = does_stays old wanted bytes (record { result = Err fault; shown = shown }) new harmless d
done_stays old wanted bytes (Err Medium) shown new harmless d = let s = some_spared old wanted bytes new d.1 in λ read_only. (ap (λ (d : FlatDisk). d.array) s.2.flat, s.2.mode.read_only ∙ read_only)

sync_stays : (old : StoreView) (result : Result (Unit {0}) StoreFault) (new : StoreView) → SyncsSome old result new → Stays old new
sync_stays old (Ok done) new s read_only = (s.1.keeps.array, s.1.keeps.mode.read_only ∙ read_only)
sync_stays old (Err (Disk fault)) new (inl s) read_only = same_stays old new s.1 read_only
sync_stays old (Err (Disk fault)) new (inr s) read_only = (s.1.keeps.array, s.1.keeps.mode.read_only ∙ read_only)
sync_stays old (Err Medium) new s read_only = (s.1.array, s.1.mode.read_only ∙ read_only)

force_stays : (forced : Bool) (wanted : Asked) (count : ℕ) (old : StoreView) (first : Result (Unit {0}) StoreFault) (result : Result (Unit {0}) StoreFault) (new : StoreView) → Forces forced wanted count old first result new → Stays old new
force_stays forced wanted count old (Err fault) result new f = same_stays old new f.1
force_stays true wanted count old (Ok done) result new f = sync_stays old result new (any_sync wanted count old result new f)
force_stays false wanted count old (Ok done) result new f = same_stays old new f.1

-- what is asked of a store that is read only is refused, or does not change the disk
chosen_stays : (old : StoreView) (request : Request) (wanted : Asked) (bytes reply : List ℕ) (new : StoreView) (changes : Bool) → changes_disk wanted ≡ changes
    → AnswersAsked old request (if changes then Err errors.NotPermitted else Ok wanted) bytes reply new → Stays old new
chosen_stays old request wanted bytes reply new true e a = same_stays old new a.1
chosen_stays old request wanted bytes reply new false e a =
    stays_again old a.middle new (done_stays old wanted bytes a.done a.shown a.middle e a.does) (force_stays _ wanted _ a.middle a.done a.result new a.forces)

asked_stays : (old : StoreView) (request : Request) (read_only : Bool) (wanted : Result Asked ErrorCode) (bytes reply : List ℕ) (new : StoreView) → old.read_only ≡ read_only
    → AnswersAsked old request (permitted read_only wanted) bytes reply new → Stays old new
asked_stays old request false wanted bytes reply new is a read_only = absurd (cc (sym is ∙ read_only))
asked_stays old request true (Err error) bytes reply new is a read_only = same_stays old new a.1 read_only
asked_stays old request true (Ok wanted) bytes reply new is a read_only = chosen_stays old request wanted bytes reply new (changes_disk wanted) refl a read_only

-- a store that is read only takes no turn
no_turn : (cleans read_only : Bool) (old new : StoreView) → read_only ≡ true → RestsBy (cleans && not read_only) old new → new ≡ old
no_turn cleans false old new is r = absurd (cc is)
no_turn true true old new is r = r
no_turn false true old new is r = r

rests_stays : (old new : StoreView) → Rests old new → Stays old new
rests_stays old new r read_only = same_stays old new (no_turn old.cleans old.read_only old new read_only r) read_only

-- nothing that changes the disk is permitted then
refused-change : (read_only : Bool) (asked : Result Asked ErrorCode) (wanted : Asked) → read_only ≡ true → permitted read_only asked ≡ Ok wanted → changes_disk wanted ≡ true → ⊥
refused-change false asked wanted is permits changes = cc is
refused-change true (Err error) wanted is permits changes = cc permits
refused-change true (Ok other) wanted is permits changes = by (changes_disk other) refl permits
  where
    by : (change : Bool) → changes_disk other ≡ change → (if change then Err errors.NotPermitted else Ok other) ≡ Ok wanted → ⊥
    by true e p = cc p
    by false e p = let same : other ≡ wanted = cc p in cc (sym e ∙ ap changes_disk same ∙ changes)

-- what joins a group changes the disk
joins-changes : (block : ℕ) (wanted : Asked) (count : ℕ) (span : Span) → span_of block wanted count ≡ Some span → changes_disk wanted ≡ true
joins-changes block (Write first) count span names = refl
joins-changes block (Trim first n) count span names = refl
joins-changes block (WriteZeroes first n hole) count span names = refl
joins-changes block (Read first n) count span names = absurd (cc names)
joins-changes block Flush count span names = absurd (cc names)

-- so no group is done
group-writes : (old : StoreView) (askings : List Asking) → 2 ≤ length askings → IsGroup old askings → old.read_only ≡ true → ⊥
group-writes old [] several group read_only = omega (arith, several)
group-writes old (a ∷ more) several group read_only =
    let joins = group.each.0.joins in
    refused-change old.read_only (asked_of old.disk.drive.geometry.block a.request) a.wanted read_only joins.asks (joins-changes old.disk.drive.geometry.block a.wanted (data_length a.request) a.span joins.names)

array_kept : IsKept always Stays
array_kept = record {
  same = λ store read_only. (refl, read_only);
  again = stays_again;
  asked = λ old request bytes reply new. asked_stays old request old.read_only (asked_of old.disk.drive.geometry.block request) bytes reply new refl;
  grouped = λ old askings done new several group w read_only. absurd (group-writes old askings several group read_only);
  rests = rests_stays;
}

-- a session of a read-only store keeps its array, and the store stays read only
pub read_only-kept : ReadOnlyKeepsArray
read_only-kept = session_kept Stays array_kept
