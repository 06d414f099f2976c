-- A request leaves a settled block settled, and one that is forced settles what it names.
use Rattle.std.proofs.Common.{◌≡◌, ℕ, zero, suc, ◌+◌, ◌/◌, ◌<◌, ◌≤◌, List, [], length, Ok, Err, true, false, inl, inr, refl, ap, sym, ◌∙◌, arith}
use Rattle.std.specs.List.{concat}
use Rattle.std.proofs.lemmas.List.{length-replicate}
use Rattle.std.specs.Prelude.{Bool, Result, drop, replicate, slice_index_or}
use Rattle.batch_log.specs.Log.{zero_block}
use Rattle.drive_port.specs.Calls.{data_blocks}
use Rattle.nbd_wire.specs.Transmission.{error_code}
use Rattle.nbd_wire.specs.declared.error_code.ErrorCode.TheVariants as errors
use Rattle.zone_states.specs.Zone.{cut_blocks}
use Rattle.zone_states.specs.declared.geometry.Geometry.{Geometry}
use Rattle.zone_translator.specs.Answers.{count_of_blocks, write_bytes}
use Rattle.zone_translator.specs.Flat.{Answer, FlatDisk, read, trim}
use Rattle.zone_translator.specs.View.{disk_array}
use Rattle.nbd_session.specs.declared.asked.Asked.{Asked}
use Rattle.nbd_session.specs.declared.asked.Asked.TheVariants.{Read, Write, Trim, WriteZeroes, Flush}
use Rattle.nbd_session.specs.declared.fault.StoreFault.{StoreFault}
use Rattle.nbd_session.specs.declared.fault.StoreFault.TheVariants.{Disk, Medium}
use Rattle.nbd_session.specs.Pending.{AreApart, Pending}
use Rattle.nbd_session.specs.Requests.{Does, DoesOrFails, Forces, Secures, code_of, data_length, is_forced}
use Rattle.nbd_session.specs.Store.{Hardens, Spares, StoreView, store_array}
use Rattle.nbd_session.proofs.DurableLaws.{refused}
use Rattle.nbd_session.proofs.PendingLaws.{none-apart, none-some}
use Rattle.nbd_session.proofs.ReplyLaws.{same_code}
use Rattle.nbd_session.proofs.SpareLaws.{some_spared}
use Rattle.nbd_session.proofs.SyncLaws.{SyncsSome, any_sync}
use Rattle.volatile_cache.proofs.SettledLaws.{apart-less, call-settled, forced-settled, kept-settled}
use Rattle.volatile_cache.specs.Laws.{ForcedIsSettled, IsOutside, IsSettled, LeavesOut, Names, RequestKeepsSettled}

-- ---- a request that does not change a block

-- a settled block of a store that is the same
same-settled : (old new : StoreView) (place : ℕ) (block : List ℕ) → new ≡ old → IsSettled place block old → IsSettled place block new
same-settled old new place block same settled = rw same settled

zeros-outside : (first n size place : ℕ) → IsOutside first n place → IsOutside first (length (replicate n (zero_block size))) place
zeros-outside first n size place far = rw (length-replicate n (zero_block size)) far

length-cut_blocks : (size count : ℕ) (bytes : List ℕ) → length (cut_blocks size count bytes) ≡ count
length-cut_blocks size zero bytes = refl
length-cut_blocks size (suc count) bytes = ap suc (length-cut_blocks size count (drop size bytes))

cut-outside : (first m n place : ℕ) → n ≡ m → IsOutside first m place → IsOutside first n place
cut-outside first m n place same far = rw same far

does-settled : (wanted : Asked) (old middle : StoreView) (count : ℕ) (bytes : List ℕ) (answer : Answer) (place : ℕ) (block : List ℕ)
    → Does old wanted bytes answer middle → length bytes ≡ count → LeavesOut old.disk.drive.geometry.block count place wanted → IsSettled place block old → IsSettled place block middle
does-settled (Write first) old middle count bytes answer place block (inl wrote) many far settled =
    call-settled old middle (write_bytes old.disk first bytes) answer place block wrote.calls
    (cut-outside first (count / old.disk.drive.geometry.block) (length (data_blocks old.disk.drive.geometry bytes)) place
    (length-cut_blocks old.disk.drive.geometry.block (count_of_blocks old.disk bytes) bytes ∙ ap (λ (m : ℕ). m / old.disk.drive.geometry.block) many) far) settled
does-settled (Write first) old middle count bytes answer place block (inr none) many far settled = same-settled old middle place block none.1 settled
does-settled (Read first n) old middle count bytes answer place block reads many far settled = call-settled old middle (read first n) answer place block reads.calls tt settled
does-settled (Trim first n) old middle count bytes answer place block trims many far settled =
    call-settled old middle (trim old.disk.drive.geometry.block first n) answer place block trims.calls (zeros-outside first n old.disk.drive.geometry.block place far) settled
does-settled (WriteZeroes first n true) old middle count bytes answer place block trims many far settled =
    call-settled old middle (trim old.disk.drive.geometry.block first n) answer place block trims.calls (zeros-outside first n old.disk.drive.geometry.block place far) settled
does-settled (WriteZeroes first n false) old middle count bytes answer place block writes many far settled =
    call-settled old middle (trim old.disk.drive.geometry.block first n) answer place block writes.calls (zeros-outside first n old.disk.drive.geometry.block place far) settled
does-settled Flush old middle count bytes answer place block none many far settled = same-settled old middle place block none.1 settled

-- the medium failed
spared-settled : (old new : StoreView) (first n place : ℕ) (block : List ℕ) → Spares old first n new → IsSettled place block old → IsSettled place block new
spared-settled old new first n place block s settled = record {
  apart = apart-less old.pending new.pending place s.pending settled.apart;
  serves = ap (λ (d : FlatDisk). slice_index_or d.array place []) s.flat ∙ settled.serves;
  left = λ left found. settled.left left (s.since left found);
}

does-or-fails : (wanted : Asked) (old middle : StoreView) (count : ℕ) (bytes : List ℕ) (done : Result (Unit {0}) StoreFault) (shown : List (List ℕ)) (place : ℕ) (block : List ℕ)
    → DoesOrFails old wanted bytes done shown middle → length bytes ≡ count → LeavesOut old.disk.drive.geometry.block count place wanted → IsSettled place block old → IsSettled place block middle
does-or-fails wanted old middle count bytes (Ok done) shown place block d many far settled = does-settled wanted old middle count bytes (record { result = Ok tt; shown = shown }) place block d many far settled
does-or-fails wanted old middle count bytes (Err (Disk fault)) shown place block d many far settled = does-settled wanted old middle count bytes (record { result = Err fault; shown = shown }) place block d many far settled
does-or-fails wanted old middle count bytes (Err Medium) shown place block d many far settled =
    let s = some_spared old wanted bytes middle d.1 in spared-settled old middle s.0 s.1 place block s.2 settled

sync-settled : (old : StoreView) (result : Result (Unit {0}) StoreFault) (new : StoreView) (place : ℕ) (block : List ℕ) → SyncsSome old result new → IsSettled place block old → IsSettled place block new
sync-settled old (Ok done) new place block s settled = kept-settled old new place block s.1.keeps settled
sync-settled old (Err (Disk fault)) new place block (inl s) settled = same-settled old new place block s.1 settled
sync-settled old (Err (Disk fault)) new place block (inr s) settled = kept-settled old new place block s.1.keeps settled
sync-settled old (Err Medium) new place block s settled = kept-settled old new place block s.1 settled

forces-settled : (forced : Bool) (wanted : Asked) (count : ℕ) (old : StoreView) (done result : Result (Unit {0}) StoreFault) (new : StoreView) (place : ℕ) (block : List ℕ)
    → Forces forced wanted count old done result new → IsSettled place block old → IsSettled place block new
forces-settled forced wanted count old (Err fault) result new place block f settled = same-settled old new place block f.1 settled
forces-settled true wanted count old (Ok done) result new place block f settled = sync-settled old result new place block (any_sync wanted count old result new f) settled
forces-settled false wanted count old (Ok done) result new place block f settled = same-settled old new place block f.1 settled

pub request-settled : RequestKeepsSettled
request-settled old new request wanted bytes reply place block a many far settled =
    forces-settled (is_forced wanted request) wanted (data_length request) a.middle a.done a.result new place block a.forces
    (does-or-fails wanted old a.middle (data_length request) bytes a.done a.shown place block a.does many far settled)

-- ---- a request that is forced

-- after a sync of the whole array nothing is pending
whole-settled : (old new : StoreView) (place : ℕ) → Hardens (λ (pending : List Pending). pending ≡ []) old new → IsSettled place (slice_index_or (store_array new) place []) new
whole-settled old new place h = record {
  apart = none-apart new.pending place 1 h.done;
  serves = refl;
  left = λ left found. ap (λ (a : List (List ℕ)). slice_index_or a place []) (none-some new.pending (disk_array new.disk) left h.done (h.since left found));
}

blocks-settled : (first n m : ℕ) (old new : StoreView) (place : ℕ) → m ≡ n → Hardens (AreApart first n) old new → (first ≤ place) × (place < first + m) → IsSettled place (slice_index_or (store_array new) place []) new
blocks-settled first n m old new place same h within = forced-settled old new first n place h within.0 (rw same at within.1)

secured-settled : (wanted : Asked) (count : ℕ) (old new : StoreView) (place : ℕ) → Secures wanted count old (Ok tt) new → Names new.disk.drive.geometry.block count place wanted
    → IsSettled place (slice_index_or (store_array new) place []) new
secured-settled Flush count old new place s named = whole-settled old new place s.1
secured-settled (Write first) count old new place s named =
    blocks-settled first (count / old.disk.drive.geometry.block) (count / new.disk.drive.geometry.block) old new place (ap (λ (g : Geometry). count / g.block) s.1.keeps.kept.geometry) s.1 named
secured-settled (Read first n) count old new place s named = absurd named
secured-settled (Trim first n) count old new place s named = blocks-settled first n n old new place refl s.1 named
secured-settled (WriteZeroes first n hole) count old new place s named = blocks-settled first n n old new place refl s.1 named

done-settled : (middle : StoreView) (first : Result (Unit {0}) StoreFault) (wanted : Asked) (count : ℕ) (result : Result (Unit {0}) StoreFault) (new : StoreView) (place : ℕ)
    → Forces true wanted count middle first result new → error_code (code_of wanted result) ≡ 0 → Names new.disk.drive.geometry.block count place wanted
    → IsSettled place (slice_index_or (store_array new) place []) new
done-settled middle (Err (Disk fault)) wanted count result new place f none named = absurd (refused wanted fault (rw f.0 at none))
done-settled middle (Err Medium) wanted count result new place f none named = let failed = rw f.0 at none in absurd (omega (arith, failed))
done-settled middle (Ok done) wanted count (Ok d) new place s none named = secured-settled wanted count middle new place s named
done-settled middle (Ok done) wanted count (Err (Disk fault)) new place s none named = absurd (refused wanted fault none)
done-settled middle (Ok done) wanted count (Err Medium) new place s none named = absurd (omega (arith, none))

pub request-forced : ForcedIsSettled
request-forced old new request wanted bytes reply shown place a forced said named =
    done-settled a.middle a.done wanted (data_length request) a.result new place (rw forced at a.forces)
    (same_code (code_of wanted a.result) errors.Success request.cookie (concat a.shown) shown (sym a.reply_is ∙ said)) named
