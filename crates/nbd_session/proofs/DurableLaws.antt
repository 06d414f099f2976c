-- What is answered by success was synced, where it had to be.
use Rattle.std.proofs.Common.{◌≡◌, ℕ, ◌/◌, ◌<◌, List, Ok, Err, true, ap, sym, ◌∙◌, arith}
use Rattle.std.specs.Prelude.{Contains, Result}
use Rattle.nbd_wire.specs.Transmission.{error_code}
use Rattle.nbd_wire.specs.declared.error_code.ErrorCode.TheVariants as errors
use Rattle.zone_states.specs.declared.geometry.Geometry.{Geometry}
use Rattle.zone_translator.specs.View.{disk_array}
use Rattle.zone_translator.specs.declared.fault.DiskFault.{DiskFault}
use Rattle.zone_translator.specs.declared.fault.DiskFault.TheVariants as disk
use Rattle.nbd_session.specs.declared.asked.Asked.{Asked}
use Rattle.nbd_session.specs.declared.asked.Asked.TheVariants.{Read, Write, Trim, WriteZeroes, Flush}
use Rattle.nbd_session.specs.declared.fault.StoreFault.{StoreFault}
use Rattle.nbd_session.specs.declared.fault.StoreFault.TheVariants.{Disk, Medium}
use Rattle.nbd_session.specs.Laws.{AgreeOn, ForcedIsDurable, HasAsked, IsLeft}
use Rattle.nbd_session.specs.Pending.{AreApart}
use Rattle.nbd_session.specs.Requests.{Forces, Secures, code_of, data_length, error_of, error_past_end}
use Rattle.nbd_session.specs.Store.{Hardens, StoreView, store_array}
use Rattle.nbd_session.proofs.PendingLaws.{all-apart, none-some, some-apart}
use Rattle.nbd_session.proofs.ReplyLaws.{same_code}
use Rattle.nbd_session.proofs.SyncLaws.{any_sync}

-- the error of a request past the end is one
past_end-refused : (wanted : Asked) → error_code (error_past_end wanted) ≡ 0 → ⊥
past_end-refused (Read first n) none = omega (arith, none)
past_end-refused (Write first) none = omega (arith, none)
past_end-refused (Trim first n) none = omega (arith, none)
past_end-refused (WriteZeroes first n hole) none = omega (arith, none)
past_end-refused Flush none = omega (arith, none)

-- a refusal is not told as success
pub refused : (wanted : Asked) (fault : DiskFault) → error_code (error_of wanted fault) ≡ 0 → ⊥
refused wanted disk.OutOfRange none = past_end-refused wanted none
refused wanted disk.OutOfMemory none = omega (arith, none)
refused wanted disk.Failed none = omega (arith, none)
refused wanted disk.Stopped none = omega (arith, none)
refused wanted disk.Spent none = omega (arith, none)
refused wanted disk.Unmounted none = omega (arith, none)
refused wanted disk.Smaller none = omega (arith, none)
refused wanted disk.Reserve none = omega (arith, none)
refused wanted disk.Damaged none = omega (arith, none)

-- ---- what a loss of power leaves

-- blocks that were synced are found again
blocks-left : (first n : ℕ) (old new : StoreView) (left : List (List ℕ)) → Hardens (AreApart first n) old new → Contains new.since left → AgreeOn first n left (store_array new)
blocks-left first n old new left h found place from below =
    some-apart new.pending (disk_array new.disk) left first n (h.since left found) h.done place from below
    ∙ sym (all-apart new.pending (disk_array new.disk) first n h.done place from below)

same-count : (first k m : ℕ) (left array : List (List ℕ)) → m ≡ k → AgreeOn first k left array → AgreeOn first m left array
same-count first k m left array same agree = rw same agree

-- what was asked to be durable is found again
asked-left : (wanted : Asked) (count : ℕ) (old new : StoreView) (left : List (List ℕ)) → Secures wanted count old (Ok tt) new → Contains new.since left → HasAsked wanted count new left
asked-left Flush count old new left s found = none-some new.pending (disk_array new.disk) left s.1.done (s.1.since left found)
asked-left (Write first) count old new left s found =
    let n = count / old.disk.drive.geometry.block in
    same-count first n (count / new.disk.drive.geometry.block) left (store_array new) (ap (λ (g : Geometry). count / g.block) s.1.keeps.kept.geometry) (blocks-left first n old new left s.1 found)
asked-left (Read first n) count old new left s found = blocks-left first n old new left s.1 found
asked-left (Trim first n) count old new left s found = blocks-left first n old new left s.1 found
asked-left (WriteZeroes first n hole) count old new left s found = blocks-left first n old new left s.1 found

-- the rest is what is told of every sync
secured : (wanted : Asked) (count : ℕ) (old new : StoreView) → Secures wanted count old (Ok tt) new
    → (old.syncs < new.syncs) × ((left : List (List ℕ)) → Contains new.since left → IsLeft wanted count new left)
secured wanted count old new s =
    let hard = (any_sync wanted count old (Ok tt) new s).1 in (
      hard.more,
      λ left found. record {
        asked = asked-left wanted count old new left s found;
        whole = λ none. none-some new.pending (disk_array new.disk) left none (hard.since left found);
      },
    )

durable : (middle : StoreView) (first : Result (Unit {0}) StoreFault) (wanted : Asked) (count : ℕ) (result : Result (Unit {0}) StoreFault) (new : StoreView)
    → Forces true wanted count middle first result new → error_code (code_of wanted result) ≡ 0
    → (middle.syncs < new.syncs) × ((left : List (List ℕ)) → Contains new.since left → IsLeft wanted count new left)
durable middle (Err (Disk fault)) wanted count result new f none = absurd (refused wanted fault (rw f.0 at none))
durable middle (Err Medium) wanted count result new f none = absurd (omega (arith, rw f.0 at none))
durable middle (Ok done) wanted count (Ok d) new s none = secured wanted count middle new s
durable middle (Ok done) wanted count (Err (Disk fault)) new s none = absurd (refused wanted fault none)
durable middle (Ok done) wanted count (Err Medium) new s none = absurd (omega (arith, none))

-- after a forced request that succeeded, one sync more was completed, and a loss of power leaves what was asked as it is
pub forced-durable : ForcedIsDurable
forced-durable old new request wanted bytes reply shown a forced said =
    durable a.middle a.done wanted (data_length request) a.result new (rw forced at a.forces) (same_code (code_of wanted a.result) errors.Success request.cookie _ shown (sym a.reply_is ∙ said))
