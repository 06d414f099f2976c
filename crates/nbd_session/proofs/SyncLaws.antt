-- What every sync gives, whatever it makes durable.
use Rattle.std.proofs.Common.{◌≡◌, ℕ, List, [], Ok, Err}
use Rattle.std.specs.Prelude.{◌/◌, Result, ⊤}
use Rattle.nbd_session.specs.declared.asked.Asked.{Asked}
use Rattle.nbd_session.specs.declared.asked.Asked.TheVariants.{Read, Write, Trim, WriteZeroes, Flush}
use Rattle.nbd_session.specs.declared.fault.StoreFault.{StoreFault}
use Rattle.nbd_session.specs.declared.fault.StoreFault.TheVariants.{Disk, Medium}
use Rattle.nbd_session.specs.Pending.{AreApart, Pending}
use Rattle.nbd_session.specs.Requests.{Secures}
use Rattle.nbd_session.specs.Store.{ForcesBlocks, Hardens, StoreView, Syncs, SyncsBy}
use Rattle.nbd_session.proofs.PendingLaws.{none-apart}

-- what is made durable may be less
hardens-less : (A B : List Pending → Type 0) (old new : StoreView) → ((pending : List Pending) → A pending → B pending) → Hardens A old new → Hardens B old new
hardens-less A B old new so h = record {
  keeps = h.keeps;
  flat = h.flat;
  turns = h.turns;
  more = h.more;
  done = so new.pending h.done;
  since = h.since;
}

pub syncs-less : (A B : List Pending → Type 0) → ((pending : List Pending) → A pending → B pending) → (old : StoreView) (result : Result (Unit {0}) StoreFault) (new : StoreView) → SyncsBy A old result new → SyncsBy B old result new
syncs-less A B so old (Ok done) new s = (s.0, hardens-less A B old new so s.1)
syncs-less A B so old (Err (Disk fault)) new s = s
syncs-less A B so old (Err Medium) new s = s

-- a sync of the whole array is one of these blocks
pub sync_forces : (first n : ℕ) (old : StoreView) (result : Result (Unit {0}) StoreFault) (new : StoreView) → Syncs old result new → ForcesBlocks first n old result new
sync_forces first n = syncs-less (λ (pending : List Pending). pending ≡ []) (AreApart first n) (λ pending none. none-apart pending first n none)

-- what is to be durable is made so by a sync
abbrev pub SyncsSome : StoreView → Result (Unit {0}) StoreFault → StoreView → Type 0
SyncsSome old result new = SyncsBy (λ (pending : List Pending). ⊤) old result new

pub any_sync : (wanted : Asked) (count : ℕ) (old : StoreView) (result : Result (Unit {0}) StoreFault) (new : StoreView) → Secures wanted count old result new → SyncsSome old result new
any_sync Flush count old result new s = syncs-less (λ (pending : List Pending). pending ≡ []) (λ (pending : List Pending). ⊤) (λ pending done. tt) old result new s
any_sync (Write first) count old result new s = syncs-less (AreApart first (count / old.disk.drive.geometry.block)) (λ (pending : List Pending). ⊤) (λ pending done. tt) old result new s
any_sync (Read first n) count old result new s = syncs-less (AreApart first n) (λ (pending : List Pending). ⊤) (λ pending done. tt) old result new s
any_sync (Trim first n) count old result new s = syncs-less (AreApart first n) (λ (pending : List Pending). ⊤) (λ pending done. tt) old result new s
any_sync (WriteZeroes first n hole) count old result new s = syncs-less (AreApart first n) (λ (pending : List Pending). ⊤) (λ pending done. tt) old result new s
