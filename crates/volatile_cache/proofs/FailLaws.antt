-- Why a cut fails.
use Rattle.std.proofs.Common.{◌≡◌, ◌∙◌, ◌+◌, ◌<◌, ℕ, [], ◌∷◌, List, refl, sym, ap, arith, inl, inr, Some, None, Err, true, false}
use Rattle.std.proofs.lemmas.Bool.Decides.{nat_tests}
use Rattle.std.specs.Prelude.{◌⊎◌, Bool, MatchOption, Option, Result, if◌then◌else◌, nat_lt}
use Rattle.zone_translator.specs.Flat.{Answer, Begun, Call, FlatDisk, answer_while, known_answer, known_range, may_refuse, with_nothing, write}
use Rattle.zone_translator.specs.View.{disk_size}
use Rattle.zone_translator.specs.declared.fault.DiskFault.{DiskFault}
use Rattle.zone_translator.specs.declared.fault.DiskFault.TheVariants.{OutOfMemory, Failed, OutOfRange, Reserve, Smaller, Spent, Stopped, Unmounted, Damaged}
use Rattle.nbd_session.specs.Pending.{Pending}
use Rattle.nbd_session.specs.Store.{StoreView, Syncs, may_fail, store_flat}
use Rattle.nbd_session.specs.declared.fault.StoreFault.{StoreFault}
use Rattle.nbd_session.specs.declared.fault.StoreFault.TheVariants.{Disk, Medium}
use Rattle.volatile_cache.specs.Cache.{Applies, Cache, FailsCut, Puts}

-- a fault by which a write of a block may be refused, or a sync
by-write : (place : ℕ) (block : List ℕ) (fault : DiskFault) → may_refuse (write place (block ∷ [])) fault ≡ true → may_refuse (write 0 []) fault ≡ true
by-write place block OutOfMemory may = refl
by-write place block Failed may = refl
by-write place block Stopped may = refl
by-write place block Spent may = refl
by-write place block OutOfRange may = may
by-write place block Unmounted may = may
by-write place block Smaller may = may
by-write place block Reserve may = may
by-write place block Damaged may = may

by-sync : (ws : List Pending) (fault : DiskFault) → may_fail ws fault ≡ true → may_refuse (write 0 []) fault ≡ true
by-sync (w ∷ ws) fault may = by-write w.place w.block fault may
by-sync [] OutOfMemory may = refl
by-sync [] Failed may = refl
by-sync [] Stopped may = refl
by-sync [] Spent may = refl
by-sync [] OutOfRange may = may
by-sync [] Unmounted may = may
by-sync [] Smaller may = may
by-sync [] Reserve may = may
by-sync [] Damaged may = may

-- a sync failed
pub sync-fails : (old new : StoreView) (fault : StoreFault) → Syncs old (Err fault) new → FailsCut new.disk fault
sync-fails old new (Disk fault) (inl s) = inl (rw s.1 s.0)
sync-fails old new (Disk fault) (inr s) = inr (by-sync old.pending fault s.1.may, s.1.cause)
sync-fails old new Medium s = ap (λ (d : FlatDisk). answer_while d.status) s.2 ∙ s.0

-- the answer to a call within the disk is known before only if the disk does not serve
known-within : (disk : FlatDisk) (place : ℕ) → place < disk.size → known_range disk place 1 ≡ answer_while disk.status
known-within disk place within = let past : nat_lt disk.size (place + 1) ≡ false = grind (arith, nat_tests, within) in rw past refl

refused-by : (known : Option (Result (Unit {0}) DiskFault)) (disk new : FlatDisk) (call : Call) (fault : DiskFault) → known ≡ answer_while disk.status
    → MatchOption known (Begun disk call (Err fault) [] new) (λ r. (with_nothing (Err fault) ≡ with_nothing r) × (new ≡ disk))
    → (answer_while new.status ≡ Some (Err fault)) ⊎ (may_refuse call fault ≡ true)
refused-by None disk new call fault is b = inr b.0
refused-by (Some r) disk new call fault is b = inl (ap (λ (d : FlatDisk). answer_while d.status) b.1 ∙ sym is ∙ ap Some (sym (ap (λ (a : Answer). a.result) b.0)))

-- a block was refused
refused-block : (is_trim : Bool) (old new : StoreView) (w : Pending) (fault : DiskFault) → w.place < disk_size old.disk → Puts is_trim old w (Err fault) new → FailsCut new.disk (Disk fault)
refused-block is_trim old new w fault within puts =
    elim (refused-by (known_answer (store_flat old) (write w.place (w.block ∷ []))) (store_flat old) (store_flat new) (write w.place (w.block ∷ [])) fault (known-within (store_flat old) w.place within) puts.calls.flat) [
      | inl status ↦ inl status
      | inr may ↦ inr (by-write w.place w.block fault may, puts.calls.cause)
    ]

-- a call whose answer was not known before is one of a disk that serves
serves-by : (past : Bool) (told : Result (Unit {0}) DiskFault) (answer : Option (Result (Unit {0}) DiskFault)) → (if past then Some told else answer) ≡ None → answer ≡ None
serves-by true told answer none = absurd (cc none)
serves-by false told answer none = none

serves : (disk : FlatDisk) (place : ℕ) → known_range disk place 1 ≡ None → answer_while disk.status ≡ None
serves disk place none = serves-by (nat_lt disk.size (place + 1)) (Err OutOfRange) (answer_while disk.status) none

-- some blocks were applied, and one was not
pub apply-fails : {S : Type 0} (view : S → StoreView) (old new : Cache S) (fault : StoreFault) → Applies view old (Err fault) new → FailsCut (view new.store).disk fault
apply-fails view old new (Disk fault) a = refused-block a.refuses.is_trim (view a.middle) (view new.store) a.refuses.w fault a.refuses.within a.refuses.puts
apply-fails view old new Medium a = ap (λ (d : FlatDisk). answer_while d.status) a.spares.flat ∙ serves (store_flat (view a.middle)) a.place a.spares.begun
