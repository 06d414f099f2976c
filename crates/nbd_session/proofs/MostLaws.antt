-- How many blocks a list may name where the medium may fail besides.
use Rattle.std.proofs.Common.{◌≡◌, ℕ, ◌≤◌, true, false, refl, sym, arith}
use Rattle.std.specs.Prelude.{◌||◌, if◌then◌else◌, Bool}
use Rattle.drive_array.specs.Reserve.{batch_most}
use Rattle.nbd_session.specs.Failing.{failing}
use Rattle.nbd_session.specs.Store.{StoreView, most_listed}

-- it may name as many blocks as a list of the store below, or none
fewer-listed : (may defers fails : Bool) (k : ℕ) → (if defers || (may || fails) then 0 else k) ≤ (if defers || fails then 0 else k)
fewer-listed may true fails k = omega arith
fewer-listed true false fails k = omega arith
fewer-listed false false fails k = omega arith

pub listed_below : (may : Bool) (store : StoreView) (n : ℕ) → n ≤ most_listed (failing may store) → n ≤ most_listed store
listed_below may store n few = omega (arith, few, fewer-listed may store.defers store.fails (batch_most store.disk.drive.geometry))

none-listed : (defers fails : Bool) (k : ℕ) → (if defers || (true || fails) then 0 else k) ≡ 0
none-listed true fails k = refl
none-listed false fails k = refl

pub listed_none : (may : Bool) (store : StoreView) → may ≡ true → 0 ≡ most_listed (failing may store)
listed_none may store is = rw is (sym (none-listed store.defers store.fails (batch_most store.disk.drive.geometry)))

pub listed_same : (may : Bool) (store : StoreView) → may ≡ false → most_listed store ≡ most_listed (failing may store)
listed_same may store is = rw is refl
