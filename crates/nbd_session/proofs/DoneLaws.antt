-- What is asked is done by one call of the store.
use Rattle.std.proofs.Common.{◌≡◌, ℕ, List, [], length, Option, Ok, Err, true, false, refl, sym}
use Rattle.std.specs.Prelude.{◌*◌, IsTrue, OnErr, OnOk, Result}
use Rattle.std.proofs.KnownBytes.{Consumes-nil}
use Rattle.zone_translator.specs.Flat.{with_nothing}
use Rattle.nbd_session.specs.declared.asked.Asked.{Asked}
use Rattle.nbd_session.specs.declared.asked.Asked.TheVariants.{Read, Trim, WriteZeroes}
use Rattle.nbd_session.specs.declared.fault.StoreFault.{StoreFault}
use Rattle.nbd_session.specs.declared.fault.StoreFault.TheVariants.{Disk, Medium}
use Rattle.nbd_session.specs.Requests.{DoesOrFails, DoesShowing, DoesWith, MayShow}
use Rattle.nbd_session.specs.Store.{OrFails, Shows, Spares, StaysByCall, StoreView, Trims, WritesZeros}

read-showing : (old : StoreView) (first n : ℕ) (shown : List ℕ) (result : Result (Unit {0}) StoreFault) (new : StoreView) → OrFails (λ answer. Shows old first n answer shown new) ((shown ≡ []) × Spares old first n new) result → DoesShowing old (Read first n) [] shown result new
read-showing old first n shown (Ok done) new o = record { blocks = o.shown; does = o.reads; shown_is = o.bytes_are }
read-showing old first n shown (Err (Disk fault)) new o = record { blocks = o.shown; does = o.reads; shown_is = o.bytes_are }
read-showing old first n shown (Err Medium) new o = record { blocks = []; does = (refl, o.1); shown_is = o.0 }

read-shows : (block first n : ℕ) (shown : List ℕ) (result : Result (Unit {0}) StoreFault) → OnOk result (length shown ≡ n * block) → OnErr result (shown ≡ []) → MayShow block (Read first n) result shown
read-shows block first n shown (Ok done) whole none = whole
read-shows block first n shown (Err fault) whole none = none

-- what a READ shows are the blocks that were read and, if the medium failed, nothing
pub read_done : (left : Option (List ℕ)) (old : StoreView) (first n count : ℕ) (shown : List ℕ) (result : Result (Unit {0}) StoreFault) (new : StoreView) → count ≡ 0
    → (IsTrue new.disk.drive.clean → OrFails (λ answer. Shows old first n answer shown new) ((shown ≡ []) × Spares old first n new) result) → OnOk result (length shown ≡ n * old.disk.drive.geometry.block) → OnErr result (shown ≡ []) → StaysByCall old new
    → DoesWith left left old (Read first n) count shown result new
read_done left old first n count shown result new none o whole empty stays = record {
  bytes = [];
  count_is = sym none;
  read = Consumes-nil left;
  does = λ clean. read-showing old first n shown result new (o clean);
  shows = read-shows old.disk.drive.geometry.block first n shown result whole empty;
  stays = stays;
}

-- what asks for no data, and shows none, is done
done-unread : (left : Option (List ℕ)) (old : StoreView) (wanted : Asked) (count : ℕ)
    (result : Result (Unit {0}) StoreFault) (new : StoreView) → count ≡ 0
    → (IsTrue new.disk.drive.clean → DoesOrFails old wanted [] result [] new)
    → MayShow old.disk.drive.geometry.block wanted result [] → StaysByCall old new
    → DoesWith left left old wanted count [] result new
done-unread left old wanted count result new none does shows stays = record {
  bytes = [];
  count_is = sym none;
  read = Consumes-nil left;
  does = λ clean. record { blocks = []; does = does clean; shown_is = refl };
  shows = shows;
  stays = stays;
}

trim-does : (old : StoreView) (first n : ℕ) (result : Result (Unit {0}) StoreFault) (new : StoreView) → OrFails (λ answer. Trims old first n (with_nothing answer) new) (Spares old first n new) result → DoesOrFails old (Trim first n) [] result [] new
trim-does old first n (Ok done) new o = o
trim-does old first n (Err (Disk fault)) new o = o
trim-does old first n (Err Medium) new o = (refl, o)

-- a TRIM is done
pub trim_done : (left : Option (List ℕ)) (old : StoreView) (first n count : ℕ) (result : Result (Unit {0}) StoreFault) (new : StoreView) → count ≡ 0
    → (IsTrue new.disk.drive.clean → OrFails (λ answer. Trims old first n (with_nothing answer) new) (Spares old first n new) result) → StaysByCall old new → DoesWith left left old (Trim first n) count [] result new
trim_done left old first n count result new none o stays =
    done-unread left old (Trim first n) count result new none
    (λ clean. trim-does old first n result new (o clean)) refl stays

hole-does : (old : StoreView) (first n : ℕ) (result : Result (Unit {0}) StoreFault) (new : StoreView) → OrFails (λ answer. Trims old first n (with_nothing answer) new) (Spares old first n new) result → DoesOrFails old (WriteZeroes first n true) [] result [] new
hole-does old first n (Ok done) new o = o
hole-does old first n (Err (Disk fault)) new o = o
hole-does old first n (Err Medium) new o = (refl, o)

-- so is a WRITE_ZEROES that may leave a hole
pub hole_done : (left : Option (List ℕ)) (old : StoreView) (first n count : ℕ) (result : Result (Unit {0}) StoreFault) (new : StoreView) → count ≡ 0
    → (IsTrue new.disk.drive.clean → OrFails (λ answer. Trims old first n (with_nothing answer) new) (Spares old first n new) result) → StaysByCall old new → DoesWith left left old (WriteZeroes first n true) count [] result new
hole_done left old first n count result new none o stays =
    done-unread left old (WriteZeroes first n true) count result new none
    (λ clean. hole-does old first n result new (o clean)) refl stays

zeros-does : (old : StoreView) (first n : ℕ) (result : Result (Unit {0}) StoreFault) (new : StoreView) → OrFails (λ answer. WritesZeros old first n (with_nothing answer) new) (Spares old first n new) result → DoesOrFails old (WriteZeroes first n false) [] result [] new
zeros-does old first n (Ok done) new o = o
zeros-does old first n (Err (Disk fault)) new o = o
zeros-does old first n (Err Medium) new o = (refl, o)

-- and one that may not
pub zeros_done : (left : Option (List ℕ)) (old : StoreView) (first n count : ℕ) (result : Result (Unit {0}) StoreFault) (new : StoreView) → count ≡ 0
    → (IsTrue new.disk.drive.clean → OrFails (λ answer. WritesZeros old first n (with_nothing answer) new) (Spares old first n new) result) → StaysByCall old new → DoesWith left left old (WriteZeroes first n false) count [] result new
zeros_done left old first n count result new none o stays =
    done-unread left old (WriteZeroes first n false) count result new none
    (λ clean. zeros-does old first n result new (o clean)) refl stays
