-- Blocks are read, one by itself or neighbours together.
use Rattle.std.specs.Prelude.{IsTrue}
use Rattle.std.proofs.Common.{◌≡◌, ℕ, zero, suc, ◌+◌, ◌-◌, ◌*◌, ◌/◌, ◌%◌, ◌<◌, ◌≤◌, ◌^◌, List, [], ◌∷◌, ◌++◌, length, drop, drop-cons, add-one, false, get_or, replicate, Some, Err, refl, sym, ap, ◌∙◌, append-nil, arith}
use Rattle.std.specs.List.{concat}
use Rattle.std.proofs.lemmas.Nat.{div-mul-add, mod-mul-add, mul-le}
use Rattle.std.proofs.Math.Nat.{add-mul, mul_comm}
use Rattle.std.proofs.lemmas.List.{length-append, length-replicate}
use Rattle.drive_array.proofs.WholeLaws.{length-encoded}
use Rattle.zone_choice.proofs.AgreementLaws.{size-encoded}
use Rattle.zone_cleaner.specs.Clean.{trims}
use Rattle.zone_states.specs.declared.geometry.Geometry.{Geometry}
use Rattle.drive_port.specs.Calls.{CanRead, IsNotRefused, Obeys, ReadGives}
use Rattle.drive_port.specs.Contents.{Counts, SameContents, block_at, bytes_at, content_at, contents}
use Rattle.drive_port.specs.Step.{block_in, bytes_from}
use Rattle.drive_port.specs.Drive.{DriveState, IsClosing, IsLawful}
use Rattle.drive_port.specs.declared.calls.PortFault.{PortFault}
use Rattle.drive_port.specs.declared.calls.PortFault.TheVariants as port
use Rattle.batch_log.specs.Log.{zero_block}
use Rattle.logical_map.specs.declared.place.Place.{Place}
use Rattle.logical_map.specs.declared.place.Place.TheVariants as places
use Rattle.zone_choice.specs.Agreement.{Agrees, mounted}
use Rattle.drive_array.specs.ZoneLogs.{encoded}
use Rattle.zone_choice.specs.Changes.{IsHalt, KeepsArray, fault_halt}
use Rattle.zone_choice.specs.Tables.{TablesView, size_of}
use Rattle.zone_choice.proofs.ChangeLaws.{keeps-contents, keeps-halt, keeps-same}
use Rattle.zone_choice.proofs.OpenLaws.{closing-opens}
use Rattle.zone_choice.proofs.ReadLaws.{HoldsPlace, holds_place}
use Rattle.zone_translator.specs.Changes.{disk_fault}
use Rattle.zone_translator.specs.Flat.{blocks_from}
use Rattle.zone_translator.specs.Read.{AreNeighbours, EndsThere, IsPiece, IsPieceAt, IsReadFault}

-- what is at the place of a block
pub holds : (drive : DriveState) (tables : TablesView) (block : ℕ) (p : Place) → Agrees (mounted drive tables) → block < size_of tables → p ≡ get_or tables.map.places block places.None → HoldsPlace drive (encoded drive tables.given) block p
holds drive tables block p agrees lt e = rw e (holds_place drive tables block agrees lt)

-- a block without data is zeros
no-place : (drive : DriveState) (array : List (List ℕ)) (block : ℕ) (p : Place) → HoldsPlace drive array block p → ((address : ℕ) → p ≡ places.At address → ⊥) → get_or array block [] ≡ zero_block drive.geometry.block
no-place drive array block places.None h other = h
no-place drive array block (places.Trimmed address) h other = h
no-place drive array block (places.At address) h other = absurd (other address refl)

-- one block was read
one-block : (drive : DriveState) (address : ℕ) (shown : List ℕ) → shown ≡ bytes_at drive.geometry (contents drive.zones) address 1 → shown ≡ block_at drive.geometry (contents drive.zones) address
one-block drive address shown e = e ∙ append-nil (block_at drive.geometry (contents drive.zones) address)

-- a read of a place that halted
pub record ReadHalts (old new : DriveState) (tables : TablesView) (fault : PortFault) : Type 0 where
  pub halt : IsHalt fault
  pub kept : KeepsArray (mounted old tables) (mounted new tables)
  pub cause : IsReadFault new (disk_fault (fault_halt fault))

-- A Read that the drive takes is not refused, and the result is kept.
pub row_halts : (old new : DriveState) (tables : TablesView) (address count : ℕ) (returned : List ℕ) (fault : PortFault) → Agrees (mounted old tables) → CanRead old address count
    → ReadGives {V = Unit {0}} old address count (Err fault) returned new → SameContents old new → IsClosing old.zones new.zones → Obeys {V = Unit {0}} old (Err fault) new → (CanRead old address count → IsNotRefused {V = Unit {0}} (Err fault)) → ReadHalts old new tables fault
row_halts old new tables address count returned (port.Refused status) agrees can gives same closing obeys passed = absurd (passed can)
row_halts old new tables address count returned port.Memory agrees can gives same closing obeys passed = record { halt = tt; kept = keeps-halt old new tables gives.1.1 agrees; cause = tt }
row_halts old new tables address count returned port.Failed agrees can gives same closing obeys passed =
    let failed = obeys.fails refl in
    record {
      halt = tt;
      kept = keeps-same old new tables agrees same (closing-opens old.zones new.zones closing) obeys.lawful obeys.unfailing failed.1.refused obeys.durable failed.1.appended;
      cause = failed.0;
    }
row_halts old new tables address count returned port.Stopped agrees can gives same closing obeys passed = record {
  halt = tt;
  kept = keeps-same old new tables agrees same (closing-opens old.zones new.zones closing) obeys.lawful obeys.unfailing (obeys.counts refl).refused obeys.durable (obeys.counts refl).appended;
  cause = obeys.stops refl;
}

-- so it is with the Read of one block at its place
pub place_halts : (old new : DriveState) (tables : TablesView) (block address : ℕ) (returned : List ℕ) (fault : PortFault) → Agrees (mounted old tables) → block < size_of tables → places.At address ≡ get_or tables.map.places block places.None
    → ReadGives {V = Unit {0}} old address 1 (Err fault) returned new → SameContents old new → IsClosing old.zones new.zones → Obeys {V = Unit {0}} old (Err fault) new → (CanRead old address 1 → IsNotRefused {V = Unit {0}} (Err fault)) → ReadHalts old new tables fault
place_halts old new tables block address returned fault agrees lt at gives same closing obeys passed =
    row_halts old new tables address 1 returned fault agrees (holds old tables block (places.At address) agrees lt at).can gives same closing obeys passed

-- and one that was done
pub place_kept : (old new : DriveState) (tables : TablesView) → Agrees (mounted old tables) → SameContents old new → IsClosing old.zones new.zones → IsLawful new → (IsTrue new.unfailing → IsTrue old.unfailing) → new.durable ≡ old.durable → Counts old new 0 → KeepsArray (mounted old tables) (mounted new tables)
place_kept old new tables agrees same closing lawful failed durable counts = keeps-contents old new tables agrees same (closing-opens old.zones new.zones closing) lawful failed durable counts

-- it shows the block of the array
pub place_shown : (drive : DriveState) (tables : TablesView) (block address : ℕ) (shown : List ℕ) → Agrees (mounted drive tables) → block < size_of tables → places.At address ≡ get_or tables.map.places block places.None
    → shown ≡ bytes_at drive.geometry (contents drive.zones) address 1 → shown ≡ get_or (encoded drive tables.given) block []
place_shown drive tables block address shown agrees lt at e = one-block drive address shown e ∙ (holds drive tables block (places.At address) agrees lt at).shown

-- a block with no data
pub zeros_shown : (drive : DriveState) (tables : TablesView) (block : ℕ) (p : Place) → Agrees (mounted drive tables) → block < size_of tables → p ≡ get_or tables.map.places block places.None → ((address : ℕ) → p ≡ places.At address → ⊥)
    → replicate drive.geometry.block 0 ≡ get_or (encoded drive tables.given) block []
zeros_shown drive tables block p agrees lt at other = sym (no-place drive (encoded drive tables.given) block p (holds drive tables block p agrees lt at) other)

-- a block with a place for its data has data
pub at-data : (tables : TablesView) (block address : ℕ) → places.At address ≡ get_or tables.map.places block places.None → trims (get_or tables.map.places block places.None) ≡ Some false
at-data tables block address at = ap trims (sym at)

-- ---- how many bytes are added, whatever a Read returned

-- zeros for one block
pub zeros-added : (held shown : List ℕ) (n size : ℕ) → shown ≡ held ++ replicate n 0 → n ≡ size → length shown ≡ length held + 1 * size
zeros-added held shown n size is same = omega (arith, ap length is, length-append held (replicate n 0), length-replicate {A = ℕ} n 0, same)

-- the bytes of some blocks more
pub more-added : (size was done count before after : ℕ) → was ≡ size → before ≡ done * size → after ≡ before + count * was → after ≡ (done + count) * size
more-added size was done count before after same so added = omega (arith, rw same at added, so, add-mul done count size)

-- ---- neighbours

-- the address of a block's data is one of the drive's, which has less than 2 ^ 36
pub place-low : (drive : DriveState) (tables : TablesView) (block address : ℕ) → Agrees (mounted drive tables) → block < size_of tables → places.At address ≡ get_or tables.map.places block places.None → address < 2 ^ 36
place-low drive tables block address agrees lt at =
    let fits = (holds drive tables block (places.At address) agrees lt at).fits in
    let g = drive.geometry in
    omega (arith, fits, mul-le g.zones g.size 65536 1048576 (omega (arith, agrees.geometry.zones)) (omega (arith, agrees.geometry.size)))

-- the place of a block in a row
in-row : (drive : DriveState) (tables : TablesView) (block address count k : ℕ) → Agrees (mounted drive tables) → block + count ≤ size_of tables → AreNeighbours drive.geometry tables.map.places block address count → k < count
    → HoldsPlace drive (encoded drive tables.given) (block + k) (places.At (address + k))
in-row drive tables block address count k agrees le row lt = holds drive tables (block + k) (places.At (address + k)) agrees (omega (arith, le, lt)) (sym (row.each k lt))

-- the drive takes the Read of neighbours
pub row_can : (drive : DriveState) (tables : TablesView) (block address count : ℕ) → Agrees (mounted drive tables) → 1 ≤ count → block + count ≤ size_of tables → AreNeighbours drive.geometry tables.map.places block address count
    → CanRead drive address count
row_can drive tables block address count agrees some le row =
    let first = in-row drive tables block address count 0 agrees le row (omega arith) in
    let last = in-row drive tables block address count (count - 1) agrees le row (omega (arith, some)) in
    let start : address + 0 ≡ address = omega arith in
    record {
      few = row.few;
      in_range = omega (arith, last.fits, some);
      one_zone = row.one_zone;
      readable = rw start at first.can.readable;
    }

-- blocks of an array that stand one after the other in a zone are what a Read shows of it
blocks_shown : (size : ℕ) (blocks array : List (List ℕ)) (block offset n : ℕ) → block + n ≤ length array → ((k : ℕ) → k < n → block_in size blocks (offset + k) ≡ get_or array (block + k) [])
    → bytes_from size blocks offset n ≡ concat (blocks_from array block n)
blocks_shown size blocks array block offset zero le each = refl
blocks_shown size blocks array block offset (suc n) le each =
    let first : block_in size blocks offset ≡ get_or array block [] = let o : offset + 0 ≡ offset = omega arith in let b : block + 0 ≡ block = omega arith in rw (o, b) at (each 0 (omega arith)) in
    let later : bytes_from size blocks (offset + 1) n ≡ concat (blocks_from array (block + 1) n) =
    blocks_shown size blocks array (block + 1) (offset + 1) n (omega (arith, le)) (λ k lt. one-more k (each (suc k) (omega (arith, lt)))) in
    let cut : drop block array ≡ get_or array block [] ∷ drop (block + 1) array = rw add-one (drop-cons array block [] (omega (arith, le))) in
    rw cut (rw (first, later) refl)
  where
    one-more : (k : ℕ) → block_in size blocks (offset + suc k) ≡ get_or array (block + suc k) [] → block_in size blocks (offset + 1 + k) ≡ get_or array (block + 1 + k) []
    one-more k h = let o : offset + 1 + k ≡ offset + suc k = omega arith in let b : block + 1 + k ≡ block + suc k = omega arith in rw (o, b) h

-- within one zone the offsets are as the addresses
pub same_zone : (size address count k : ℕ) → 1 ≤ size → 1 ≤ count → address / size ≡ (address + count - 1) / size → k < count → ((address + k) / size ≡ address / size) × ((address + k) % size ≡ address % size + k)
same_zone size address count k some more one lt =
    let last : size * ((address + count - 1) / size) + (address + count - 1) % size ≡ address + count - 1 = omega arith in
    let same : size * (address / size) + (address + count - 1) % size ≡ address + count - 1 = rw (← one) at last in
    let start : size * (address / size) + address % size ≡ address = omega arith in
    let rest : (address + count - 1) % size < size = omega arith in
    let small : address % size + k < size = omega (arith, same, start, rest, lt) in
    let sum : address + k ≡ address / size * size + (address % size + k) = omega (arith, start, mul_comm (address / size) size) in
    (rw sum (div-mul-add (address / size) size (address % size + k) small), rw sum (mod-mul-add (address / size) size (address % size + k) small))

-- neighbours are shown by one Read
pub row_shown : (drive : DriveState) (tables : TablesView) (block address count : ℕ) → Agrees (mounted drive tables) → 1 ≤ count → block + count ≤ size_of tables → AreNeighbours drive.geometry tables.map.places block address count
    → bytes_at drive.geometry (contents drive.zones) address count ≡ concat (blocks_from (encoded drive tables.given) block count)
row_shown drive tables block address count agrees some le row =
    let g = drive.geometry in
    let zone = content_at (contents drive.zones) (address / g.size) in
    let long : length (encoded drive tables.given) ≡ size_of tables = length-encoded drive tables.given ∙ sym (size-encoded (mounted drive tables) agrees) in
    blocks_shown g.block zone.blocks (encoded drive tables.given) block (address % g.size) count (omega (arith, le, long)) each
  where
    each : (k : ℕ) → k < count → block_in drive.geometry.block (content_at (contents drive.zones) (address / drive.geometry.size)).blocks (address % drive.geometry.size + k) ≡ get_or (encoded drive tables.given) (block + k) []
    each k lt =
        let there = same_zone drive.geometry.size address count k (omega (arith, agrees.geometry.size)) some row.one_zone lt in
        rw (there.0, there.1) at (in-row drive tables block address count k agrees le row lt).shown

-- one block of an array, as bytes
pub one_from : (array : List (List ℕ)) (block : ℕ) → block < length array → concat (blocks_from array block 1) ≡ get_or array block []
one_from array block lt =
    let cut : drop block array ≡ get_or array block [] ∷ drop (block + 1) array = rw add-one (drop-cons array block [] lt) in
    rw cut (append-nil (get_or array block []))

-- a block without data is a piece by itself
pub alone : (geometry : Geometry) (all : List Place) (block left : ℕ) (p : Place) → p ≡ get_or all block places.None → ((address : ℕ) → p ≡ places.At address → ⊥) → 1 ≤ left → IsPiece geometry all block left 1
alone geometry all block left p is other some = record { some = omega arith; few = some; at = rw (← is) (without p other) }
  where
    without : (p : Place) → ((address : ℕ) → p ≡ places.At address → ⊥) → IsPieceAt geometry all block left 1 p
    without places.None other = refl
    without (places.Trimmed address) other = refl
    without (places.At address) other = absurd (other address refl)

-- and so are all neighbours of a block with data
pub together : (geometry : Geometry) (all : List Place) (block left address count : ℕ) → places.At address ≡ get_or all block places.None → 1 ≤ count → count ≤ left → AreNeighbours geometry all block address count → EndsThere geometry all block address left count
    → IsPiece geometry all block left count
together geometry all block left address count is some few row ends = record { some = some; few = few; at = rw (← is) (row, ends) }

-- zeros are shown for a block without data
pub zeros_piece : (drive : DriveState) (tables : TablesView) (block : ℕ) (p : Place) → Agrees (mounted drive tables) → block < size_of tables → p ≡ get_or tables.map.places block places.None → ((address : ℕ) → p ≡ places.At address → ⊥)
    → replicate drive.geometry.block 0 ≡ concat (blocks_from (encoded drive tables.given) block 1)
zeros_piece drive tables block p agrees lt at other =
    let long : length (encoded drive tables.given) ≡ size_of tables = length-encoded drive tables.given ∙ sym (size-encoded (mounted drive tables) agrees) in
    zeros_shown drive tables block p agrees lt at other ∙ sym (one_from (encoded drive tables.given) block (omega (arith, lt, long)))
