-- The calls of a disk: their answers, and the flat disk after them.
use Rattle.std.proofs.Common.{◌≡◌, ◌==◌, ℕ, nat_lt, zero, suc, ◌+◌, ◌-◌, ◌*◌, ◌<◌, ◌≤◌, Bool, true, false, List, [], ◌∷◌, ◌++◌, length, take, drop, get_or, Some, None, Ok, Err, refl, sym, ap, subst, ◌∙◌, inl, inr, arith, append_assoc, append-nil}
use Rattle.std.specs.Prelude.{Result}
use Rattle.std.specs.Int.{div_ceil}
use Rattle.std.specs.List.{concat}
use Rattle.std.proofs.lemmas.Bool.{cases_lt}
use Rattle.std.proofs.lemmas.Bool.Decides.{nat_tests}
use Rattle.std.proofs.lemmas.List.{get_or-drop, length-drop, length-take, take_all, take_more}
use Rattle.std.proofs.Math.Nat.{add-mul}
use Rattle.std.proofs.lemmas.Nat.{mul-le}
use Rattle.zone_states.specs.Geometry.{IsInRange}
use Rattle.drive_port.specs.Drive.{DriveState}
use Rattle.batch_log.specs.Log.{zero_block}
use Rattle.logical_map.specs.declared.place.Place.{Place}
use Rattle.logical_map.specs.declared.place.Place.TheVariants as places
use Rattle.drive_array.specs.Reserve.{batch_most, most_size}
use Rattle.drive_array.specs.Sizes.{extended}
use Rattle.drive_array.proofs.ReserveLaws.{div_ceil-add, div_ceil-none, div_ceil-positive, positive-most}
use Rattle.zone_translator.specs.declared.fault.DiskFault.{DiskFault}
use Rattle.zone_translator.specs.declared.fault.DiskFault.TheVariants.{OutOfRange, OutOfMemory, Stopped, Spent, Unmounted, Smaller, Reserve, Damaged, Failed}
use Rattle.zone_translator.specs.declared.status.DiskStatus.{DiskStatus}
use Rattle.zone_translator.specs.declared.status.DiskStatus.TheVariants as statuses
use Rattle.zone_translator.specs.Batches.{IsBatchCount}
use Rattle.zone_translator.specs.Calls.{Reads, answer_before, is_known, status_left}
use Rattle.zone_cleaner.specs.Clean.{trims}
use Rattle.zone_translator.specs.Answers.{HasData}
use Rattle.zone_translator.specs.Changes.{IsCause, Names}
use Rattle.zone_translator.specs.Flat.{FlatCall, IsAfterFront, IsFront, answer_while, blocks_from, grow, idle, known_answer, known_growth, known_range, may_refuse, read, replaced, report, status_after, with_nothing, write}
use Rattle.zone_translator.specs.Read.{IsReadFault}
use Rattle.zone_translator.specs.View.{DiskCause, DiskView, disk_array, disk_size, flat_of, most_batches, next_sequence, disk_places}
use Rattle.zone_translator.proofs.FlatLaws.{replaced-append}

-- ---- fronts of a write

take-none : {X : Type 0} → (b : ℕ) → take {A = X} b [] ≡ []
take-none zero = refl
take-none (suc b) = refl

pub take-more : {X : Type 0} → (a b : ℕ) (xs : List X) → take a xs ++ take b (drop a xs) ≡ take (a + b) xs
take-more zero b xs = let e : 0 + b ≡ b = omega arith in rw e refl
take-more {X} (suc a) b [] = let e : suc a + b ≡ suc (a + b) = omega arith in rw e (take-none {X = X} b)
take-more {X} (suc a) b (x ∷ xs) = let e : suc a + b ≡ suc (a + b) = omega arith in rw e (ap (λ (ys : List X). x ∷ ys) (take-more a b xs))

-- one batch more, of the blocks that were left
pub written-more : (array now new : List (List ℕ)) (first done count next more : ℕ) (blocks left : List (List ℕ)) → now ≡ replaced array first (take done blocks) → next ≡ first + done → more ≡ done + count → done ≤ length blocks → left ≡ drop done blocks
    → new ≡ replaced now next (take count left) → new ≡ replaced array first (take more blocks)
written-more array now new first done count next more blocks left was next-is more-is le left-is is =
    let so : new ≡ replaced (replaced array first (take done blocks)) next (take count (drop done blocks)) = rw (← was, ← left-is) is in
    let both : take done blocks ++ take count (drop done blocks) ≡ take more blocks = rw more-is (take-more done count blocks) in
    so ∙ replaced-append array first next (take done blocks) (take count (drop done blocks)) (omega (arith, next-is, length-take done blocks, le)) ∙ ap (λ (xs : List (List ℕ)). replaced array first xs) both

-- what was done, where the next batch was refused with a front of the blocks that were left
pub write-front : (array now new : List (List ℕ)) (first done next : ℕ) (blocks left : List (List ℕ)) → now ≡ replaced array first (take done blocks) → next ≡ first + done → done ≤ length blocks → left ≡ drop done blocks → IsFront now next left new
    → IsFront array first blocks new
write-front array now new first done next blocks left was next-is le left-is front = record {
  done = done + front.done;
  within = omega (arith, front.within, ap length left-is, length-drop done blocks, le);
  written = written-more array now new first done front.done next (done + front.done) blocks left was next-is refl le left-is front.written;
}

-- ---- what is known beforehand

-- a range past the end is refused
pub known-past : (disk : DiskView) (first n : ℕ) → 0 < n → disk_size disk < first + n → known_range (flat_of disk) first n ≡ Some (Err OutOfRange)
known-past disk first n some past =
    let none : (n == 0) ≡ false = grind (arith, nat_tests, some) in
    let lt : nat_lt (disk_size disk) (first + n) ≡ true = grind (arith, nat_tests, past) in
    rw (none, lt) refl

-- ---- the flat disk, part by part

-- the flat disk that a disk shows
pub flat-is : (old new : DiskView) (array : List (List ℕ)) (size : ℕ) (status : DiskStatus) → disk_array new ≡ array → disk_size new ≡ size → new.status ≡ status → new.drive.geometry ≡ old.drive.geometry
    → flat_of new ≡ record { array = array; size = size; status = status; block = old.drive.geometry.block; most = most_size old.drive.geometry }
flat-is old new array size status array-is size-is status-is geometry-is = rw (array-is, size-is, status-is, geometry-is) refl

-- a refusal leaves the status of a flat disk
status-refused : (fault : DiskFault) → status_left fault ≡ status_after (Err fault)
status-refused OutOfRange = refl
status-refused OutOfMemory = refl
status-refused Failed = refl
status-refused Stopped = refl
status-refused Spent = refl
status-refused Smaller = refl
status-refused Reserve = refl
status-refused Unmounted = refl
status-refused Damaged = refl

-- what is left of a disk by a refusal
pub flat-refused : (old new : DiskView) (fault : DiskFault) → disk_size new ≡ disk_size old → new.status ≡ status_left fault → new.drive.geometry ≡ old.drive.geometry → flat_of new ≡ record (flat_of old) { array = disk_array new; status = status_after (Err fault) }
flat-refused old new fault size status geometry = flat-is old new (disk_array new) (disk_size old) (status_after (Err fault)) refl size (status ∙ status-refused fault) geometry

-- ---- causes

-- the cause of a fault, as a disk says it
pub cause-of : (disk : DiskView) (fault : DiskFault) → IsCause disk.drive (next_sequence disk) fault → DiskCause disk fault
cause-of disk OutOfRange cause = tt
cause-of disk OutOfMemory cause = cause
cause-of disk Failed cause = cause
cause-of disk Stopped cause = cause
cause-of disk Spent cause = cause
cause-of disk Smaller cause = tt
cause-of disk Reserve cause = tt
cause-of disk Unmounted cause = absurd cause
cause-of disk Damaged cause = absurd cause

-- and that of a read
pub read-cause : (disk : DiskView) (fault : DiskFault) → IsReadFault disk.drive fault → DiskCause disk fault
read-cause disk OutOfRange cause = tt
read-cause disk OutOfMemory cause = tt
read-cause disk Failed cause = cause
read-cause disk Stopped cause = cause
read-cause disk Spent cause = absurd cause
read-cause disk Smaller cause = tt
read-cause disk Reserve cause = tt
read-cause disk Unmounted cause = absurd cause
read-cause disk Damaged cause = absurd cause

-- ---- the answers of a write

-- a call that isn't done before it begins
pub goes-begun : (old : DiskView) (first n : ℕ) (done : Bool) → known_range (flat_of old) first n ≡ answer_before (Ok done) → done ≡ false → known_range (flat_of old) first n ≡ None
goes-begun old first n true known e = absurd (cc)
goes-begun old first n false known e = known

-- and one that is
pub done-known : (old : DiskView) (first n : ℕ) (done : Bool) → known_range (flat_of old) first n ≡ answer_before (Ok done) → done ≡ true → known_range (flat_of old) first n ≡ Some (Ok tt)
done-known old first n true known e = known
done-known old first n false known e = absurd (cc)

-- an answer that is known is given
pub write-known : (old : DiskView) (first n : ℕ) (blocks : List (List ℕ)) (result : Result (Unit {0}) DiskFault) → length blocks ≡ n → known_range (flat_of old) first n ≡ Some result
    → FlatCall (flat_of old) (write first blocks) (with_nothing result) (flat_of old)
write-known old first n blocks result long known = rw (long, known) (refl, refl)

-- and if none was known, nothing is said of it
pub write-unknown : (old new : DiskView) (first n : ℕ) (blocks : List (List ℕ)) → length blocks ≡ n → known_range (flat_of old) first n ≡ None → is_known (flat_of old) (write first blocks) ≡ true → new ≡ old
write-unknown old new first n blocks long none known = let e : false ≡ true = rw (long, none) at known in absurd (cc)

-- a write that is done is a flat disk's
pub write-done : (old new : DiskView) (first n done : ℕ) (blocks : List (List ℕ)) → length blocks ≡ n → known_range (flat_of old) first n ≡ None → old.status ≡ statuses.Serving → n ≤ done → disk_array new ≡ replaced (disk_array old) first (take done blocks) → disk_size new ≡ disk_size old
    → new.status ≡ statuses.Serving → new.drive.geometry ≡ old.drive.geometry → FlatCall (flat_of old) (write first blocks) (with_nothing (Ok tt)) (flat_of new)
write-done old new first n done blocks long known was most is size serves geometry =
    let all : disk_array new ≡ replaced (disk_array old) first blocks = is ∙ ap (λ (xs : List (List ℕ)). replaced (disk_array old) first xs) (take_all done blocks (omega (arith, long, most))) in
    rw (long, known) (refl, flat-is old new (replaced (disk_array old) first blocks) (disk_size old) old.status all size (serves ∙ sym was) geometry)

may-refuse : (disk : DiskView) (first : ℕ) (blocks : List (List ℕ)) (fault : DiskFault) → IsCause disk.drive (next_sequence disk) fault → may_refuse (write first blocks) fault ≡ true
may-refuse disk first blocks OutOfRange cause = absurd cause
may-refuse disk first blocks OutOfMemory cause = refl
may-refuse disk first blocks Failed cause = refl
may-refuse disk first blocks Stopped cause = refl
may-refuse disk first blocks Spent cause = refl
may-refuse disk first blocks Smaller cause = absurd cause
may-refuse disk first blocks Reserve cause = absurd cause
may-refuse disk first blocks Unmounted cause = absurd cause
may-refuse disk first blocks Damaged cause = absurd cause

-- and one that was refused midway
pub write-refused : (old new : DiskView) (first n : ℕ) (blocks : List (List ℕ)) (fault : DiskFault) → length blocks ≡ n → known_range (flat_of old) first n ≡ None → IsFront (disk_array old) first blocks (disk_array new) → disk_size new ≡ disk_size old → new.status ≡ status_left fault
    → new.drive.geometry ≡ old.drive.geometry → IsCause new.drive (next_sequence new) fault → FlatCall (flat_of old) (write first blocks) (with_nothing (Err fault)) (flat_of new)
write-refused old new first n blocks fault long known front size status geometry cause =
    rw (long, known) (may-refuse new first blocks fault cause, refl, front, flat-refused old new fault size status geometry)

-- ---- batches of a write

-- more blocks have records of the kind
pub names-more : (trim : Bool) (old now new : List Place) (first done next count more : ℕ) → next ≡ first + done → more ≡ done + count → Names trim old first done now → Names trim now next count new → Names trim old first more new
names-more trim old now new first done next count more next-is more-is before names = record {
  named = λ block low high. elim (cases_lt block next) as (λ _. trims (get_or new block places.None) ≡ Some trim) [
    | inl below ↦ rw (names.others block (inl below)) (before.named block low (omega (arith, below, next-is)))
    | inr above ↦ names.named block above (omega (arith, high, next-is, more-is))
  ];
  others = λ block out. elim out as (λ _. trims (get_or new block places.None) ≡ trims (get_or old block places.None)) [
    | inl low ↦ names.others block (inl (omega (arith, low, next-is))) ∙ before.others block (inl low)
    | inr high ↦ names.others block (inr (omega (arith, high, next-is, more-is))) ∙ before.others block (inr (omega (arith, high, more-is)))
  ];
}

-- as many blocks as that
pub names-all : (trim : Bool) (old new : List Place) (first done all : ℕ) → done ≡ all → Names trim old first done new → Names trim old first all new
names-all trim old new first done all same names = subst (λ (n : ℕ). Names trim old first n new) same names

-- one batch is at least one of those that there may be
pub batches-some : (trim : Bool) (disk : DiskView) (left : ℕ) → IsInRange disk.drive.geometry → 1 ≤ left → 1 ≤ most_batches trim disk left
batches-some true disk left range some = div_ceil-positive left (batch_most disk.drive.geometry) (positive-most disk.drive.geometry range) some
batches-some false disk left range some = some

-- fewer batches are left after one
pub batches-less : (trim : Bool) (disk : DiskView) (left count : ℕ) → IsInRange disk.drive.geometry → 1 ≤ count → count ≤ left → IsBatchCount disk.drive.geometry trim left count → most_batches trim disk (left - count) + 1 ≤ most_batches trim disk left
batches-less true disk left count range some le is =
    let k = batch_most disk.drive.geometry in
    let pos : 0 < k = positive-most disk.drive.geometry range in
    elim (cases_lt left k) as (λ _. div_ceil (left - count) k + 1 ≤ div_ceil left k) [
      | inl few ↦ (
          let none : left - count ≡ 0 = omega (arith, is, few) in
          rw none (omega (arith, div_ceil-none k pos, div_ceil-positive left k pos (omega (arith, some, le))))
          )
      | inr many ↦ (
          let one : count ≡ k = omega (arith, is, many) in
          let split : left ≡ (left - k) + k = omega (arith, many) in
          rw one (omega (arith, ap (λ (m : ℕ). div_ceil m k) split, div_ceil-add (left - k) k pos))
          )
    ]
batches-less false disk left count range some le is = omega (arith, some, le)

-- the commands of one batch more
pub spend : (left less each now new most : ℕ) → less + 1 ≤ left → new ≤ now + each → now + left * each ≤ most → new + less * each ≤ most
spend left less each now new most fewer one so_far = omega (arith, mul-le (less + 1) each left each fewer (omega arith), add-mul less 1 each, one, so_far)

-- ---- the answers of a growth

-- one whose answer is not known continues
pub growth-unknown : (old new : DiskView) (blocks : ℕ) → known_growth (flat_of old) blocks ≡ None → is_known (flat_of old) (grow blocks) ≡ true → new ≡ old
growth-unknown old new blocks none known = let e : false ≡ true = rw none at known in absurd (cc)

-- a growth that is done is a flat disk's
pub growth-done : (old new : DiskView) (blocks : ℕ) → known_growth (flat_of old) blocks ≡ None → disk_array new ≡ extended (zero_block old.drive.geometry.block) blocks (disk_array old) → disk_size new ≡ blocks → new.status ≡ old.status → new.drive.geometry ≡ old.drive.geometry
    → FlatCall (flat_of old) (grow blocks) (with_nothing (Ok tt)) (flat_of new)
growth-done old new blocks known array size status geometry =
    rw known (refl, flat-is old new (extended (zero_block old.drive.geometry.block) blocks (disk_array old)) blocks old.status array size status geometry)

growth-refuse : (disk : DiskView) (blocks : ℕ) (fault : DiskFault) → IsCause disk.drive (next_sequence disk) fault → may_refuse (grow blocks) fault ≡ true
growth-refuse disk blocks OutOfRange cause = absurd cause
growth-refuse disk blocks OutOfMemory cause = refl
growth-refuse disk blocks Failed cause = refl
growth-refuse disk blocks Stopped cause = refl
growth-refuse disk blocks Spent cause = refl
growth-refuse disk blocks Smaller cause = absurd cause
growth-refuse disk blocks Reserve cause = absurd cause
growth-refuse disk blocks Unmounted cause = absurd cause
growth-refuse disk blocks Damaged cause = absurd cause

-- and one that was refused
pub growth-refused : (old new : DiskView) (blocks : ℕ) (fault : DiskFault) → known_growth (flat_of old) blocks ≡ None → IsAfterFront (flat_of old) (grow blocks) fault (disk_array new) → disk_size new ≡ disk_size old → new.status ≡ status_left fault
    → new.drive.geometry ≡ old.drive.geometry → IsCause new.drive (next_sequence new) fault → FlatCall (flat_of old) (grow blocks) (with_nothing (Err fault)) (flat_of new)
growth-refused old new blocks fault known front size status geometry cause =
    rw known (growth-refuse new blocks fault cause, refl, front, flat-refused old new fault size status geometry)

-- ---- the answers of a read

read-refuse : (drive : DriveState) (first n : ℕ) (fault : DiskFault) → IsReadFault drive fault → may_refuse (read first n) fault ≡ true
read-refuse drive first n OutOfRange cause = absurd cause
read-refuse drive first n OutOfMemory cause = refl
read-refuse drive first n Failed cause = refl
read-refuse drive first n Stopped cause = refl
read-refuse drive first n Spent cause = absurd cause
read-refuse drive first n Smaller cause = absurd cause
read-refuse drive first n Reserve cause = absurd cause
read-refuse drive first n Unmounted cause = absurd cause
read-refuse drive first n Damaged cause = absurd cause

-- a read that is done is a flat disk's
pub read-done : (old new : DiskView) (first n : ℕ) (bytes : List ℕ) → known_range (flat_of old) first n ≡ None → old.status ≡ statuses.Serving → bytes ≡ concat (blocks_from (disk_array old) first n) → disk_array new ≡ disk_array old → disk_size new ≡ disk_size old
    → new.status ≡ statuses.Serving → new.drive.geometry ≡ old.drive.geometry → Reads (flat_of old) first n (Ok tt) bytes (flat_of new)
read-done old new first n bytes known was shown array size serves geometry = record {
  shown = blocks_from (disk_array old) first n;
  flat = rw known (refl, flat-is old new (disk_array old) (disk_size old) old.status array size (serves ∙ sym was) geometry);
  bytes_are = shown;
}

-- and one that was refused
pub read-refused : (old new : DiskView) (first n : ℕ) (fault : DiskFault) (bytes : List ℕ) → known_range (flat_of old) first n ≡ None → bytes ≡ [] → disk_array new ≡ disk_array old → disk_size new ≡ disk_size old
    → new.status ≡ status_left fault → new.drive.geometry ≡ old.drive.geometry → IsReadFault new.drive fault → Reads (flat_of old) first n (Err fault) bytes (flat_of new)
read-refused old new first n fault bytes known none array size status geometry cause = record {
  shown = [];
  flat = rw known (read-refuse new.drive first n fault cause, refl, array, flat-refused old new fault size status geometry);
  bytes_are = none;
}

-- a read whose answer is known changes nothing
pub read-known : (old : DiskView) (first n : ℕ) (result : Result (Unit {0}) DiskFault) (bytes : List ℕ) → known_range (flat_of old) first n ≡ Some result → bytes ≡ []
    → Reads (flat_of old) first n result bytes (flat_of old)
read-known old first n result bytes known none = record { shown = []; flat = rw known (refl, refl); bytes_are = none }

-- one whose answer is not known continues
pub read-unknown : (old new : DiskView) (first n : ℕ) → known_range (flat_of old) first n ≡ None → is_known (flat_of old) (read first n) ≡ true → new ≡ old
read-unknown old new first n none known = let e : false ≡ true = rw none at known in absurd (cc)

-- a disk that serves knows no stop beforehand
pub none-stopped : (old : DiskView) (first n : ℕ) (result : Result (Unit {0}) DiskFault) → known_range (flat_of old) first n ≡ Some result → old.status ≡ statuses.Serving → result ≡ Err Stopped → HasData (disk_places old) first n
none-stopped old first n result known serves stopped = absurd (by (n == 0) (nat_lt (disk_size old) (first + n)) refl refl)
  where
    by : (none past : Bool) → (n == 0) ≡ none → nat_lt (disk_size old) (first + n) ≡ past → ⊥
    by true past e f = let is : Some (Ok tt) ≡ Some (Err Stopped) = rw (e, stopped) at known in cc
    by false true e f = let is : Some (Err OutOfRange) ≡ Some (Err Stopped) = rw (e, f, stopped) at known in cc
    by false false e f = let is : None ≡ Some (Err Stopped) = rw (e, f, serves, stopped) at known in cc

-- a stop was seen at one of the blocks, which has data
pub has-data : (old now : DiskView) (first n block done : ℕ) (fault : DiskFault) (result : Result (Unit {0}) DiskFault) → result ≡ Err fault → block ≡ first + done → done < n → disk_places now ≡ disk_places old → (fault ≡ Stopped → trims (get_or (disk_places now) block places.None) ≡ Some false)
    → result ≡ Err Stopped → HasData (disk_places old) first n
has-data old now first n block done fault result result-is block-is lt same stops stopped =
    let is : fault ≡ Stopped = cc in
    (block, omega (arith, block-is), omega (arith, block-is, lt), rw (← same) (stops is))

-- ---- one block more is shown

concat-append : (xs : List (List ℕ)) (y : List ℕ) → concat (xs ++ y ∷ []) ≡ concat xs ++ y
concat-append [] y = append-nil y
concat-append (x ∷ xs) y = ap (λ (ys : List ℕ). x ++ ys) (concat-append xs y) ∙ sym (append_assoc x (concat xs) y)

-- one block more is shown
pub shown-more : (array : List (List ℕ)) (first count block : ℕ) (shown more : List ℕ) → block ≡ first + count → block < length array → shown ≡ concat (blocks_from array first count) → more ≡ shown ++ get_or array block []
    → more ≡ concat (blocks_from array first (count + 1))
shown-more array first count block shown more block-is lt is more-is =
    let long : count < length (drop first array) = omega (arith, length-drop first array) in
    let at : get_or (drop first array) count [] ≡ get_or array block [] = get_or-drop first array count [] ∙ ap (λ (k : ℕ). get_or array k []) (omega arith) in
    more-is ∙ rw (is, ← at) (sym (concat-append (blocks_from array first count) (get_or (drop first array) count [])) ∙ ap concat (sym (take_more (drop first array) count [] long)))

-- ---- the answers of a turn

-- a turn that is done
pub idle-done : (old new : DiskView) → old.status ≡ statuses.Serving → disk_array new ≡ disk_array old → disk_size new ≡ disk_size old → new.status ≡ old.status → new.drive.geometry ≡ old.drive.geometry → FlatCall (flat_of old) idle (with_nothing (Ok tt)) (flat_of new)
idle-done old new serves array size status geometry =
    let none : known_answer (flat_of old) idle ≡ None = ap answer_while serves in
    rw none (refl, flat-is old new (disk_array old) (disk_size old) old.status array size status geometry)

idle-refuse : (disk : DiskView) (fault : DiskFault) → IsCause disk.drive (next_sequence disk) fault → may_refuse idle fault ≡ true
idle-refuse disk OutOfRange cause = absurd cause
idle-refuse disk OutOfMemory cause = refl
idle-refuse disk Failed cause = refl
idle-refuse disk Stopped cause = refl
idle-refuse disk Spent cause = refl
idle-refuse disk Smaller cause = absurd cause
idle-refuse disk Reserve cause = absurd cause
idle-refuse disk Unmounted cause = absurd cause
idle-refuse disk Damaged cause = absurd cause

-- one that was refused
pub idle-refused : (old new : DiskView) (fault : DiskFault) → old.status ≡ statuses.Serving → disk_array new ≡ disk_array old → disk_size new ≡ disk_size old → new.status ≡ status_left fault → new.drive.geometry ≡ old.drive.geometry → IsCause new.drive (next_sequence new) fault
    → FlatCall (flat_of old) idle (with_nothing (Err fault)) (flat_of new)
idle-refused old new fault serves array size status geometry cause =
    let none : known_answer (flat_of old) idle ≡ None = ap answer_while serves in
    rw none (idle-refuse new fault cause, refl, array, flat-refused old new fault size status geometry)

-- one whose answer is not known continues
pub idle-unknown : (old new : DiskView) → old.status ≡ statuses.Serving → is_known (flat_of old) idle ≡ true → new ≡ old
idle-unknown old new serves known = let e : false ≡ true = rw serves at known in absurd (cc)

-- ---- the answers of a report

-- a report that is done
pub report-done : (old new : DiskView) → old.status ≡ statuses.Serving → disk_array new ≡ disk_array old → disk_size new ≡ disk_size old → new.status ≡ old.status → new.drive.geometry ≡ old.drive.geometry → FlatCall (flat_of old) report (with_nothing (Ok tt)) (flat_of new)
report-done old new serves array size status geometry =
    let none : known_answer (flat_of old) report ≡ None = ap answer_while serves in
    rw none (refl, flat-is old new (disk_array old) (disk_size old) old.status array size status geometry)

report-refuse : (drive : DriveState) (fault : DiskFault) → IsReadFault drive fault → may_refuse report fault ≡ true
report-refuse drive OutOfRange cause = absurd cause
report-refuse drive OutOfMemory cause = refl
report-refuse drive Failed cause = refl
report-refuse drive Stopped cause = refl
report-refuse drive Spent cause = absurd cause
report-refuse drive Smaller cause = absurd cause
report-refuse drive Reserve cause = absurd cause
report-refuse drive Unmounted cause = absurd cause
report-refuse drive Damaged cause = absurd cause

-- one that was refused
pub report-refused : (old new : DiskView) (fault : DiskFault) → old.status ≡ statuses.Serving → disk_array new ≡ disk_array old → disk_size new ≡ disk_size old → new.status ≡ status_left fault → new.drive.geometry ≡ old.drive.geometry → IsReadFault new.drive fault
    → FlatCall (flat_of old) report (with_nothing (Err fault)) (flat_of new)
report-refused old new fault serves array size status geometry cause =
    let none : known_answer (flat_of old) report ≡ None = ap answer_while serves in
    rw none (report-refuse new.drive fault cause, refl, array, flat-refused old new fault size status geometry)

-- one whose answer is not known continues
pub report-unknown : (old new : DiskView) → old.status ≡ statuses.Serving → is_known (flat_of old) report ≡ true → new ≡ old
report-unknown old new serves known = let e : false ≡ true = rw serves at known in absurd (cc)
