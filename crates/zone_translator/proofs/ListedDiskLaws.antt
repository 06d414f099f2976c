-- The calls of a disk that write a list.
use Rattle.std.proofs.Common.{◌≡◌, ◌≢◌, ℕ, zero, suc, ◌+◌, ◌*◌, ◌<◌, ◌≤◌, Bool, true, false, ◌&&◌, eqb, nat_lt, List, [], ◌∷◌, ◌++◌, map, get_or, length, take, drop, Option, Some, None, Result, Ok, Err, refl, sym, ap, subst, ◌∙◌, arith}
use Rattle.std.specs.Prelude.{nat_eq}
use Rattle.std.specs.List.{AllByRecursion, IsDistinct, list_all}
use Rattle.std.proofs.lemmas.Bool.{eq-eqb}
use Rattle.std.proofs.lemmas.Bool.Decides.{nat_tests}
use Rattle.std.proofs.lemmas.List.{length-drop}
use Rattle.std.proofs.Math.Nat.{add-mul}
use Rattle.std.proofs.lemmas.Nat.{mul-le}
use Rattle.zone_states.specs.Zone.{cut_blocks}
use Rattle.batch_log.specs.Log.{data_count}
use Rattle.logical_map.specs.declared.place.Place.TheVariants as places
use Rattle.zone_cleaner.specs.Clean.{trims}
use Rattle.zone_translator.specs.Answers.{KeepsClean}
use Rattle.zone_translator.specs.Changes.{IsCause}
use Rattle.zone_translator.specs.Cleaning.{AddsNewer, KeepsCleaning}
use Rattle.zone_translator.specs.Flat.{FlatCall, IsListFront, Put, answer_while, known_blocks, may_refuse, put_all, with_nothing, write_list}
use Rattle.zone_translator.specs.Listed.{blocks_named, list_puts, puts_from, puts_of}
use Rattle.zone_translator.specs.View.{DiskView, disk_array, disk_size, flat_of, mounted_of, next_sequence}
use Rattle.zone_translator.proofs.CallLaws.{flat-is, flat-refused, take-more}
use Rattle.zone_translator.proofs.CleaningLaws.{StaysClean}
use Rattle.zone_translator.proofs.ContentLaws.{cut-drop}
use Rattle.zone_translator.proofs.DiskLaws.{refused-clean}
use Rattle.zone_translator.proofs.ListedLaws.{blocks-put, distinct-front, length-puts, put-more, puts-rest}
use Rattle.batch_log.specs.declared.header.Entry.{Entry}
use Rattle.zone_choice.specs.Agreement.{MountedView, mounted_array}
use Rattle.drive_array.specs.Reserve.{FitsReserve}
use Rattle.zone_cleaner.specs.Clean.{CleanView}
use Rattle.zone_cleaner.specs.Start.{AgreesWithClean, KeepsByCleaning}
use Rattle.logical_map.specs.declared.place.Place.{Place}
use Rattle.zone_translator.specs.declared.list.ListRest.{ListRest}
use Rattle.zone_translator.specs.declared.list.Taken.{Taken}
use Rattle.zone_translator.specs.declared.fault.DiskFault.{DiskFault}
use Rattle.zone_translator.specs.declared.fault.DiskFault.TheVariants.{OutOfRange, OutOfMemory, Stopped, Spent, Unmounted, Smaller, Reserve, Damaged, Failed}
use Rattle.zone_translator.specs.declared.status.DiskStatus.{DiskStatus}
use Rattle.zone_translator.specs.declared.status.DiskStatus.TheVariants as statuses
use Rattle.zone_translator.specs.Calls.{answer_before, is_known, status_left}
use Rattle.zone_translator.specs.Listed.{CanPutAll, IsFrontOf, ListedLeaves, NamesAll, PutSome, left_puts}
use Rattle.zone_translator.proofs.DiskLaws.{Refused, refused-serving, refused-stopped, view_of}

-- with the front of a list that was made
pub record RefusedList (a b : MountedView) (clean clean' : Option CleanView) (puts : List Put) (fault : DiskFault) (was : DiskStatus) : Type 0 where
  pub refused : Refused a b clean clean' fault was
  pub front : IsListFront (mounted_array a) puts (mounted_array b)

-- a list that was refused midway
pub refused-list : (a b : MountedView) (clean clean' : Option CleanView) (left : ListRest) (fault : DiskFault) (was : DiskStatus) → FitsReserve a.drive.geometry a.tables.given → AgreesWithClean a clean
    → ListedLeaves a left (Err fault) b clean' → RefusedList a b clean clean' (left_puts a.drive.geometry left) fault was
refused-list a b clean clean' left fault was fits serves leaves = by fault leaves
  where
    puts : List Put
    puts = left_puts a.drive.geometry left

    same : (fault : DiskFault) → status_left fault ≡ statuses.Serving → KeepsByCleaning a b × AgreesWithClean b clean' → RefusedList a b clean clean' puts fault was
    same fault is kept = record { refused = refused-serving a b clean clean' fault was fits is kept; front = record { done = 0; within = omega arith; written = kept.0.array } }

    by : (fault : DiskFault) → ListedLeaves a left (Err fault) b clean' → RefusedList a b clean clean' puts fault was
    by OutOfRange leaves = same OutOfRange refl leaves
    by OutOfMemory leaves = same OutOfMemory refl leaves
    by Failed leaves = same Failed refl leaves
    by Stopped leaves = record { refused = refused-stopped a b clean clean' was fits serves leaves.0; front = leaves.1 }
    by Spent leaves = same Spent refl leaves
    by Smaller leaves = same Smaller refl leaves
    by Reserve leaves = same Reserve refl leaves
    by Unmounted leaves = same Unmounted refl leaves
    by Damaged leaves = absurd leaves

-- a batch of a list is a part of it
pub put-some : (a b : MountedView) (clean clean' : Option CleanView) (was is : DiskStatus) (left : ListRest) (taken : Taken) → is ≡ statuses.Serving → AgreesWithClean a clean → IsFrontOf left.entries.now taken → ListedLeaves a left (Ok taken) b clean'
    → PutSome (view_of a clean was) left (view_of b clean' is) taken
put-some a b clean clean' was is left taken serving serves front leaves = record {
  front = front;
  array = leaves.array;
  names = rw (serves.0.places, leaves.serves.0.places) at leaves.names;
  says = leaves.says;
  early = leaves.early;
  serving = serving;
}

-- ---- batch by batch

pub data-split : (n : ℕ) (es : List Entry) → data_count (take n es) + data_count (drop n es) ≡ data_count es
data-split zero es = omega arith
data-split (suc n) [] = omega arith
data-split (suc n) (e ∷ es) = omega (arith, data-split n es)

pub all-rest : (P : Entry → Type 0) (n : ℕ) (es : List Entry) → AllByRecursion P es → AllByRecursion P (drop n es)
all-rest P zero es all = all
all-rest P (suc n) [] all = tt
all-rest P (suc n) (e ∷ es) all = all-rest P n es all.1

pub distinct-rest : (n : ℕ) (es : List Entry) → IsDistinct nat_eq (map (λ (e : Entry). e.block) es) → IsDistinct nat_eq (map (λ (e : Entry). e.block) (drop n es))
unfolding IsDistinct
distinct-rest zero es all = all
distinct-rest (suc n) [] all = tt
distinct-rest (suc n) (e ∷ es) all = distinct-rest n es all.1

-- the data of more entries
pub more-data : (n count done more : ℕ) (es : List Entry) → done ≡ data_count (take n es) → more ≡ data_count (take count (drop n es)) → done + more ≡ data_count (take (n + count) es)
more-data zero count done more es was is = let e : 0 + count ≡ count = omega arith in rw e (omega (arith, was, is))
more-data (suc n) count done more [] was is = let none : data_count (take (suc n + count) []) ≡ 0 = by (suc n + count) in let none' : data_count (take count (drop (suc n) [])) ≡ 0 = by count in omega (arith, was, is, none, none')
  where
    by : (k : ℕ) → data_count (take k []) ≡ 0
    by zero = refl
    by (suc k) = refl
more-data (suc n) count done more (e ∷ es) was is =
    let step : suc n + count ≡ suc (n + count) = omega arith in
    let rest = more-data n count (data_count (take n es)) more es refl is in
    rw step (omega (arith, was, rest))

-- a list of no block names none
pub names-none : (es : List Entry) (all : List Place) → length es ≡ 0 → NamesAll es all all
names-none [] all none = record { named = tt; others = λ block out. refl }
names-none (e ∷ es) all none = absurd (omega (arith, none))

-- the blocks that are left, of the data that are left
pub puts-left : (block n done : ℕ) (es : List Entry) (bodies : List ℕ) → done ≡ data_count (take n es) → puts_from block (drop n es) (drop (done * block) bodies) ≡ drop n (puts_from block es bodies)
puts-left block n done es bodies is =
    ap (λ (bs : List (List ℕ)). puts_of block (drop n es) bs) (cut-drop block (data_count es) done (data_count (drop n es)) bodies (omega (arith, is, data-split n es)))
    ∙ ap (λ (k : ℕ). puts_of block (drop n es) (drop k (cut_blocks block (data_count es) bodies))) is
    ∙ puts-rest block n es (cut_blocks block (data_count es) bodies)

-- the data that are left are whole blocks
pub whole-left : (block n done : ℕ) (es : List Entry) (bodies : List ℕ) → done ≡ data_count (take n es) → length bodies ≡ data_count es * block → length (drop (done * block) bodies) ≡ data_count (drop n es) * block
whole-left block n done es bodies is whole =
    let sum : data_count es * block ≡ done * block + data_count (drop n es) * block =
    ap (λ (k : ℕ). k * block) (sym (data-split n es)) ∙ add-mul (data_count (take n es)) (data_count (drop n es)) block ∙ ap (λ (k : ℕ). k * block + data_count (drop n es) * block) (sym is) in
    omega (arith, length-drop (done * block) bodies, whole, sum)

-- they begin within the data
pub left-inside : (block n done : ℕ) (es : List Entry) (bodies : List ℕ) → done ≡ data_count (take n es) → length bodies ≡ data_count es * block → done * block ≤ length bodies
left-inside block n done es bodies is whole =
    let fewer : done ≤ data_count es = omega (arith, is, data-split n es) in
    omega (arith, whole, mul-le done block (data_count es) block fewer (omega arith))

-- so what is left can be written
pub can-left : (disk now : DiskView) (es : List Entry) (bodies : List ℕ) (left : ListRest) (n done block : ℕ) → left.entries.now ≡ drop n es → left.bytes.now ≡ drop (done * block) bodies → block ≡ disk.drive.geometry.block → now.drive.geometry ≡ disk.drive.geometry → disk_size now ≡ disk_size disk
    → n < length es → AllByRecursion (λ (e : Entry). e.block < disk_size disk) es → IsDistinct nat_eq (map (λ (e : Entry). e.block) es) → done ≡ data_count (take n es) → length bodies ≡ data_count es * disk.drive.geometry.block → CanPutAll (mounted_of now) left
can-left disk now es bodies left n done block entries-is bytes-is block-is geometry size lt inside distinct is whole = record {
  some = omega (arith, ap length entries-is, length-drop n es, lt);
  in_range = rw (entries-is, size) (all-rest (λ (e : Entry). e.block < disk_size disk) n es inside);
  distinct = rw entries-is (distinct-rest n es distinct);
  whole = rw (entries-is, bytes-is, geometry, block-is) (whole-left disk.drive.geometry.block n done es bodies is whole);
}

-- and they are the blocks that are left
pub left-is : (disk now : DiskView) (es : List Entry) (bodies : List ℕ) (left : ListRest) (n done block : ℕ) → left.entries.now ≡ drop n es → left.bytes.now ≡ drop (done * block) bodies → block ≡ disk.drive.geometry.block → now.drive.geometry ≡ disk.drive.geometry
    → done ≡ data_count (take n es) → left_puts now.drive.geometry left ≡ drop n (list_puts disk es bodies)
left-is disk now es bodies left n done block entries-is bytes-is block-is geometry is = rw (geometry, entries-is, bytes-is, block-is) (puts-left disk.drive.geometry.block n done es bodies is)

pub length-list : (disk : DiskView) (es : List Entry) (bodies : List ℕ) → length (list_puts disk es bodies) ≡ length es
length-list disk es bodies = length-puts disk.drive.geometry.block es (cut_blocks disk.drive.geometry.block (data_count es) bodies)

-- one batch more
pub put-again : (array now new : List (List ℕ)) (n count more : ℕ) (puts left : List Put) → now ≡ put_all array (take n puts) → left ≡ drop n puts → more ≡ n + count → new ≡ put_all now (take count left) → new ≡ put_all array (take more puts)
put-again array now new n count more puts left was left-is more-is is =
    let so : new ≡ put_all (put_all array (take n puts)) (take count (drop n puts)) = rw (← was, ← left-is) is in
    let both : take n puts ++ take count (drop n puts) ≡ take more puts = rw more-is (take-more n count puts) in
    so ∙ put-more array (take n puts) (take count (drop n puts)) ∙ ap (λ (ps : List Put). put_all array ps) both

-- what was done, where the next batch was refused with a front of what was left
pub list-front : (array now new : List (List ℕ)) (n : ℕ) (puts left : List Put) → now ≡ put_all array (take n puts) → left ≡ drop n puts → n ≤ length puts → IsListFront now left new → IsListFront array puts new
list-front array now new n puts left was left-is le front = record {
  done = n + front.done;
  within = omega (arith, front.within, ap length left-is, length-drop n puts, le);
  written = put-again array now new n front.done (n + front.done) puts left was left-is refl front.written;
}

-- ---- what is named

apart-after : (b : ℕ) (xs ys : List Entry) → AllByRecursion (λ y. eqb b y ≡ false) (map (λ (e : Entry). e.block) (xs ++ ys)) → AllByRecursion (λ (e : Entry). e.block ≢ b) ys
apart-after b [] [] all = tt
apart-after b [] (e ∷ es) all = (ne, apart-after b [] es all.1)
  where
    ne : e.block ≢ b
    ne same = let no : false ≡ true = sym all.0 ∙ eq-eqb b e.block (sym same) in absurd (cc)
apart-after b (e ∷ es) ys all = apart-after b es ys all.1

all-after : (P : Entry → Type 0) (xs ys : List Entry) → AllByRecursion P (xs ++ ys) → AllByRecursion P ys
all-after P [] ys all = all
all-after P (e ∷ es) ys all = all-after P es ys all.1

all-before : (P : Entry → Type 0) (xs ys : List Entry) → AllByRecursion P (xs ++ ys) → AllByRecursion P xs
all-before P [] ys all = tt
all-before P (e ∷ es) ys all = (all.0, all-before P es ys all.1)

named-both : (xs ys : List Entry) (mid new : List Place) → IsDistinct nat_eq (map (λ (e : Entry). e.block) (xs ++ ys)) → NamesAll ys mid new
    → AllByRecursion (λ (e : Entry). trims (get_or mid e.block places.None) ≡ Some e.trim) xs → AllByRecursion (λ (e : Entry). trims (get_or new e.block places.None) ≡ Some e.trim) (xs ++ ys)
unfolding IsDistinct
named-both [] ys mid new distinct more all = more.named
named-both (e ∷ es) ys mid new distinct more all = (more.others e.block (apart-after e.block es ys distinct.0) ∙ all.0, named-both es ys mid new distinct.1 more all.1)

names-both : (xs ys : List Entry) (old mid new : List Place) → IsDistinct nat_eq (map (λ (e : Entry). e.block) (xs ++ ys)) → NamesAll xs old mid → NamesAll ys mid new → NamesAll (xs ++ ys) old new
names-both xs ys old mid new distinct before more = record {
  named = named-both xs ys mid new distinct more before.named;
  others = λ block out. more.others block (all-after (λ (e : Entry). e.block ≢ block) xs ys out) ∙ before.others block (all-before (λ (e : Entry). e.block ≢ block) xs ys out);
}

-- more blocks are named
pub names-again : (es : List Entry) (n count more : ℕ) (old mid new : List Place) → more ≡ n + count → IsDistinct nat_eq (map (λ (e : Entry). e.block) es) → NamesAll (take n es) old mid → NamesAll (take count (drop n es)) mid new → NamesAll (take more es) old new
names-again es n count more old mid new more-is distinct before after =
    let both : take n es ++ take count (drop n es) ≡ take more es = rw more-is (take-more n count es) in
    subst (λ (xs : List Entry). NamesAll xs old new) both
    (names-both (take n es) (take count (drop n es)) old mid new (subst (λ (xs : List Entry). IsDistinct nat_eq (map (λ (e : Entry). e.block) xs)) (sym both) (distinct-front more es distinct)) before after)

-- ---- what is known beforehand

-- all blocks are in range
pub all_inside : (size : ℕ) (es : List Entry) → list_all (λ (e : Entry). nat_lt e.block size) es ≡ true → AllByRecursion (λ (e : Entry). e.block < size) es
all_inside size [] all = tt
all_inside size (e ∷ es) all = by (nat_lt e.block size) refl all (λ more. all_inside size es more)
  where
    by : (inside : Bool) → nat_lt e.block size ≡ inside → inside && list_all (λ (f : Entry). nat_lt f.block size) es ≡ true
        → (list_all (λ (f : Entry). nat_lt f.block size) es ≡ true → AllByRecursion (λ (f : Entry). f.block < size) es) → AllByRecursion (λ (f : Entry). f.block < size) (e ∷ es)
    by true is all rest = (grind (arith, nat_tests, is), rest all)
    by false is all rest = absurd (cc)

-- the same of their numbers
list-named : (size : ℕ) (es : List Entry) → list_all (λ (block : ℕ). nat_lt block size) (blocks_named es) ≡ list_all (λ (e : Entry). nat_lt e.block size) es
list-named size [] = refl
list-named size (e ∷ es) = ap (λ (rest : Bool). nat_lt e.block size && rest) (list-named size es)

pub list_empty : (disk : DiskView) (es : List Entry) → length es ≡ 0 → known_blocks (flat_of disk) (blocks_named es) ≡ Some (Ok tt)
list_empty disk [] none = refl
list_empty disk (e ∷ es) none = absurd (omega (arith, none))

pub list_unknown : (disk : DiskView) (es : List Entry) → 1 ≤ length es → list_all (λ (e : Entry). nat_lt e.block (disk_size disk)) es ≡ true → disk.status ≡ statuses.Serving → known_blocks (flat_of disk) (blocks_named es) ≡ None
list_unknown disk [] some all serves = absurd (omega (arith, some))
list_unknown disk (e ∷ es) some all serves = let named = list-named (disk_size disk) (e ∷ es) ∙ all in rw (named, serves) refl

pub list_known : (disk : DiskView) (es : List Entry) (result : Result (Unit {0}) DiskFault) → 1 ≤ length es → list_all (λ (e : Entry). nat_lt e.block (disk_size disk)) es ≡ true → answer_while disk.status ≡ Some result
    → known_blocks (flat_of disk) (blocks_named es) ≡ Some result
list_known disk [] result some all known = absurd (omega (arith, some))
list_known disk (e ∷ es) result some all known = let named = list-named (disk_size disk) (e ∷ es) ∙ all in rw named known

pub list_past : (disk : DiskView) (es : List Entry) → list_all (λ (e : Entry). nat_lt e.block (disk_size disk)) es ≡ false → known_blocks (flat_of disk) (blocks_named es) ≡ Some (Err OutOfRange)
list_past disk [] past = absurd (cc)
list_past disk (e ∷ es) past = let named = list-named (disk_size disk) (e ∷ es) ∙ past in rw named refl

-- what is known of the entries is known of the blocks that they write
known-puts : (disk : DiskView) (es : List Entry) (bodies : List ℕ) (answer : Option (Result (Unit {0}) DiskFault)) → known_blocks (flat_of disk) (blocks_named es) ≡ answer
    → known_blocks (flat_of disk) (map (λ (p : Put). p.block) (list_puts disk es bodies)) ≡ answer
known-puts disk es bodies answer known = ap (known_blocks (flat_of disk)) (blocks-put disk.drive.geometry.block es (cut_blocks disk.drive.geometry.block (data_count es) bodies)) ∙ known

-- a list that is not done before it begins, and one that is
pub known-none : (disk : DiskView) (es : List Entry) (done : Bool) → known_blocks (flat_of disk) (blocks_named es) ≡ answer_before (Ok done) → done ≡ false → known_blocks (flat_of disk) (blocks_named es) ≡ None
known-none disk es true known e = absurd (cc)
known-none disk es false known e = known

pub known-done : (disk : DiskView) (es : List Entry) (done : Bool) → known_blocks (flat_of disk) (blocks_named es) ≡ answer_before (Ok done) → done ≡ true → known_blocks (flat_of disk) (blocks_named es) ≡ Some (Ok tt)
known-done disk es true known e = known
known-done disk es false known e = absurd (cc)

-- an answer that is known is given
pub answers-known : (disk : DiskView) (es : List Entry) (bodies : List ℕ) (result : Result (Unit {0}) DiskFault) → known_blocks (flat_of disk) (blocks_named es) ≡ Some result
    → FlatCall (flat_of disk) (write_list (list_puts disk es bodies)) (with_nothing result) (flat_of disk)
answers-known disk es bodies result known = let is = known-puts disk es bodies (Some result) known in rw is (refl, refl)

-- and if none was known, nothing is said of it
pub list-begun : (old new : DiskView) (es : List Entry) (bodies : List ℕ) → known_blocks (flat_of old) (blocks_named es) ≡ None → is_known (flat_of old) (write_list (list_puts old es bodies)) ≡ true → new ≡ old
list-begun old new es bodies none known = let is = known-puts old es bodies None none in let e : false ≡ true = rw is at known in absurd (cc)

-- a list that is done is a flat disk's
pub list-done : (old new : DiskView) (es : List Entry) (bodies : List ℕ) → known_blocks (flat_of old) (blocks_named es) ≡ None → disk_array new ≡ put_all (disk_array old) (list_puts old es bodies) → disk_size new ≡ disk_size old → new.status ≡ old.status
    → new.drive.geometry ≡ old.drive.geometry → FlatCall (flat_of old) (write_list (list_puts old es bodies)) (with_nothing (Ok tt)) (flat_of new)
list-done old new es bodies none array size status geometry =
    let is = known-puts old es bodies None none in
    rw is (refl, flat-is old new (put_all (disk_array old) (list_puts old es bodies)) (disk_size old) old.status array size status geometry)

list-may-refuse : (disk : DiskView) (puts : List Put) (fault : DiskFault) → IsCause disk.drive (next_sequence disk) fault → may_refuse (write_list puts) fault ≡ true
list-may-refuse disk puts OutOfRange cause = absurd cause
list-may-refuse disk puts OutOfMemory cause = refl
list-may-refuse disk puts Failed cause = refl
list-may-refuse disk puts Stopped cause = refl
list-may-refuse disk puts Spent cause = refl
list-may-refuse disk puts Smaller cause = absurd cause
list-may-refuse disk puts Reserve cause = absurd cause
list-may-refuse disk puts Unmounted cause = absurd cause
list-may-refuse disk puts Damaged cause = absurd cause

-- and one that was refused midway
pub list-refused : (old new : DiskView) (es : List Entry) (bodies : List ℕ) (fault : DiskFault) → known_blocks (flat_of old) (blocks_named es) ≡ None → IsListFront (disk_array old) (list_puts old es bodies) (disk_array new) → disk_size new ≡ disk_size old
    → new.status ≡ status_left fault → new.drive.geometry ≡ old.drive.geometry → IsCause new.drive (next_sequence new) fault → FlatCall (flat_of old) (write_list (list_puts old es bodies)) (with_nothing (Err fault)) (flat_of new)
list-refused old new es bodies fault none front size status geometry cause =
    let is = known-puts old es bodies None none in
    rw is (list-may-refuse new (list_puts old es bodies) fault cause, refl, front, flat-refused old new fault size status geometry)

-- ---- the clean that ran

-- a clean that ran and was not thrown back, after a batch of a list that was refused
pub refused-list-clean : (a b c : MountedView) (x y z : Option CleanView) (was is : DiskStatus) (fault : DiskFault) → c.drive.geometry ≡ a.drive.geometry → StaysClean a x b y → KeepsCleaning {V = Taken} b y (Err fault) c z → status_left fault ≡ statuses.Serving → KeepsClean (view_of a x was) (view_of c z is)
refused-list-clean a b c x y z was is fault same stays keeps serves = refused-clean a b c x y z was is fault same stays (record { clean = keeps.clean; unfailing = keeps.unfailing; turns = tt; newer = by fault keeps.newer }) serves
  where
    by : (fault : DiskFault) → AddsNewer {V = Taken} b (Err fault) c → AddsNewer {V = ℕ} b (Err fault) c
    by OutOfRange newer = newer
    by OutOfMemory newer = newer
    by Failed newer = newer
    by Stopped newer = newer
    by Spent newer = newer
    by Smaller newer = newer
    by Reserve newer = newer
    by Unmounted newer = newer
    by Damaged newer = newer
